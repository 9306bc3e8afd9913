use Rattle.std.proofs.Common.{◌+◌, ◌<◌, eqb, length, drop, ap, arith}
use Rattle.std.proofs.lemmas.List.{at_drop_all}
use Rattle.formula.specs.Model.{qbf, level_at}
use Rattle.layout.specs.Laying.{words_for, words_for_chains}
use Rattle.layout.specs.Opening.{level_records, level_chains}
use Rattle.layout.proofs.Counted.{levels_place, first_chains}
use Rattle.layout.proofs.sizes.words_needed.Goals as goal

pub loop-m-init : goal.loop-m-init
loop-m-init c =
    let q = qbf c.args.formula.now.parts in
    let e = ap words_for_chains (first_chains q.clauses q.variables c.first_side-side.result q.first q.levels c.first_side-side.ensures) in
    (omega (arith, e, c.formula_words-total.ensures.words), omega (arith, c.formula_words-total.ensures.few))

pub loop-m-preserved : goal.loop-m-preserved
loop-m-preserved c =
    let q = qbf c.args.formula.now.parts in
    let m = c.loop-m.m in
    let L = c.levels-levels.ensures.value in
    let here : m < length q.levels = omega (arith, L) in
    let rest = drop (m + 1) q.levels in
    let e = ap words_for_chains (levels_place q c.loop-m.side m here) in
    let last = ap (λ k. words_for (level_records q.clauses q.variables c.loop-m.side (level_at q (m + 1)) (eqb (m + 1) k))) L in
    let next = ap (λ σ. words_for_chains (level_chains q.clauses q.variables σ rest)) c.other-side.ensures in
    let told = c.words-total.ensures in
    (omega (arith, e, last, next, told.words, c.loop-m.invariant.0), omega (arith, told.few, c.loop-m.invariant.1))

pub returns : goal.returns
returns c =
    let q = qbf c.args.formula.now.parts in
    let e = at_drop_all (λ l. words_for_chains (level_chains q.clauses q.variables c.loop-m.side l)) q.levels c.loop-m.m (omega (arith, c.levels-levels.ensures.value)) in
    omega (arith, e, c.loop-m.invariant.0)
