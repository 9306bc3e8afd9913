use Rattle.std.proofs.Common.{◌<◌, length, sym, refl, ap, ◌∙◌, subst, arith}
use Rattle.std.proofs.lemmas.List.{at_drop_all, length-set}
use Rattle.formula.specs.Model.{qbf}
use Rattle.layout.specs.Laying.{laid_chains, EnoughChains}
use Rattle.layout.specs.Places.{laid_as}
use Rattle.layout.specs.Opening.{level_chains}
use Rattle.layout.specs.Opened.{new_levels, put_from}
use Rattle.layout.proofs.Counted.{first_chains}
use Rattle.layout.proofs.Begun.{chains_next, levels_next, enough_next_levels, enough_level, first_levels}
use Rattle.layout.proofs.begin.write_levels.Goals as goal

pub loop-m-init : goal.loop-m-init
loop-m-init c =
    let q = qbf c.args.formula.now.parts in (
      refl,
      refl,
      subst (EnoughChains (length c.args.pool.now) (laid_as c.args.pool.now c.args.place)) (sym (first_chains q.clauses q.variables c.first_side-side.result q.first q.levels c.first_side-side.ensures)) c.requires,
      c.told-levels,
    )

pub write-place-requires : goal.write-place-requires
write-place-requires c =
    let q = qbf c.args.formula.now.parts in
    enough_level q (laid_as c.loop-m.pool c.loop-m.place) c.loop-m.side c.loop-m.m c.levels-count.result (length c.args.pool.now) (length c.loop-m.pool)
    (omega (arith, c.levels-count.ensures.value)) c.levels-count.ensures.value c.loop-m.auto.pool c.loop-m.invariant.2

pub loop-m-preserved : goal.loop-m-preserved
loop-m-preserved c =
    let q = qbf c.args.formula.now.parts in
    let m = c.loop-m.m in
    let s = laid_as c.loop-m.pool c.loop-m.place in
    let t = laid_as c.write-place.new.pool c.write-place.result in
    let here : m < length q.levels = omega (arith, c.levels-count.ensures.value) in
    let all = c.levels-count.ensures.value in (
      chains_next q s t c.loop-m.side c.other-side.result m c.levels-count.result here all c.write-place.ensures c.other-side.ensures ∙ c.loop-m.invariant.0,
      levels_next q s t c.loop-m.side c.other-side.result m c.levels-count.result here all c.write-place.ensures c.other-side.ensures c.loop-m.levels _ c.new_level.ensures ∙ c.loop-m.invariant.1,
      enough_next_levels q s t c.loop-m.side c.other-side.result m c.levels-count.result here all c.write-place.ensures c.other-side.ensures (length c.args.pool.now) c.loop-m.invariant.2,
      length-set c.loop-m.levels m c.new_level.result ∙ c.loop-m.invariant.3,
    )

pub returns : goal.returns
returns c =
    let q = qbf c.args.formula.now.parts in
    let C = q.clauses in
    let n = q.variables in
    let s = laid_as c.loop-m.pool c.loop-m.place in
    let s₀ = laid_as c.args.pool.now c.args.place in
    record {
      words = sym (at_drop_all (λ l. laid_chains s (level_chains C n c.loop-m.side l)) q.levels c.loop-m.m (omega (arith, c.levels-count.ensures.value))) ∙ c.loop-m.invariant.0
          ∙ ap (laid_chains s₀) (first_chains C n c.first_side-side.result q.first q.levels c.first_side-side.ensures);
      levels = sym (at_drop_all (λ l. put_from c.loop-m.m (new_levels C n s c.loop-m.side l) c.loop-m.levels) q.levels c.loop-m.m (omega (arith, c.levels-count.ensures.value))) ∙ c.loop-m.invariant.1
          ∙ ap (λ ls. put_from 0 ls c.args.levels.now) (first_levels C n s₀ c.first_side-side.result q.first q.levels c.first_side-side.ensures);
    }
