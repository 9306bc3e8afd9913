use Rattle.std.proofs.Common.{ap, ◌∙◌, arith}
use Rattle.std.proofs.lemmas.List.{at_drop_all}
use Rattle.formula.specs.Model.{qbf}
use Rattle.layout.specs.Laying.{words_for}
use Rattle.layout.proofs.Formulas.{few_in_clause}
use Rattle.layout.proofs.Room.{at_place, clause_next}
use Rattle.layout.proofs.sizes.formula_words.Goals as goal

pub loop-i-preserved : goal.loop-i-preserved
loop-i-preserved c =
    let q = qbf c.args.formula.now.parts in
    let told = c.in-Some.ensures in
    let e = ap words_for (at_place q.clauses c.loop-i.i c.in-Some.clause.now (omega (arith, told.1)) (told.2 ∙ clause_next q c.loop-i.i)) in
    let few = few_in_clause c.args.formula.now c.loop-i.i c.in-Some.clause.now told.2 in
    (omega (arith, e, c.head_words.ensures, c.loop-i.invariant.0), omega (arith, few, c.head_words.ensures, c.loop-i.invariant.1))

pub returns : goal.returns
returns c =
    let q = qbf c.args.formula.now.parts in
    let e = at_drop_all words_for q.clauses c.loop-i.i (omega (arith, c.clauses-i-end.ensures.value)) in
    record { words = omega (arith, e, c.loop-i.invariant.0); few = omega (arith, c.loop-i.invariant.1, c.clauses-i-end.ensures.few) }
