use Rattle.std.proofs.Common.{ℤ, Bool, nat_abs, ap, ◌∙◌, arith}
use Rattle.std.proofs.lemmas.List.{take_all}
use Rattle.formula.specs.Lists.{elem, keep}
use Rattle.formula.specs.Model.{qbf, level_at}
use Rattle.formula.proofs.ProperFormula.{proper}
use Rattle.layout.proofs.Formulas.{few_in_clause}
use Rattle.layout.proofs.Room.{clause_next}
use Rattle.layout.proofs.chains.Block.put_literals.Goals as goal

pub overflow_add-clause : goal.overflow_add-clause
overflow_add-clause c = let few = (proper c.args.self.now.formula.now).few_clauses in omega arith

pub push-requires : goal.push-requires
push-requires c =
    let most = few_in_clause c.args.self.now.formula.now c.args.clause c.in-Some.literals.now c.in-Some.ensures.2 in
    (omega arith, omega (arith, most, c.loop-l.invariant.1))

pub returns : goal.returns
returns c =
    let q = qbf c.args.self.now.formula.now.parts in
    let p : ℤ → Bool = λ x. elem (nat_abs x) (level_at q c.args.self.now.level) in
    let most = few_in_clause c.args.self.now.formula.now c.args.clause c.in-Some.literals.now c.in-Some.ensures.2 in
    record {
      literals = c.loop-l.invariant.0 ∙ ap (keep p) (take_all c.loop-l.l-index c.in-Some.literals.now c.loop-l-test.false) ∙ ap (keep p) (c.in-Some.ensures.2 ∙ clause_next q c.args.clause);
      few = omega (arith, most, c.loop-l.invariant.1);
    }
