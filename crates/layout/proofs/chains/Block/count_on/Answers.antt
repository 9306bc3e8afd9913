use Rattle.std.proofs.Common.{◌≡◌, ℤ, Bool, length, nat_abs, sym, ap, ◌∙◌, arith, rules}
use Rattle.std.specs.List.{count_by}
use Rattle.std.proofs.lemmas.List.Sums.{length-filter, count_by-le-length}
use Rattle.formula.specs.Lists.{elem, keep}
use Rattle.formula.specs.Model.{qbf, level_at}
use Rattle.formula.proofs.ProperFormula.{proper}
use Rattle.layout.proofs.Formulas.{few_in_clause}
use Rattle.layout.proofs.Room.{clause_next}
use Rattle.layout.proofs.chains.Block.count_on.Goals as goal

pub overflow_add-clause : goal.overflow_add-clause
overflow_add-clause c = let few = (proper c.args.self.now.formula.now).few_clauses in omega arith

pub returns : goal.returns
returns c =
    let q = qbf c.args.self.now.formula.now.parts in
    let p : ℤ → Bool = λ x. elem (nat_abs x) (level_at q c.args.self.now.level) in
    let ls = c.in-Some.literals.now in
    let most = few_in_clause c.args.self.now.formula.now c.args.clause ls c.in-Some.ensures.2 in
    let told : c.count.result ≡ count_by p c.in-Some.literals.now = search rules in
    let same = length-filter p ls in
    record {
      count = told ∙ sym same ∙ ap (λ l. length (keep p l)) (c.in-Some.ensures.2 ∙ clause_next q c.args.clause);
      few = omega (arith, told, most, count_by-le-length p ls);
    }
