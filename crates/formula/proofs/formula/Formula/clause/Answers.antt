use Rattle.std.proofs.Common.{◌≡◌, ◌+◌, ◌-◌, ◌<◌, ◌≤◌, length, get_or, take, drop, sym, refl, ap, ◌∙◌, arith, rules}
use Rattle.formula.specs.Built.{clause_in}
use Rattle.formula.specs.Model.{qbf}
use Rattle.formula.proofs.Arrays.{ends_below}
use Rattle.formula.proofs.Looked.{clause_there}
use Rattle.formula.proofs.formula.Formula.clause.Goals as goal
use Rattle.formula.proofs.formula.Formula.clause.Goals.{After-to-1}

-- where the clause begins and ends
inside : (c : After-to-1) → let p = c.args.self.now.parts in (get_or p.ends c.in_ok-before.before 0 ≤ get_or p.ends c.args.number 0) × (get_or p.ends c.args.number 0 ≤ length p.literals)
inside c =
    let f = c.args.self.now in
    let p = f.parts in
    let i = c.in_ok-before.before in
    let there : i < p.clauses = omega (arith, c.if-before-clauses.false, c.clauses.ensures.value) in
    let next : i + 1 ≡ c.args.number = omega (arith, c.in_ok-before.ensures.1, c.in_ok-before.ensures.0) in
    let rise : get_or p.ends i 0 ≤ get_or p.ends (i + 1) 0 = f.ordered i there in
    let top : get_or p.ends (i + 1) 0 ≤ p.count = ends_below p.literals p.ends p.clauses p.count f.ordered f.ends.1 i there in
    let all : p.count ≤ length p.literals = search rules in
    let high : get_or p.ends (i + 1) 0 ≡ get_or p.ends c.args.number 0 = ap (λ n. get_or p.ends n 0) next in
    (omega arith, omega arith)

pub offset_bounds-self-from : goal.offset_bounds-self-from
offset_bounds-self-from c =
    let i = inside c in
    let long : length c.args.self.now.parts.literals ≡ 4096 = search rules in
    omega (arith, i)

pub slice_bounds-result-end : goal.slice_bounds-result-end
slice_bounds-result-end c = let i = inside c in search (rules, i)

pub returns : goal.returns
returns c =
    let p = c.args.self.now.parts in
    let i = c.in_ok-before.before in
    let n = c.args.number in
    let next : i + 1 ≡ n = omega (arith, c.in_ok-before.ensures.1, c.in_ok-before.ensures.0) in
    let back : i ≡ n - 1 = omega arith in (
      omega arith,
      omega (arith, c.if-before-clauses.false, c.clauses.ensures.count),
      ap (λ m. take (get_or p.ends m 0 - get_or p.ends i 0) (drop (get_or p.ends i 0) p.literals)) (sym next)
          ∙ ap (clause_in p.literals p.ends) back
          ∙ sym (clause_there (qbf p) (clause_in p.literals p.ends) p.clauses refl n (omega arith) (omega (arith, c.if-before-clauses.false, c.clauses.ensures.value))),
    )
