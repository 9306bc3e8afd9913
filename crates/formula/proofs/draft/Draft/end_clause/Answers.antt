use Rattle.std.proofs.Common.{◌≡◌, ℕ, ◌+◌, ◌<◌, length, set, Ok, sym, ap, ◌∙◌, arith, rules}
use Rattle.std.proofs.lemmas.Bool.{cond-true, lt-ltb}
use Rattle.formula.specs.Built.{built, closed, ending, leaves}
use Rattle.formula.proofs.Adds.{built_clause}
use Rattle.formula.proofs.draft.Draft.end_clause.Goals as goal

pub returns-clause-after : goal.returns-clause-after
returns-clause-after c =
    let p = c.args.self.now.parts in
    let room : p.clauses + 1 < length p.ends = search rules in
    let few : length (built p).clauses < 512 = omega (arith, c.clauses-clauses.ensures.count) in
    let ok : ending (built p) ≡ Ok (closed (built p)) = cond-true _ _ _ (lt-ltb _ _ few) in
    ap (λ (k : ℕ). built (record { variables = p.variables; first = p.first; levels = p.levels; bound = p.bound; clauses = k + 1; ends = set p.ends (k + 1) p.count; count = p.count; literals = p.literals })) c.clauses-clauses.ensures.value
    ∙ built_clause p c.args.self.now.ordered c.args.self.now.ends room ∙ sym (ap (leaves (built p)) ok)
