use Rattle.std.proofs.Common.{◌≡◌, ℕ, ◌+◌, ◌<◌, ◌≤◌, eqb, List, length, ℤ}
use Rattle.formula.specs.Lists.{In}
use Rattle.formula.specs.Backward.{onto}
use Rattle.pool.specs.Chains.{records_of}
use Rattle.layout.specs.Shown.{variables_at}
use Rattle.layout.specs.Viewed.{clauses_of}
use Rattle.layout.specs.Opening.{clause_records}
use Rattle.plan_check.proofs.openings.is_opening.Given as goal

-- the clauses from the last on have been looked at, down to those that are left, and none of them makes the record
abbrev pub invariant-loop-i : goal.invariant-loop-i
invariant-loop-i l =
    let left = l.i-iterator.a.iter.end in
    (l.i-iterator.a.iter.start ≡ 0) × (length (records_of l.i-iterator.b) ≡ left) × (left ≤ l.game.clauses)
    × ((done : List (List ℤ)) × (clauses_of l.game l.pool ≡ onto (records_of l.i-iterator.b) done))
    × ((i : ℕ) → left ≤ i → i < l.game.clauses → In l.numbers (clause_records (clauses_of l.game l.pool) l.game.variables l.side (variables_at l.game l.m) (eqb (l.m + 1) l.game.depth) i) → ⊥)
