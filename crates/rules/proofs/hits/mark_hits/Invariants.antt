use Rattle.std.proofs.Common.{◌≡◌, ℕ, ◌<◌, ◌≤◌, false, ◌||◌, List, length, get_or, ℤ}
use Rattle.formula.specs.Game.{hits}
use Rattle.formula.specs.Backward.{onto}
use Rattle.pool.specs.Chains.{records_of}
use Rattle.layout.specs.Viewed.{values_in, clauses_of}
use Rattle.rules.proofs.hits.mark_hits.Given as goal

-- the clauses that are left are the first so many, and those behind are marked
abbrev pub invariant-loop-i : goal.invariant-loop-i
invariant-loop-i l =
    let left = l.i-iterator.a.iter.end in
    (l.i-iterator.a.iter.start ≡ 0) × (length (records_of l.i-iterator.b) ≡ left) × (length l.marks ≡ 512) × (left ≤ 512)
    × ((done : List (List ℤ)) × (clauses_of l.game l.pool ≡ onto (records_of l.i-iterator.b) done))
    × ((i : ℕ) → left ≤ i → get_or l.marks i false ≡ (hits (clauses_of l.game l.pool) (values_in l.game.variables l.level) i || get_or l.initial.marks i false))
    × ((i : ℕ) → i < left → get_or l.marks i false ≡ get_or l.initial.marks i false)
