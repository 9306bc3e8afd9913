use Rattle.std.proofs.Common.{◌≡◌, ℕ, ◌+◌, ◌<◌, Bool, true, length, get_or, pos, nat_abs}
use Rattle.engine.specs.Truth.{literal}
use Rattle.propagation.specs.Rows.{at, Shaped, Agrees, opens}
use Rattle.branching.proofs.solve.suppose.Given as goal

-- the row has the assumptions so far, and nothing else
abbrev pub invariant-loop-x : goal.invariant-loop-x
invariant-loop-x l =
    Shaped l.values × (l.top + opens l.values ≡ length l.values)
    × ((i : ℕ) → i < length l.values → nat_abs (at l.values i) ≡ i + 1 → (k : ℕ) × (k < l.x-index) × (get_or l.assumptions k (pos 0) ≡ at l.values i))
    × ((a : ℕ → Bool) → Agrees l.values a → (k : ℕ) → k < l.x-index → literal a (get_or l.assumptions k (pos 0)) ≡ true)
