use Rattle.std.proofs.Common.{◌≡◌, ℕ, ◌<◌, ◌≤◌, false, ◌⊎◌, nat_abs}
use Rattle.propagation.specs.Rows.{at}
use Rattle.branching.specs.Search.{sign}
use Rattle.branching.proofs.choose.complete.Given as goal

-- the open signals so far are false, and every other word is as it was
abbrev pub invariant-loop-i : goal.invariant-loop-i
invariant-loop-i l =
    ((k : ℕ) → k < l.i → ((nat_abs (at l.initial.values k) ≡ 0) × (at l.values k ≡ sign false k)) ⊎ ((nat_abs (at l.initial.values k) ≡ 0 → ⊥) × (at l.values k ≡ at l.initial.values k)))
    × ((k : ℕ) → l.i ≤ k → at l.values k ≡ at l.initial.values k)
