use Rattle.std.proofs.Common.{◌≡◌, ℕ, ◌-◌, ◌<◌, true, false, get_or, pos, nat_abs}
use Rattle.propagation.proofs.conflict.mark_signals.Given as goal

-- the signals so far are marked, and those that were
abbrev pub invariant-loop-x : goal.invariant-loop-x
invariant-loop-x l =
    ((k : ℕ) → get_or l.initial.marks k false ≡ true → get_or l.marks k false ≡ true)
    × ((k : ℕ) → k < l.x-index → get_or l.marks (nat_abs (get_or l.numbers k (pos 0)) - 1) false ≡ true)
