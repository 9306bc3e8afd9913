use Rattle.std.proofs.Common.{◌≡◌, ℕ, ◌-◌, ◌<◌, ◌≤◌, true, false, ◌⊎◌, length, get_or}
use Rattle.pool.specs.Chains.{records_of}
use Rattle.propagation.specs.Rows.{Shaped, Blocked, back}
use Rattle.propagation.proofs.conflict.explain.Given as goal

-- the marked part of the row still clashes, unless all signals are marked
abbrev pub invariant-loop-t : goal.invariant-loop-t
invariant-loop-t l =
    (l.mark ≤ l.t) × (l.t ≤ l.top) × Shaped l.values
    × (back (l.t - l.mark) l.trail l.mark l.values ≡ back (l.top - l.mark) l.trail l.mark l.initial.values)
    × (Blocked (records_of l.chain) l.marks l.values ⊎ ((k : ℕ) → k < length l.values → get_or l.marks k false ≡ true))
