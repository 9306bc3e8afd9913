-- The clauses that a no names, and which of them an entry takes.
use Rattle.std.specs.Prelude.{ℕ, ◌+◌, ◌<◌, ◌≤◌, Bool, true, not, List, length, ℤ, pos, slice_index_or, unsigned_abs}
use Rattle.formula.specs.declared.side.Side.{Side}
use Rattle.formula.specs.declared.side.Side.TheVariants.{Ours, Device}

-- the signals that a question at a level of side σ assumes false come behind this number: t at ours, b at the device's
abbrev pub base_of : ℕ → ℕ → Side → ℕ
base_of n k Ours = n
base_of n k Device = n + k

-- after a no at our level the entry takes each clause that is named; at the device's only those that the kept values do not hit
abbrev pub wanted : Side → Bool → Bool
wanted Ours hit = true
wanted Device hit = not hit

-- each number names such a signal
abbrev pub Names : ℕ → ℕ → Side → List ℤ → Type 0
Names n k σ names = (j : ℕ) → j < length names → (base_of n k σ < unsigned_abs (slice_index_or names j (pos 0))) × (unsigned_abs (slice_index_or names j (pos 0)) ≤ base_of n k σ + k)
