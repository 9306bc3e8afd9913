-- Numbers that name clauses.
use Rattle.std.specs.Prelude.{ℕ, ◌+◌, ◌<◌, ◌≤◌, List, length, ℤ, pos, slice_index_or, unsigned_abs}

-- each number names one of 512 signals that come behind `base`
abbrev pub Behind : ℕ → List ℤ → Type 0
Behind base xs = (j : ℕ) → j < length xs → (base < unsigned_abs (slice_index_or xs j (pos 0))) × (unsigned_abs (slice_index_or xs j (pos 0)) ≤ base + 512)
