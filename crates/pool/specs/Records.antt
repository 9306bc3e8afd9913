-- The records of a chain, and when a chain is sound. Assumes nothing.
use Rattle.std.specs.Prelude.{◌≡◌, ℕ, zero, suc, ◌<◌, ◌≤◌, List, [], ◌∷◌, length, ℤ, unsigned_abs}
use Rattle.std.specs.List.{AllByRecursion}
use Rattle.pool.specs.Layout.{next_at, numbers_at, Lies}

-- the numbers of each record from p on, of at most `fuel` records
abbrev pub walk : ℕ → List ℤ → ℕ → List (List ℤ)
walk zero pool p = []
walk (suc fuel) pool zero = []
walk (suc fuel) pool (suc q) = numbers_at pool (suc q) ∷ walk fuel pool (next_at pool (suc q))

-- the indices of a sound chain fall, so that it has at most `head` records
abbrev pub records : List ℤ → ℕ → List (List ℤ)
records pool head = walk head pool head

-- a number that names one of the signals 1 to s, or its opposite
abbrev pub Literal : ℕ → ℤ → Type 0
Literal s x = (0 < unsigned_abs x) × (unsigned_abs x ≤ s)

-- the record at p lies whole within the words in use, the one after it lies lower, and its numbers name signals
pub record Whole (s : ℕ) (pool : List ℤ) (used p : ℕ) : Type 0 where
  pub lies : Lies pool p used
  pub falls : next_at pool p < p
  pub literals : AllByRecursion (Literal s) (numbers_at pool p)

abbrev pub Linked : ℕ → ℕ → List ℤ → ℕ → ℕ → Type 0
Linked zero s pool used p = p ≡ 0
Linked (suc fuel) s pool used zero = Unit {0}
Linked (suc fuel) s pool used (suc q) = Whole s pool used (suc q) × Linked fuel s pool used (next_at pool (suc q))

-- the chain at head is sound for s signals
abbrev pub Sound : ℕ → List ℤ → ℕ → ℕ → Type 0
Sound s pool used head = (used ≤ length pool) × Linked head s pool used head
