-- What appending a record to a chain does to the pool. Assumes nothing.
use Rattle.std.specs.Prelude.{◌≡◌, ℕ, ◌+◌, ◌^◌, ◌<◌, ◌≤◌, List, ◌∷◌, ◌++◌, length, take, drop, ℤ, Some, None, Option}
use Rattle.pool.specs.declared.extend.Place.{Place}
use Rattle.std.specs.List.{AllByRecursion}
use Rattle.pool.specs.Layout.{record_words, size_for, place_after}
use Rattle.pool.specs.Records.{records, Literal, Sound}

-- a record of so many numbers has room behind the words in use, and its chain's head lies among these
pub record Room (words used head count : ℕ) : Type 0 where
  pub below : head < place_after used
  pub within : place_after used + size_for count ≤ words
  pub indexed : place_after used + size_for count < 2 ^ 31

-- the pool with the record of the numbers put directly behind the words in use; every other word is as before
abbrev pub written : List ℤ → ℕ → ℕ → List ℤ → List ℤ
written pool used head numbers =
    take (place_after used) pool ++ record_words head numbers ++ drop (place_after used + size_for (length numbers)) pool

-- the new head and the new words in use, or a refusal that changes nothing
abbrev pub Appended : List ℤ → ℕ → ℕ → List ℤ → List ℤ → Option Place → Type 0
Appended pool used head numbers after (Some place) =
    Room (length pool) used head (length numbers) × (after ≡ written pool used head numbers)
    × (place.head ≡ place_after used) × (place.used ≡ place_after used + size_for (length numbers))
Appended pool used head numbers after None = (Room (length pool) used head (length numbers) → ⊥) × (after ≡ pool)

-- the new chain is sound, and its records are the new one in front of the old ones
abbrev pub Grows : List ℤ → ℕ → ℕ → List ℤ → List ℤ → Option Place → Type 0
Grows pool used head numbers after (Some place) =
    (s : ℕ) → Sound s pool used head → AllByRecursion (Literal s) numbers
    → Sound s after place.used place.head × (records after place.head ≡ numbers ∷ records pool head)
Grows pool used head numbers after None = Unit {0}

-- every other chain stays sound, with the records that it had
abbrev pub Keeps : List ℤ → ℕ → List ℤ → Option Place → Type 0
Keeps pool used after (Some place) =
    (s other : ℕ) → Sound s pool used other → Sound s after place.used other × (records after other ≡ records pool other)
Keeps pool used after None = Unit {0}
