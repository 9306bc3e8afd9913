-- What the search comes to: a choice of a signal, a complete row, the assumptions that were used. Assumes nothing.
use Rattle.std.specs.Prelude.{◌≡◌, ℕ, suc, ◌+◌, ◌-◌, ◌<◌, ◌≤◌, Bool, true, false, cond, ◌⊎◌, List, [], ◌∷◌, length, take, ℤ, pos, negsuc, Some, None, Option, MatchOption, ◌≢◌, slice_index_or, unsigned_abs}
use Rattle.std.specs.List.{AllByRecursion}
use Rattle.engine.specs.Truth.{each, chain}
use Rattle.engine.specs.Meaning.{Meets, Clash, values}
use Rattle.engine.specs.Count.{number}
use Rattle.propagation.specs.Rows.{at, word_of, Shaped, Agrees, opens}
use Rattle.propagation.specs.Steps.{Holding, Silent}

-- the number of the signal after i, or the opposite
abbrev pub sign : Bool → ℕ → ℤ
sign true i = pos (suc i)
sign false i = negsuc i

-- whether a word is a number above 0
abbrev pub positive : ℤ → Bool
positive (pos n) = true
positive (negsuc n) = false

-- no signal is open
abbrev pub Complete : List ℤ → Type 0
Complete row = (i : ℕ) → i < length row → unsigned_abs (at row i) ≢ 0

-- an assignment does not come before that of a row: where they first differ, it is not the one that is false
abbrev pub NotBefore : List ℤ → (ℕ → Bool) → Type 0
NotBefore row b = (k : ℕ) → k < length row → ((j : ℕ) → j < k → b (suc j) ≡ positive (at row j)) → b (suc k) ≡ false → positive (at row k) ≢ true

-- a record has a true number, or its open signals lie at m or behind
abbrev pub From : List ℤ → ℕ → List ℤ → Type 0
From row m xs = Holding row xs ⊎ ((k : ℕ) → k < length xs → unsigned_abs (word_of row (slice_index_or xs k (pos 0))) ≡ 0 → m ≤ unsigned_abs (slice_index_or xs k (pos 0)) - 1)

-- each assignment that agrees with the row, which is complete, makes the records true, and none that does so comes before it
pub record Met (cs : List (List ℤ)) (row₀ row : List ℤ) : Type 0 where
  pub shaped : Shaped row
  pub complete : Complete row
  pub extends : (a : ℕ → Bool) → Agrees row a → Agrees row₀ a
  pub meets : (a : ℕ → Bool) → Agrees row a → chain a cs ≡ true
  pub long : length row ≡ length row₀
  pub quiet : (j : ℕ) → j < length row₀ → unsigned_abs (at row₀ j) ≡ 0 → AllByRecursion (Silent row₀ j) cs → at row j ≡ sign false j
  pub first : (b : ℕ → Bool) → chain b cs ≡ true → Agrees row₀ b → NotBefore row b

-- where the lowest open signal lies, or behind the row where there is none
abbrev pub place_in : List ℤ → Option ℕ → ℕ
place_in row None = length row
place_in row (Some i) = i

-- the lower of `best` and the open signals of a record that has no true number
abbrev pub Lowest : List ℤ → List ℤ → Option ℕ → Option ℕ → Type 0
Lowest row xs best low = (place_in row low ≤ place_in row best) × ((low ≡ best) ⊎ (MatchOption low ⊥ (λ i. (i < length row) × (unsigned_abs (at row i) ≡ 0) × (Silent row i xs → ⊥)))) × From row (place_in row low) xs

-- the lowest open signal of the records with no true number; none where each has one
abbrev pub Chosen : List (List ℤ) → List ℤ → Option ℕ → Type 0
Chosen cs row (Some i) = (i < length row) × (unsigned_abs (at row i) ≡ 0) × AllByRecursion (From row i) cs × (AllByRecursion (Silent row i) cs → ⊥)
Chosen cs row None = AllByRecursion (Holding row) cs

-- the open signals have become false
abbrev pub Completed : List ℤ → List ℤ → Type 0
Completed row after = (i : ℕ) → i < length row → ((unsigned_abs (at row i) ≡ 0) × (at after i ≡ sign false i)) ⊎ ((unsigned_abs (at row i) ≢ 0) × (at after i ≡ at row i))

-- the marked ones of a list of numbers, in order
abbrev pub used : List Bool → List ℤ → List ℤ
used marks [] = []
used marks (x ∷ xs) = cond (slice_index_or marks (unsigned_abs x - 1) false) (x ∷ used marks xs) (used marks xs)

-- the row and the trail of the assumptions; where two of them clash, their signal is marked
abbrev pub Supposed : List ℤ → List ℤ → List ℕ → List Bool → Option ℕ → Type 0
Supposed named row trail marks (Some top) =
    Shaped row × (top + opens row ≡ length row)
    × ((i : ℕ) → i < length row → unsigned_abs (at row i) ≡ i + 1 → (k : ℕ) × (k < length named) × (slice_index_or named k (pos 0) ≡ at row i))
    × ((a : ℕ → Bool) → Agrees row a → each a named ≡ true)
Supposed named row trail marks None = (a : ℕ → Bool) → each a (used marks named) ≢ true

-- the row has the first assignment that meets records and assumptions, or none does with the marked assumptions
abbrev pub Solved : ℕ → List (List ℤ) → List ℤ → List ℤ → List Bool → Bool → Type 0
Solved s cs named row marks true = (a : ℕ → Bool) × Meets cs named a × (take s row ≡ values a s) × ((b : ℕ → Bool) → Meets cs named b → number a s ≤ number b s)
Solved s cs named row marks false = Clash cs (used marks named)
