-- What a record, a row of values and propagation come to. Assumes nothing.
use Rattle.std.specs.Prelude.{◌≡◌, ℕ, ◌+◌, ◌-◌, ◌<◌, ◌≤◌, Bool, true, ◌⊎◌, List, length, take, ℤ, pos, Some, None, Option, ◌≢◌, slice_index, slice_index_or, unsigned_abs}
use Rattle.std.specs.List.{AllByRecursion}
use Rattle.pool.specs.Records.{Literal}
use Rattle.engine.specs.Truth.{chain}
use Rattle.propagation.specs.declared.status.Status.{Status}
use Rattle.propagation.specs.declared.status.Status.TheVariants.{Holds, Fails, Forces, Open}
use Rattle.propagation.specs.Rows.{at, word_of, Shaped, False, Agrees, Refuted, Blocked, opens, back}

-- the number at k is true, or open
abbrev pub TrueAt : List ℤ → List ℤ → ℕ → Type 0
TrueAt row xs k = (k < length xs) × Literal (length row) (slice_index_or xs k (pos 0)) × (word_of row (slice_index_or xs k (pos 0)) ≡ slice_index_or xs k (pos 0))

abbrev pub OpenAt : List ℤ → List ℤ → ℕ → Type 0
OpenAt row xs k = (k < length xs) × Literal (length row) (slice_index_or xs k (pos 0)) × (unsigned_abs (word_of row (slice_index_or xs k (pos 0))) ≡ 0)

-- a record has a true number
abbrev pub Holding : List ℤ → List ℤ → Type 0
Holding row xs = (k : ℕ) × TrueAt row xs k

-- a record has a true number or an open one
abbrev pub Alive : List ℤ → List ℤ → Type 0
Alive row xs = Holding row xs ⊎ ((k : ℕ) × OpenAt row xs k)

-- a record has a true number, or does not name the signal after j
abbrev pub Silent : List ℤ → ℕ → List ℤ → Type 0
Silent row j xs = Holding row xs ⊎ ((k : ℕ) → k < length xs → unsigned_abs (slice_index_or xs k (pos 0)) - 1 ≢ j)

-- the number x is open, and every other number of a record is false
pub record Forced (row xs : List ℤ) (x : ℤ) : Type 0 where
  pub named : Literal (length row) x
  pub unset : unsigned_abs (word_of row x) ≡ 0
  pub others : (k : ℕ) → k < length xs → (slice_index_or xs k (pos 0) ≡ x) ⊎ False row (slice_index_or xs k (pos 0))
  pub member : (k : ℕ) × (k < length xs) × (slice_index_or xs k (pos 0) ≡ x)

-- what a record comes to under a row
abbrev pub Weighed : List ℤ → List ℤ → Status → Type 0
Weighed row xs Holds = Holding row xs
Weighed row xs Fails = (k : ℕ) → k < length xs → False row (slice_index_or xs k (pos 0))
Weighed row xs (Forces x) = Forced row xs x
Weighed row xs Open = (k : ℕ) × OpenAt row xs k

-- the signals that the first `top` places of the trail name are those that are not open
pub record Ready (signals : ℕ) (row : List ℤ) (trail : List ℕ) (top : ℕ) (marks : List Bool) : Type 0 where
  pub signalled : signals ≡ length row
  pub shaped : Shaped row
  pub counted : top + opens row ≡ length row
  pub room : length row ≤ length trail
  pub space : length row ≤ length marks

-- a row has grown from one before, and the trail from `mark` to `top` tells how to take that back
pub record Noted (row₀ : List ℤ) (trail₀ : List ℕ) (mark : ℕ) (row : List ℤ) (trail : List ℕ) (top : ℕ) : Type 0 where
  pub shaped : Shaped row
  pub counted : top + opens row ≡ length row
  pub later : mark ≤ top
  pub inside : (j : ℕ) → mark ≤ j → j < top → slice_index trail j < length row
  pub undone : back (top - mark) trail mark row ≡ row₀
  pub kept : take mark trail ≡ take mark trail₀

-- so, and by words that follow from the records: a signal that no record without a true number names stays open
pub record Grown (cs : List (List ℤ)) (row₀ : List ℤ) (trail₀ : List ℕ) (mark : ℕ) (row : List ℤ) (trail : List ℕ) (top : ℕ) : Type 0 where
  pub noted : Noted row₀ trail₀ mark row trail top
  pub follows : (a : ℕ → Bool) → chain a cs ≡ true → Agrees row₀ a → Agrees row a
  pub extends : (a : ℕ → Bool) → Agrees row a → Agrees row₀ a
  pub long : length row ≡ length row₀
  pub stays : (i : ℕ) → i < length row₀ → (unsigned_abs (at row₀ i) ≢ 0) → at row i ≡ at row₀ i
  pub steady : (j : ℕ) → j < length row₀ → unsigned_abs (at row₀ j) ≡ 0 → AllByRecursion (Silent row₀ j) cs → unsigned_abs (at row j) ≡ 0

-- a row that clashes with the records, by its marked part and as it was before the trail from `mark` to `top`
pub record Traced (signals : ℕ) (cs : List (List ℤ)) (row : List ℤ) (trail : List ℕ) (mark top : ℕ) (marks : List Bool) : Type 0 where
  pub signalled : signals ≡ length row
  pub space : length row ≤ length marks
  pub later : mark ≤ top
  pub room : top ≤ length trail
  pub inside : (j : ℕ) → mark ≤ j → j < top → slice_index trail j < length row
  pub shaped : Shaped row
  pub blocked : Blocked cs marks row
  pub refuted : Refuted cs (back (top - mark) trail mark row)

-- the row is as it was, and its marked part clashes with the records
pub record Stuck (cs : List (List ℤ)) (row₀ : List ℤ) (trail₀ : List ℕ) (mark : ℕ) (row : List ℤ) (trail : List ℕ) (marks : List Bool) : Type 0 where
  pub same : row ≡ row₀
  pub kept : take mark trail ≡ take mark trail₀
  pub blocked : Blocked cs marks row₀

-- what propagation comes to
abbrev pub Propagated : List (List ℤ) → List ℤ → List ℕ → ℕ → List ℤ → List ℕ → List Bool → Option ℕ → Type 0
Propagated cs row₀ trail₀ mark row trail marks (Some top) = Grown cs row₀ trail₀ mark row trail top × AllByRecursion (Alive row) cs
Propagated cs row₀ trail₀ mark row trail marks None = Stuck cs row₀ trail₀ mark row trail marks
