-- Values of some of the signals, in a row of words: 0 for an open signal, else its number or the opposite. Assumes nothing.
-- For example, the row -1 0 3 has signal 1 false, signal 2 open and signal 3 true.
use Rattle.std.specs.Prelude.{◌≡◌, ℕ, zero, suc, ◌+◌, ◌-◌, ◌<◌, Bool, true, false, cond, ◌⊎◌, List, [], ◌∷◌, length, ℤ, pos, ◌==◌, ◌≢◌, slice_index, slice_index_or, slice_set, unsigned_abs}
use Rattle.engine.specs.Truth.{literal, chain}

-- the word of the signal after i
abbrev pub at : List ℤ → ℕ → ℤ
at row i = slice_index_or row i (pos 0)

-- the word of a number's signal
abbrev pub word_of : List ℤ → ℤ → ℤ
word_of row x = at row (unsigned_abs x - 1)

-- each word is 0, or the number of its signal, or the opposite
abbrev pub Shaped : List ℤ → Type 0
Shaped row = (i : ℕ) → i < length row → (unsigned_abs (at row i) ≡ 0) ⊎ (unsigned_abs (at row i) ≡ i + 1)

-- a number is false: its signal has the other value
abbrev pub False : List ℤ → ℤ → Type 0
False row x = (word_of row x ≢ x) × (unsigned_abs (word_of row x) ≢ 0)

-- an assignment makes each word but 0 true
abbrev pub Agrees : List ℤ → (ℕ → Bool) → Type 0
Agrees row a = (i : ℕ) → i < length row → unsigned_abs (at row i) ≡ i + 1 → literal a (at row i) ≡ true

-- so for the signals that are marked
abbrev pub AgreesOn : List Bool → List ℤ → (ℕ → Bool) → Type 0
AgreesOn marks row a = (i : ℕ) → i < length row → slice_index_or marks i false ≡ true → unsigned_abs (at row i) ≡ i + 1 → literal a (at row i) ≡ true

-- no assignment that agrees with a row makes the records true
abbrev pub Refuted : List (List ℤ) → List ℤ → Type 0
Refuted cs row = (a : ℕ → Bool) → chain a cs ≡ true → Agrees row a → ⊥

-- none that agrees with the marked part of a row does
abbrev pub Blocked : List (List ℤ) → List Bool → List ℤ → Type 0
Blocked cs marks row = (a : ℕ → Bool) → chain a cs ≡ true → AgreesOn marks row a → ⊥

-- how many signals are open
abbrev pub opens : List ℤ → ℕ
opens [] = 0
opens (x ∷ xs) = cond (unsigned_abs x == 0) 1 0 + opens xs

-- the row with the words at `n` places of the trail from `mark` on, the last first, made 0 again
abbrev pub back : ℕ → List ℕ → ℕ → List ℤ → List ℤ
back zero trail mark row = row
back (suc n) trail mark row = back n trail mark (slice_set row (slice_index trail (mark + n)) (pos 0))
