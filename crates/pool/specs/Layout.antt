-- How a record lies in a pool of words: the next record's index, a count, and that many numbers. Assumes nothing.
-- For example, in the pool 9 0 2 4 -5 the record at 1 is the last of its chain and has the numbers 4 -5.
use Rattle.std.specs.Prelude.{ℕ, ◌+◌, ◌≤◌, max, List, ◌∷◌, length, take, drop, ℤ, pos, ◌≤ℤ◌, slice_index_or, unsigned_abs}

-- the word at an index, which is 0 past the pool's end
abbrev pub word_at : List ℤ → ℕ → ℤ
word_at pool p = slice_index_or pool p (pos 0)

-- the index of the record after the one at p, 0 for none
abbrev pub next_at : List ℤ → ℕ → ℕ
next_at pool p = unsigned_abs (word_at pool p)

abbrev pub count_at : List ℤ → ℕ → ℕ
count_at pool p = unsigned_abs (word_at pool (p + 1))

abbrev pub numbers_at : List ℤ → ℕ → List ℤ
numbers_at pool p = take (count_at pool p) (drop (p + 2) pool)

-- the record at p has no negative index and count, and ends before the word `end`
pub record Lies (pool : List ℤ) (p end : ℕ) : Type 0 where
  pub ends : p + 2 + count_at pool p ≤ end
  pub next_sign : pos 0 ≤ℤ word_at pool p
  pub count_sign : pos 0 ≤ℤ word_at pool (p + 1)

-- the words of a record, and how many those are for so many numbers
abbrev pub record_words : ℕ → List ℤ → List ℤ
record_words next numbers = pos next ∷ pos (length numbers) ∷ numbers

abbrev pub size_for : ℕ → ℕ
size_for count = 2 + count

-- where a new record goes: directly after the words in use, of which word 0 always is one
abbrev pub place_after : ℕ → ℕ
place_after used = max 1 used
