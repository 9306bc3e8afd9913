-- A record that is read from the words in use behind its index. Assumes nothing.
use Rattle.std.proofs.Common.{◌≡◌, ℕ, ◌+◌, ◌-◌, ◌<◌, ◌≤◌, List, length, get_or, take, drop, ℤ, pos, negsuc, ◌≤ℤ◌, ap, ◌∙◌, arith}
use Rattle.std.specs.List.{slice_range}
use Rattle.std.specs.Int.{FitsUnsignedBits}
use Rattle.std.proofs.lemmas.Int.{ints}
use Rattle.std.proofs.lemmas.List.{get_or-take, get_or-drop, take-take, drop-take, drop-drop, length-take-le, length-drop}
use Rattle.pool.specs.Layout.{word_at}

pub sign : (z : ℤ) → FitsUnsignedBits 64 z → pos 0 ≤ℤ z
sign (pos n) h = grind (arith, ints)
sign (negsuc n) h = elim h [ ]

pub room_in : (words : List ℤ) → 2 ≤ length words → (k : ℕ) → k ≤ length (take (length words - 2) (drop 2 words)) → k + 2 ≤ length words
room_in words two k h =
    let rest = length-drop 2 words in
    let all = length-take-le (length words - 2) (drop 2 words) (omega arith) in
    omega arith

module _ (pool : List ℤ) (used p : ℕ) (words : List ℤ) (is : words ≡ slice_range pool p used) (long : length words + p ≡ used) (two : 2 ≤ length words) where
  pub word_in : (i : ℕ) → i < length words → get_or words i (pos 0) ≡ word_at pool (p + i)
  word_in i h =
      ap (λ l. get_or l i (pos 0)) is ∙ get_or-take (used - p) (drop p pool) i (pos 0) (omega arith) ∙ get_or-drop p pool i (pos 0)

  pub numbers_in : (k : ℕ) → k + 2 ≤ length words → slice_range (take (length words - 2) (drop 2 words)) 0 k ≡ take k (drop (p + 2) pool)
  numbers_in k h =
      take-take (k - 0) (length words - 2) (drop 2 words) (omega arith)
      ∙ ap (λ l. take (k - 0) (drop 2 l)) is
      ∙ ap (λ n. take (k - 0) (drop 2 (take n (drop p pool)))) (omega arith)
      ∙ ap (take (k - 0)) (drop-take 2 (length words - 2) (drop p pool))
      ∙ take-take (k - 0) (length words - 2) (drop 2 (drop p pool)) (omega arith)
      ∙ ap (λ n. take n (drop 2 (drop p pool))) (omega arith)
      ∙ ap (take k) (drop-drop 2 p pool)
