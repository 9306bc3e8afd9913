-- How digits are read one after another. Assumes nothing.
use Rattle.std.proofs.Common.{◌≡◌, ℕ, ◌+◌, ◌-◌, ◌*◌, ◌^◌, ◌<◌, ◌≤◌, true, false, List, length, get_or, drop, Some, None, ◌∙◌, pow-suc, add-one, arith, lit<}
use native.Mathlib.Nat.{pow-le-pow_right}
use Rattle.std.proofs.lemmas.List.{at_drop_more, at_drop_all}
use Rattle.std.proofs.lemmas.Bool.{cond-true, cond-false, or_from, ne_eqb, le-ltb}
use Rattle.reader.specs.Bytes.{digit, read_on, plain}

pub read_more : (n : ℕ) (w : List ℕ) (i : ℕ) → i < length w → digit (get_or w i 0) ≡ true → read_on n (drop i w) ≡ read_on (n * 10 + (get_or w i 0 - 48)) (drop (i + 1) w)
read_more n w i h d = at_drop_more (read_on n) w i 0 h ∙ cond-true _ _ _ d

pub read_stop : (n : ℕ) (w : List ℕ) (i : ℕ) → i < length w → digit (get_or w i 0) ≡ false → read_on n (drop i w) ≡ None
read_stop n w i h d = at_drop_more (read_on n) w i 0 h ∙ cond-false _ _ _ d

pub read_end : (n : ℕ) (w : List ℕ) (i : ℕ) → length w ≤ i → read_on n (drop i w) ≡ Some n
read_end n w i h = at_drop_all (read_on n) w i h

pub ten_more : (n d i : ℕ) → n < 10 ^ i → d ≤ 9 → n * 10 + d < 10 ^ (i + 1)
ten_more n d i h k = rw add-one (omega (arith, pow-suc 10 i))

pub ten_top : (n i j : ℕ) → n < 10 ^ i → i ≤ j → n < 10 ^ j
ten_top n i j h k = omega (arith, pow-le-pow_right {n = 10} (lit< tt) k)

pub plain_is : (w : List ℕ) → 0 < length w → length w ≤ 9 → (get_or w 0 0 ≡ 48 → ⊥) → plain w ≡ read_on 0 w
plain_is w some few first =
    cond-false _ _ _ (or_from _ _ (or_from _ _ (ne_eqb (length w) 0 (λ e. omega arith)) (le-ltb _ _ few)) (ne_eqb _ _ first))
