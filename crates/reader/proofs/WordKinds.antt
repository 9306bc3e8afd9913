-- What a word is as a token, by its bytes.
use Rattle.std.proofs.Common.{◌≡◌, ℕ, Bool, true, false, ◌&&◌, eqb, List, [], ◌∷◌, length, get_or, ℤ, pos, Some, None, Option, refl, ap, ◌∙◌, arith}
use Rattle.std.specs.Option.{option_map}
use Rattle.std.proofs.lemmas.Bool.{cond-true, cond-false, cond_both, and_parts, eqb-true}
use Rattle.std.proofs.lemmas.Bool.Decides.{nat_tests}
use Rattle.reader.specs.Bytes.{lower, digit, number_of}
use Rattle.reader.specs.Words.{Word, letter, number, other, said_of, by_number}

-- one small letter is no number
letter_digit : (b : ℕ) → lower b ≡ true → digit b ≡ false
letter_digit b h = grind (arith, nat_tests)

letter_no_number : (b : ℕ) → lower b ≡ true → number_of (b ∷ []) ≡ None
letter_no_number b h =
    let zero : eqb b 48 ≡ false = grind (arith, nat_tests) in
    let minus : eqb b 45 ≡ false = grind (arith, nat_tests) in
    cond-false _ _ _ zero ∙ cond-false _ _ _ minus ∙ ap (λ o. option_map pos o) (cond-false _ _ _ zero ∙ cond-false _ _ _ (letter_digit b h))

no_number : (w : List ℕ) → eqb (length w) 1 ≡ true → lower (get_or w 0 0) ≡ true → number_of w ≡ None
no_number [] e h = refl
no_number (b ∷ []) e h = letter_no_number b h
no_number (b ∷ c ∷ w) e h = let z : length (b ∷ c ∷ w) ≡ 1 = eqb-true (length (b ∷ c ∷ w)) 1 e in absurd (omega arith)

-- a word that writes a number is that number
pub said_number : (w : Word) (z : ℤ) → number_of w.bytes ≡ Some z → said_of w ≡ number z w.bytes w.place
said_number w z e =
    cond_both (eqb (length w.bytes) 1 && lower (get_or w.bytes 0 0)) (letter (get_or w.bytes 0 0) w.bytes w.place) (by_number (number_of w.bytes) w) (λ s. s ≡ number z w.bytes w.place)
    (λ t. let p = and_parts _ _ t in let none = no_number w.bytes p.0 p.1 in let f : ◌≡◌ {A = ℕ} 0 1 = cc in absurd (omega arith))
    (λ _. ap (λ o. by_number o w) e)

-- the kinds of words
pub data Kind (w : Word) : Type 0 where
  a_letter : (b : ℕ) → w.bytes ≡ b ∷ [] → said_of w ≡ letter b w.bytes w.place → Kind w
  a_number : (z : ℤ) → number_of w.bytes ≡ Some z → said_of w ≡ number z w.bytes w.place → Kind w
  another : said_of w ≡ other w.bytes w.place → Kind w

by_option : (w : Word) (o : Option ℤ) → number_of w.bytes ≡ o → said_of w ≡ by_number o w → Kind w
by_option w (Some z) e s = a_number z e s
by_option w None e s = another s

one_byte : (w : List ℕ) → eqb (length w) 1 ≡ true → w ≡ get_or w 0 0 ∷ []
one_byte [] e = let z : ◌≡◌ {A = ℕ} 0 1 = cc in absurd (omega arith)
one_byte (b ∷ []) e = refl
one_byte (b ∷ c ∷ w) e = let z : length (b ∷ c ∷ w) ≡ 1 = eqb-true (length (b ∷ c ∷ w)) 1 e in absurd (omega arith)

by_test : (w : Word) (t : Bool) → (eqb (length w.bytes) 1 && lower (get_or w.bytes 0 0)) ≡ t → Kind w
by_test w true e = a_letter (get_or w.bytes 0 0) (one_byte w.bytes (and_parts _ _ e).0) (cond-true _ _ _ e)
by_test w false e = by_option w (number_of w.bytes) refl (cond-false _ _ _ e)

pub kind : (w : Word) → Kind w
kind w = by_test w (eqb (length w.bytes) 1 && lower (get_or w.bytes 0 0)) refl
