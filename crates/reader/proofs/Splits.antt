-- The first word of a text is its longest front without a blank. Assumes nothing.
use Rattle.std.proofs.Common.{◌≡◌, ℕ, suc, ◌+◌, ◌-◌, ◌<◌, ◌≤◌, Bool, true, false, List, [], ◌∷◌, length, get_or, take, drop, sym, refl, ap, ◌∙◌, subst, ⊎_elim, add-zero, one-add, arith}
use Rattle.std.specs.List.{prefix_len}
use Rattle.std.proofs.lemmas.List.{drop_more, drop-drop, drop_all, get_or-drop, length-drop}
use Rattle.std.proofs.lemmas.List.Sums.{prefix_len-drop_yes, prefix_len-le-length, prefix_len_stops}
use Rattle.std.proofs.lemmas.Bool.{cases_lt, cond-true, cond-false, not_from_true, not_from_false}
use Rattle.reader.specs.Bytes.{blank, in_word}
use Rattle.reader.specs.Words.{Word, onto, joins, words, left_at}

over : (n k : ℕ) → n + suc k ≡ suc n + k
over n k = omega arith

past_at : (n x : ℕ) (xs : List ℕ) (b : Bool) → blank x ≡ b → words (suc n) xs ≡ words (suc n + prefix_len blank xs) (drop (prefix_len blank xs) xs) → words n (x ∷ xs) ≡ words (n + prefix_len blank (x ∷ xs)) (drop (prefix_len blank (x ∷ xs)) (x ∷ xs))
past_at n x xs true h on =
    let k = prefix_len blank xs in
    cond-true _ _ _ h ∙ on ∙ sym (ap (λ j. words (n + j) (drop j (x ∷ xs))) (cond-true _ _ _ h ∙ one-add k) ∙ ap (λ m. words m (drop k xs)) (over n k))
past_at n x xs false h on =
    sym (ap (λ j. words (n + j) (drop j (x ∷ xs))) (cond-false _ _ _ h) ∙ ap (λ m. words m (x ∷ xs)) (add-zero n))

-- past the gaps in front nothing is lost
pub past_gaps : (n : ℕ) (xs : List ℕ) → words n xs ≡ words (n + prefix_len blank xs) (drop (prefix_len blank xs) xs)
past_gaps n [] = refl
past_gaps n (x ∷ xs) = past_at n x xs (blank x) refl (past_gaps (suc n) xs)

-- x, at n, before the longest front of xs without a blank, and the words after that
abbrev fronted : ℕ → ℕ → List ℕ → List Word
fronted n x xs = record { bytes = x ∷ take (prefix_len in_word xs) xs; place = n } ∷ words (suc n + prefix_len in_word xs) (drop (prefix_len in_word xs) xs)

-- the first word and the others, of bytes that begin without a blank
abbrev pub parted : ℕ → List ℕ → List Word
parted n xs = record { bytes = take (prefix_len in_word xs) xs; place = n } ∷ words (n + prefix_len in_word xs) (drop (prefix_len in_word xs) xs)

from_joins : (n x : ℕ) (xs : List ℕ) → blank x ≡ false → joins x n xs (words (suc n) xs) ≡ fronted n x xs → words n (x ∷ xs) ≡ parted n (x ∷ xs)
from_joins n x xs h on =
    let k = prefix_len in_word xs in
    cond-false _ _ _ h ∙ on ∙ sym (ap (λ j. record { bytes = take j (x ∷ xs); place = n } ∷ words (n + j) (drop j (x ∷ xs))) (cond-true _ _ _ (not_from_false _ h) ∙ one-add k) ∙ ap (λ m. record { bytes = x ∷ take k xs; place = n } ∷ words m (drop k xs)) (over n k))

joins_at : (n x c : ℕ) (cs : List ℕ) (b : Bool) → blank c ≡ b → joins c (suc n) cs (words (suc (suc n)) cs) ≡ fronted (suc n) c cs → joins x n (c ∷ cs) (words (suc n) (c ∷ cs)) ≡ fronted n x (c ∷ cs)
joins_at n x c cs true h on =
    cond-true _ _ _ h ∙ sym (ap (λ j. record { bytes = x ∷ take j (c ∷ cs); place = n } ∷ words (suc n + j) (drop j (c ∷ cs))) (cond-false _ _ _ (not_from_true _ h)) ∙ ap (λ m. record { bytes = x ∷ []; place = n } ∷ words m (c ∷ cs)) (add-zero (suc n)))
joins_at n x c cs false h on = cond-false _ _ _ h ∙ ap (onto x n) (from_joins (suc n) c cs h on)

joins_is : (n x : ℕ) (xs : List ℕ) → joins x n xs (words (suc n) xs) ≡ fronted n x xs
joins_is n x [] = refl
joins_is n x (c ∷ cs) = joins_at n x c cs (blank c) refl (joins_is (suc n) c cs)

-- a front without a blank is the first word
pub first_word : (n x : ℕ) (xs : List ℕ) → blank x ≡ false → words n (x ∷ xs) ≡ parted n (x ∷ xs)
first_word n x xs h = from_joins n x xs h (joins_is n x xs)

-- the word that begins at s
pub word_there : (t : List ℕ) (s : ℕ) → s < length t → blank (get_or t s 0) ≡ false → left_at t s ≡ record { bytes = take (prefix_len in_word (drop s t)) (drop s t); place = s } ∷ left_at t (s + prefix_len in_word (drop s t))
word_there t s h g =
    let k = prefix_len in_word (drop s t) in
    subst (λ xs. words s xs ≡ parted s xs) (sym (drop_more t s 0 h)) (first_word s (get_or t s 0) (drop (s + 1) t) g)
    ∙ ap (λ ys. record { bytes = take k (drop s t); place = s } ∷ words (s + k) ys) (drop-drop k s t)

-- from the place a the next word lies between s and e, and both are a's text's end where there is none
pub record Cut (t : List ℕ) (a s e : ℕ) : Type 0 where
  pub from : a ≤ length t
  pub begins : s ≡ a + prefix_len blank (drop a t)
  pub ends : e ≡ s + prefix_len in_word (drop s t)

module _ {t : List ℕ} {a s e : ℕ} (cut : Cut t a s e) where
  within : s ≤ length t
  within = omega (arith, cut.from, cut.begins, prefix_len-le-length blank (drop a t), length-drop a t)

  pub top : e ≤ length t
  top = omega (arith, within, cut.ends, prefix_len-le-length in_word (drop s t), length-drop s t)

  stops : s < length t → blank (get_or t s 0) ≡ false
  stops h =
      let k = prefix_len blank (drop a t) in
      ap (λ i. blank (get_or t i 0)) cut.begins ∙ ap blank (sym (get_or-drop a t k 0)) ∙ prefix_len_stops blank (drop a t) 0 (omega (arith, cut.from, cut.begins, length-drop a t))

  pub skips : left_at t a ≡ left_at t s
  skips = past_gaps a (drop a t) ∙ ap (words (a + prefix_len blank (drop a t))) (drop-drop (prefix_len blank (drop a t)) a t) ∙ ap (left_at t) (sym cut.begins)

  pub at_end_lem : s ≡ e → s ≡ length t
  at_end_lem same =
      ⊎_elim
      (λ h. absurd (omega (arith, cut.ends, prefix_len-drop_yes in_word t s 0 h (not_from_false _ (stops h)))))
      (λ h. omega (arith, within))
      (cases_lt s (length t))

  pub none_left : s ≡ e → left_at t a ≡ []
  none_left same = skips ∙ ap (words s) (drop_all s t (omega (arith, at_end_lem same)))

  pub one_left : (s ≡ e → ⊥) → left_at t a ≡ record { bytes = take (e - s) (drop s t); place = s } ∷ left_at t e
  one_left apart =
      let inside : s < length t = omega (arith, cut.ends, top) in
      let long : prefix_len in_word (drop s t) ≡ e - s = omega (arith, cut.ends) in
      skips ∙ word_there t s inside (stops inside) ∙ ap (λ k. record { bytes = take k (drop s t); place = s } ∷ left_at t (s + k)) long ∙ ap (λ m. record { bytes = take (e - s) (drop s t); place = s } ∷ left_at t m) (omega (arith, cut.ends))
