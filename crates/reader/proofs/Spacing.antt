-- The words of bytes are the words that the bytes space out.
use Rattle.std.proofs.Common.{◌≡◌, ℕ, suc, ◌+◌, Bool, true, false, T, List, [], ◌∷◌, ◌++◌, length, sym, refl, ap, ◌∙◌, subst, add-zero, arith}
use Rattle.std.proofs.lemmas.Bool.{cond-true, cond-false, cond_both, not-true, not_from_false}
use Rattle.formula.specs.Lists.{all, each}
use Rattle.formula.proofs.Tests.{is_true, both, and_l, and_r, clash}
use Rattle.reader.specs.Bytes.{blank, in_word}
use Rattle.reader.specs.Words.{Word, words, joins, onto}
use Rattle.reader.specs.Grammar.{IsWord, Apart, Spaced}

pub T_from_true : (b : Bool) → b ≡ true → T b
T_from_true true e = tt
T_from_true false e = let z : ◌≡◌ {A = ℕ} 0 1 = cc in absurd (omega arith)

abbrev pub bytes_of : List Word → List (List ℕ)
bytes_of ws = each (λ (w : Word). w.bytes) ws

-- blanks in front are passed over
pub blanks_front : (gap rest : List ℕ) (n : ℕ) → T (all blank gap) → words n (gap ++ rest) ≡ words (n + length gap) rest
blanks_front [] rest n t = ap (λ m. words m rest) (sym (add-zero n))
blanks_front (b ∷ gap) rest n t =
    let e : suc n + length gap ≡ n + suc (length gap) = omega arith in
    cond-true _ _ _ (is_true (blank b) (and_l (blank b) (all blank gap) t)) ∙ blanks_front gap rest (suc n) (and_r (blank b) (all blank gap) t) ∙ ap (λ m. words m rest) e

pub all_blank : (t : List ℕ) (n : ℕ) → T (all blank t) → words n t ≡ []
all_blank [] n h = refl
all_blank (b ∷ t) n h = cond-true _ _ _ (is_true (blank b) (and_l (blank b) (all blank t) h)) ∙ all_blank t (suc n) (and_r (blank b) (all blank t) h)

-- a word in front
ends_word : (b n : ℕ) (rest : List ℕ) → Apart rest → joins b n rest (words (suc n) rest) ≡ record { bytes = b ∷ []; place = n } ∷ words (suc n) rest
ends_word b n [] a = refl
ends_word b n (c ∷ rest) a = cond-true _ _ _ (is_true (blank c) a)

word_front : (b n : ℕ) (w rest : List ℕ) → T (in_word b) → T (all in_word w) → Apart rest → words n (b ∷ (w ++ rest)) ≡ record { bytes = b ∷ w; place = n } ∷ words (n + length (b ∷ w)) rest
word_front b n [] rest i h a =
    let e : suc n ≡ n + 1 = omega arith in
    cond-false _ _ _ (not-true _ (is_true _ i)) ∙ ends_word b n rest a ∙ ap (λ m. record { bytes = b ∷ []; place = n } ∷ words m rest) e
word_front b n (c ∷ w) rest i h a =
    let on : words (suc n) (c ∷ (w ++ rest)) ≡ record { bytes = c ∷ w; place = suc n } ∷ words (suc n + length (c ∷ w)) rest = word_front c (suc n) w rest (and_l (in_word c) (all in_word w) h) (and_r (in_word c) (all in_word w) h) a in
    let e : suc n + length (c ∷ w) ≡ n + length (b ∷ c ∷ w) = omega arith in
    cond-false _ _ _ (not-true _ (is_true _ i))
    ∙ cond-false _ _ _ (not-true _ (is_true _ (and_l (in_word c) (all in_word w) h)))
    ∙ ap (onto b n) on
    ∙ ap (λ m. record { bytes = b ∷ c ∷ w; place = n } ∷ words m rest) e

pub word_there : (w rest : List ℕ) (n : ℕ) → IsWord w → Apart rest → words n (w ++ rest) ≡ record { bytes = w; place = n } ∷ words (n + length w) rest
word_there [] rest n i a = absurd (omega (arith, i.0))
word_there (b ∷ w) rest n i a = word_front b n w rest (and_l (in_word b) (all in_word w) i.1) (and_r (in_word b) (all in_word w) i.1) a

-- what is spaced out are the words
pub words_of_spaced : (ws : List (List ℕ)) (t : List ℕ) (n : ℕ) → Spaced ws t → bytes_of (words n t) ≡ ws
words_of_spaced [] t n s = ap bytes_of (all_blank t n s)
words_of_spaced (w ∷ ws) t n (gap, rest, blanks, is, e, apart, more) =
    ap (λ x. bytes_of (words n x)) e
    ∙ ap bytes_of (blanks_front gap (w ++ rest) n blanks ∙ word_there w rest (n + length gap) is apart)
    ∙ ap (λ r. w ∷ r) (words_of_spaced ws rest (n + length gap + length w) more)

-- and the words are spaced out
blank_before : (b : ℕ) (ws : List (List ℕ)) (t : List ℕ) → T (blank b) → Spaced ws t → Spaced ws (b ∷ t)
blank_before b [] t h s = both (blank b) (all blank t) h s
blank_before b (w ∷ ws) t h (gap, rest, blanks, is, e, apart, more) = (b ∷ gap, rest, both (blank b) (all blank gap) h blanks, is, ap (λ x. b ∷ x) e, apart, more)

-- a byte before the word that begins at once
joins_first : (b c : ℕ) (cs : List ℕ) (w : List ℕ) (ws : List (List ℕ)) → T (in_word b) → T (in_word c) → Spaced (w ∷ ws) (c ∷ cs) → Spaced ((b ∷ w) ∷ ws) (b ∷ c ∷ cs)
joins_first b c cs w ws i j ([], rest, blanks, is, e, apart, more) = ([], rest, tt, (omega arith, both (in_word b) (all in_word w) i is.1), ap (λ x. b ∷ x) e, apart, more)
joins_first b c cs w ws i j (g ∷ gap, rest, blanks, is, e, apart, more) =
    let same : c ≡ g = cc in
    absurd (clash (blank c) (subst (λ x. T (blank x)) (sym same) (and_l (blank g) (all blank gap) blanks)) j)

onto_spaced : (b c n : ℕ) (cs : List ℕ) (ws : List Word) → T (in_word b) → T (in_word c) → Spaced (bytes_of ws) (c ∷ cs) → Spaced (bytes_of (onto b n ws)) (b ∷ c ∷ cs)
onto_spaced b c n cs [] i j s = absurd (clash (blank c) (and_l (blank c) (all blank cs) s) j)
onto_spaced b c n cs (w ∷ ws) i j s = joins_first b c cs w.bytes (bytes_of ws) i j s

alone : (b n : ℕ) (t : List ℕ) (ws : List Word) → T (in_word b) → Apart t → Spaced (bytes_of ws) t → Spaced (bytes_of (record { bytes = b ∷ []; place = n } ∷ ws)) (b ∷ t)
alone b n t ws i a s = ([], t, tt, (omega arith, both (in_word b) true i tt), refl, a, s)

joins_spaced : (b n : ℕ) (t : List ℕ) (ws : List Word) → T (in_word b) → Spaced (bytes_of ws) t → Spaced (bytes_of (joins b n t ws)) (b ∷ t)
joins_spaced b n [] ws i s = alone b n [] ws i tt s
joins_spaced b n (c ∷ cs) ws i s =
    cond_both (blank c) (record { bytes = b ∷ []; place = n } ∷ ws) (onto b n ws) (λ (r : List Word). Spaced (bytes_of r) (b ∷ c ∷ cs))
    (λ y. alone b n (c ∷ cs) ws i (T_from_true (blank c) y) s)
    (λ f. onto_spaced b c n cs ws i (T_from_true (in_word c) (not_from_false (blank c) f)) s)

pub spaced_words : (t : List ℕ) (n : ℕ) → Spaced (bytes_of (words n t)) t
spaced_words [] n = tt
spaced_words (b ∷ t) n =
    let on : Spaced (bytes_of (words (suc n) t)) t = spaced_words t (suc n) in
    cond_both (blank b) (words (suc n) t) (joins b n t (words (suc n) t)) (λ (r : List Word). Spaced (bytes_of r) (b ∷ t))
    (λ y. blank_before b (bytes_of (words (suc n) t)) t (T_from_true (blank b) y) on)
    (λ f. joins_spaced b n t (words (suc n) t) (T_from_true (in_word b) (not_from_false (blank b) f)) on)
