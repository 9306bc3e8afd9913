-- The words of a text are those after its comments and blank lines.
use Rattle.std.proofs.Common.{◌≡◌, ℕ, suc, ◌+◌, false, cond, not, T, eqb, ◌⊎◌, List, [], ◌∷◌, ◌++◌, length, Some, None, sym, refl, ap, ◌∙◌, subst, inl, inr, ⊎_elim, append_assoc, add-zero, arith}
use Rattle.std.proofs.lemmas.List.{length-append}
use Rattle.std.proofs.lemmas.Bool.{cond-true, cond-false, cond_both, cases_eq, eq-eqb, ne_eqb, not-true, not_from_false}
use Rattle.formula.specs.Lists.{all}
use Rattle.formula.proofs.Tests.{dec, is_true, both, and_l, and_r}
use Rattle.reader.specs.declared.comments.Lead.{Lead}
use Rattle.reader.specs.declared.comments.Lead.TheVariants.{Line, Blanks, Comment}
use Rattle.reader.specs.Bytes.{blank}
use Rattle.reader.specs.Comments.{past, past_blank, go_on, words_from}
use Rattle.reader.specs.Words.{Word, words}
use Rattle.reader.specs.Grammar.{Preamble, none, comment, blank_line}
use Rattle.reader.proofs.Spacing.{T_from_true}

-- a byte that is passed
passes : (m m' : Lead) (b n : ℕ) (t : List ℕ) → past m b ≡ Some m' → words_from m n (b ∷ t) ≡ words_from m' (suc n) t
passes m m' b n t e = ap (λ o. go_on o (λ k. words_from k (suc n) t) (words n (b ∷ t))) e

stops : (m : Lead) (b n : ℕ) (t : List ℕ) → past m b ≡ None → words_from m n (b ∷ t) ≡ words n (b ∷ t)
stops m b n t e = ap (λ o. go_on o (λ k. words_from k (suc n) t) (words n (b ∷ t))) e

-- through a comment, to the start of the next line
pub through_comment : (line rest : List ℕ) (n : ℕ) → T (all (λ b. not (eqb b 10)) line) → words_from Comment n (line ++ (10 ∷ rest)) ≡ words_from Line (n + length line + 1) rest
through_comment [] rest n h = let e : suc n ≡ n + 0 + 1 = omega arith in ap (λ m. words_from Line m rest) e
through_comment (b ∷ line) rest n h =
    let e : suc n + length line + 1 ≡ n + suc (length line) + 1 = omega arith in
    passes Comment Comment b n (line ++ (10 ∷ rest)) (cond-false _ _ _ (not-true (eqb b 10) (is_true _ (and_l (not (eqb b 10)) (all (λ b. not (eqb b 10)) line) h))))
    ∙ through_comment line rest (suc n) (and_r (not (eqb b 10)) (all (λ b. not (eqb b 10)) line) h)
    ∙ ap (λ m. words_from Line m rest) e

-- not in a comment
abbrev pub Early : Lead → Type 0
Early Line = Unit {0}
Early Blanks = Unit {0}
Early Comment = ⊥

past_blank_lem : (b : ℕ) → T (blank b) → (m : Lead) × Early m × (past_blank b ≡ Some m)
past_blank_lem b h =
    cond_both (eqb b 10) (Some Line) (cond (blank b) (Some Blanks) None) (λ o. (m : Lead) × Early m × (o ≡ Some m))
    (λ _. (Line, tt, refl)) (λ _. (Blanks, tt, cond-true _ _ _ (is_true (blank b) h)))

past_early : (m : Lead) → Early m → (b : ℕ) → T (blank b) → (m' : Lead) × Early m' × (past m b ≡ Some m')
past_early Line e b h =
    let c : eqb b 99 ≡ false = ne_eqb b 99 (λ s. subst (λ x. T (blank x)) s h) in
    let p = past_blank_lem b h in
    (p.0, p.1, cond-false _ _ _ c ∙ p.2)
past_early Blanks e b h = past_blank_lem b h
past_early Comment e b h = absurd e

past_feed : (m : Lead) → Early m → past m 10 ≡ Some Line
past_feed Line e = refl
past_feed Blanks e = refl
past_feed Comment e = absurd e

pub through_blanks : (line rest : List ℕ) (m : Lead) (n : ℕ) → Early m → T (all blank line) → words_from m n (line ++ (10 ∷ rest)) ≡ words_from Line (n + length line + 1) rest
through_blanks [] rest m n e h = let k : suc n ≡ n + 0 + 1 = omega arith in passes m Line 10 n rest (past_feed m e) ∙ ap (λ j. words_from Line j rest) k
through_blanks (b ∷ line) rest m n e h =
    let p = past_early m e b (and_l (blank b) (all blank line) h) in
    let k : suc n + length line + 1 ≡ n + suc (length line) + 1 = omega arith in
    passes m p.0 b n (line ++ (10 ∷ rest)) p.2 ∙ through_blanks line rest p.0 (suc n) p.1 (and_r (blank b) (all blank line) h) ∙ ap (λ j. words_from Line j rest) k

-- a word that begins with no c ends the lead
pub to_word : (gap : List ℕ) (b : ℕ) (rest : List ℕ) (m : Lead) (n : ℕ) → Early m → T (all blank gap) → ((k : Lead) → Early k → past k b ≡ None) → words_from m n (gap ++ (b ∷ rest)) ≡ words n (gap ++ (b ∷ rest))
to_word [] b rest m n e h no-c = stops m b n rest (no-c m e)
to_word (g ∷ gap) b rest m n e h no-c =
    let y = and_l (blank g) (all blank gap) h in
    let p = past_early m e g y in
    passes m p.0 g n (gap ++ (b ∷ rest)) p.2 ∙ to_word gap b rest p.0 (suc n) p.1 (and_r (blank g) (all blank gap) h) no-c ∙ sym (cond-true _ _ _ (is_true (blank g) y))

pub through_preamble : {front : List ℕ} → Preamble front → (body : List ℕ) (n : ℕ) → words_from Line n (front ++ body) ≡ words_from Line (n + length front) body
through_preamble none body n = ap (λ m. words_from Line m body) (sym (add-zero n))
through_preamble (comment line rest h p) body n =
    let e : suc n + length line + 1 + length rest ≡ n + length (99 ∷ (line ++ (10 ∷ rest))) = omega (arith, length-append line (10 ∷ rest)) in
    ap (λ t. words_from Comment (suc n) t) (append_assoc line (10 ∷ rest) body)
    ∙ through_comment line (rest ++ body) (suc n) h
    ∙ through_preamble p body (suc n + length line + 1)
    ∙ ap (λ m. words_from Line m body) e
through_preamble (blank_line line rest h p) body n =
    let e : n + length line + 1 + length rest ≡ n + length (line ++ (10 ∷ rest)) = omega (arith, length-append line (10 ∷ rest)) in
    ap (λ t. words_from Line n t) (append_assoc line (10 ∷ rest) body)
    ∙ through_blanks line (rest ++ body) Line n tt h
    ∙ through_preamble p body (n + length line + 1)
    ∙ ap (λ m. words_from Line m body) e

-- the other way: where words come, a preamble stands before them
abbrev pub Found : ℕ → List ℕ → List Word → Type 0
Found n t ws = (front body : List ℕ) × (t ≡ front ++ body) × Preamble front × (words (n + length front) body ≡ ws)

-- a line that goes on with blanks: the words stand in it, or it ends first
abbrev InBlanks : ℕ → List ℕ → List Word → Type 0
InBlanks n t ws = (words n t ≡ ws) ⊎ ((line rest : List ℕ) × (t ≡ line ++ (10 ∷ rest)) × T (all blank line) × Found (n + length line + 1) rest ws)

abbrev InComment : ℕ → List ℕ → List Word → Type 0
InComment n t ws = (line rest : List ℕ) × (t ≡ line ++ (10 ∷ rest)) × T (all (λ b. not (eqb b 10)) line) × Found (n + length line + 1) rest ws

abbrev Leads : Lead → ℕ → List ℕ → List Word → Type 0
Leads Line = Found
Leads Blanks = InBlanks
Leads Comment = InComment

-- nothing before the words
at_once : (n : ℕ) (t : List ℕ) (ws : List Word) → words n t ≡ ws → Found n t ws
at_once n t ws e = ([], t, refl, none, ap (λ m. words m t) (add-zero n) ∙ e)

one_more : (n k : ℕ) → suc n + k + 1 ≡ n + suc k + 1
one_more n k = omega arith

moved : (n m : ℕ) (t : List ℕ) (ws : List Word) → n ≡ m → Found n t ws → Found m t ws
moved n m t ws e f = subst (λ k. Found k t ws) e f

-- a line in front of a preamble
with_comment : (n : ℕ) (t : List ℕ) (ws : List Word) → InComment (suc n) t ws → Found n (99 ∷ t) ws
with_comment n t ws (line, rest, e, h, (front, body, f, p, is)) =
    let k : suc n + length line + 1 + length front ≡ n + length (99 ∷ (line ++ (10 ∷ front))) = omega (arith, length-append line (10 ∷ front)) in (
      99 ∷ (line ++ (10 ∷ front)),
      body,
      ap (λ x. 99 ∷ x) (e ∙ ap (λ r. line ++ (10 ∷ r)) f ∙ sym (append_assoc line (10 ∷ front) body)),
      comment line front h p,
      ap (λ m. words m body) (sym k) ∙ is,
    )

with_blanks : (n : ℕ) (line rest : List ℕ) (ws : List Word) → T (all blank line) → Found (n + length line + 1) rest ws → Found n (line ++ (10 ∷ rest)) ws
with_blanks n line rest ws h (front, body, f, p, is) =
    let k : n + length line + 1 + length front ≡ n + length (line ++ (10 ∷ front)) = omega (arith, length-append line (10 ∷ front)) in (
      line ++ (10 ∷ front),
      body,
      ap (λ r. line ++ (10 ∷ r)) f ∙ sym (append_assoc line (10 ∷ front) body),
      blank_line line front h p,
      ap (λ m. words m body) (sym k) ∙ is,
    )

-- a blank before what goes on with blanks
blank_on : (b n : ℕ) (t : List ℕ) (ws : List Word) → T (blank b) → InBlanks (suc n) t ws → InBlanks n (b ∷ t) ws
blank_on b n t ws h (inl e) = inl (cond-true _ _ _ (is_true (blank b) h) ∙ e)
blank_on b n t ws h (inr (line, rest, e, k, found)) =
    inr (b ∷ line, rest, ap (λ x. b ∷ x) e, both (blank b) (all blank line) h k, moved _ _ rest ws (one_more n (length line)) found)

feed_on : (b n : ℕ) (t : List ℕ) (ws : List Word) → b ≡ 10 → Found (suc n) t ws → InBlanks n (b ∷ t) ws
feed_on b n t ws e found = let k : suc n ≡ n + 0 + 1 = omega arith in inr ([], t, ap (λ x. x ∷ t) e, tt, moved _ _ t ws k found)

-- from blanks, at the start of the line
from_blanks : (n : ℕ) (t : List ℕ) (ws : List Word) → InBlanks n t ws → Found n t ws
from_blanks n t ws (inl e) = at_once n t ws e
from_blanks n t ws (inr (line, rest, e, h, found)) = subst (λ x. Found n x ws) (sym e) (with_blanks n line rest ws h found)

comment_feed : (b n : ℕ) (t : List ℕ) (ws : List Word) → b ≡ 10 → Found (suc n) t ws → InComment n (b ∷ t) ws
comment_feed b n t ws e found = let k : suc n ≡ n + 0 + 1 = omega arith in ([], t, ap (λ x. x ∷ t) e, tt, moved _ _ t ws k found)

comment_on : (b n : ℕ) (t : List ℕ) (ws : List Word) → (b ≡ 10 → ⊥) → InComment (suc n) t ws → InComment n (b ∷ t) ws
comment_on b n t ws no-feed (line, rest, e, h, found) =
    (b ∷ line, rest, ap (λ x. b ∷ x) e, both (not (eqb b 10)) (all (λ c. not (eqb c 10)) line) (T_from_true _ (not_from_false _ (ne_eqb b 10 no-feed))) h, moved _ _ rest ws (one_more n (length line)) found)

-- a byte of a blank line: a line feed, another blank, or the first of a word
blank_step : (b n : ℕ) (t : List ℕ) (ws : List Word) (m : Lead) → past m b ≡ past_blank b → words_from m n (b ∷ t) ≡ ws
    → (words_from Line (suc n) t ≡ ws → Found (suc n) t ws) → (words_from Blanks (suc n) t ≡ ws → InBlanks (suc n) t ws) → InBlanks n (b ∷ t) ws
blank_step b n t ws m p e line blanks =
    ⊎_elim
    (λ feed. feed_on b n t ws feed (line (sym (passes m Line b n t (p ∙ cond-true _ _ _ (eq-eqb b 10 feed))) ∙ e)))
    (λ no-feed. ⊎_elim
    (λ y. blank_on b n t ws y (blanks (sym (passes m Blanks b n t (p ∙ cond-false _ _ _ (ne_eqb b 10 no-feed) ∙ cond-true _ _ _ (is_true (blank b) y))) ∙ e)))
    (λ x. inl (sym (stops m b n t (p ∙ cond-false _ _ _ (ne_eqb b 10 no-feed) ∙ cond-false _ _ _ (not-true _ (is_true _ x)))) ∙ e))
    (dec (blank b)))
    (cases_eq b 10)

finds : (t : List ℕ) (m : Lead) (n : ℕ) (w : Word) (ws : List Word) → words_from m n t ≡ w ∷ ws → Leads m n t (w ∷ ws)
finds [] m n w ws e = let z : ◌≡◌ {A = ℕ} 0 1 = cc in absurd (omega arith)
finds (b ∷ t) Line n w ws e =
    ⊎_elim
    (λ c. subst (λ x. Found n (x ∷ t) (w ∷ ws)) (sym c) (with_comment n t (w ∷ ws) (finds t Comment (suc n) w ws (sym (passes Line Comment b n t (cond-true _ _ _ (eq-eqb b 99 c))) ∙ e))))
    (λ no-c. from_blanks n (b ∷ t) (w ∷ ws) (blank_step b n t (w ∷ ws) Line (cond-false _ _ _ (ne_eqb b 99 no-c)) e (finds t Line (suc n) w ws) (finds t Blanks (suc n) w ws)))
    (cases_eq b 99)
finds (b ∷ t) Blanks n w ws e = blank_step b n t (w ∷ ws) Blanks refl e (finds t Line (suc n) w ws) (finds t Blanks (suc n) w ws)
finds (b ∷ t) Comment n w ws e =
    ⊎_elim
    (λ feed. comment_feed b n t (w ∷ ws) feed (finds t Line (suc n) w ws (sym (passes Comment Line b n t (cond-true _ _ _ (eq-eqb b 10 feed))) ∙ e)))
    (λ no-feed. comment_on b n t (w ∷ ws) no-feed (finds t Comment (suc n) w ws (sym (passes Comment Comment b n t (cond-false _ _ _ (ne_eqb b 10 no-feed))) ∙ e)))
    (cases_eq b 10)

pub preamble_found : (t : List ℕ) (w : Word) (ws : List Word) → words_from Line 0 t ≡ w ∷ ws → Found 0 t (w ∷ ws)
preamble_found t w ws e = finds t Line 0 w ws e
