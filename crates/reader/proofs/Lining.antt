-- Lines and columns of a text: the line feeds, and the bytes after the last of them.
use Rattle.std.proofs.Common.{◌≡◌, ℕ, ◌+◌, ◌<◌, ◌≤◌, Bool, true, false, cond, not, eqb, ◌⊎◌, List, [], ◌∷◌, length, reverse, count_by, sym, refl, ap, ◌∙◌, inl, inr, ⊎_elim, ap₂, arith}
use Rattle.std.specs.List.{prefix_len}
use Rattle.std.proofs.lemmas.List.{length-reverse, reverse-append}
use Rattle.std.proofs.lemmas.List.Sums.{sum_by-cons, prefix_len-le-length}
use Rattle.std.proofs.lemmas.List.Folds.{prefix_len-append}
use Rattle.std.proofs.lemmas.Bool.{cond-true, cond-false, eq-eqb, ne_eqb, cases_eq, not_from_true, not_from_false}
use Rattle.reader.specs.declared.positions.Position.{Position}
use Rattle.reader.specs.Lines.{after}

abbrev pub feed : ℕ → Bool
feed b = eqb b 10

abbrev pub in_line : ℕ → Bool
in_line b = not (feed b)

-- the bytes after the last line feed
abbrev pub last_line : List ℕ → ℕ
last_line bs = prefix_len in_line (reverse bs)

lines : (line column : ℕ) (bs : List ℕ) → (after line column bs).line ≡ line + count_by feed bs
lines line column [] = omega arith
lines line column (b ∷ bs) =
    let more : count_by feed (b ∷ bs) ≡ cond (feed b) 1 0 + count_by feed bs = sum_by-cons (λ x. cond (feed x) 1 0) b bs in
    ⊎_elim
    (λ e. let t : feed b ≡ true = eq-eqb b 10 e in
    let one : ◌≡◌ {A = ℕ} (cond (feed b) 1 0) 1 = cond-true _ _ _ t in
    ap (λ (p : Position). p.line) (cond-true _ _ _ t) ∙ omega (arith, one, more, lines (line + 1) 1 bs))
    (λ n. let f : feed b ≡ false = ne_eqb b 10 n in
    let none : ◌≡◌ {A = ℕ} (cond (feed b) 1 0) 0 = cond-false _ _ _ f in
    ap (λ (p : Position). p.line) (cond-false _ _ _ f) ∙ omega (arith, none, more, lines line (column + 1) bs))
    (cases_eq b 10)

-- with no line feed the column goes on, else it counts from the last one
abbrev Column : ℕ → ℕ → List ℕ → Type 0
Column line column bs = ((last_line bs ≡ length bs) × ((after line column bs).column ≡ column + length bs)) ⊎ ((last_line bs < length bs) × ((after line column bs).column ≡ 1 + last_line bs))

columns : (line column : ℕ) (bs : List ℕ) → Column line column bs
columns line column [] = inl (refl, omega arith)
columns line column (b ∷ bs) =
    let long : length (reverse bs) ≡ length bs = length-reverse bs in
    let most : last_line bs ≤ length (reverse bs) = prefix_len-le-length in_line (reverse bs) in
    let ends : last_line (b ∷ bs) ≡ cond (eqb (last_line bs) (length (reverse bs))) (length (reverse bs) + prefix_len in_line (b ∷ [])) (last_line bs) = ap (prefix_len in_line) (reverse-append (b ∷ []) bs) ∙ prefix_len-append in_line (reverse bs) (b ∷ []) in
    ⊎_elim
    (λ e. let t : feed b ≡ true = eq-eqb b 10 e in
    let none : prefix_len in_line (b ∷ []) ≡ 0 = cond-false _ _ _ (not_from_true _ t) in
    let on : (after line column (b ∷ bs)).column ≡ (after (line + 1) 1 bs).column = ap (λ (p : Position). p.column) (cond-true _ _ _ t) in
    let same : last_line (b ∷ bs) ≡ last_line bs = ⊎_elim (λ k. ends ∙ cond-true _ _ _ (eq-eqb _ _ k) ∙ omega (arith, none, k)) (λ k. ends ∙ cond-false _ _ _ (ne_eqb _ _ k)) (cases_eq (last_line bs) (length (reverse bs))) in
    inr (⊎_elim (λ h. (omega (arith, same, long, most), omega (arith, on, same, h.0, h.1))) (λ h. (omega (arith, same, long, most), omega (arith, on, same, h.1))) (columns (line + 1) 1 bs)))
    (λ n. let f : feed b ≡ false = ne_eqb b 10 n in
    let one : prefix_len in_line (b ∷ []) ≡ 1 = cond-true _ _ _ (not_from_false _ f) in
    let on : (after line column (b ∷ bs)).column ≡ (after line (column + 1) bs).column = ap (λ (p : Position). p.column) (cond-false _ _ _ f) in
    ⊎_elim
    (λ h. let k : last_line bs ≡ length (reverse bs) = omega (arith, long, h.0) in
    let full : last_line (b ∷ bs) ≡ length (reverse bs) + prefix_len in_line (b ∷ []) = ends ∙ cond-true _ _ _ (eq-eqb _ _ k) in
    inl (omega (arith, full, one, long), omega (arith, on, h.1)))
    (λ h. let same : last_line (b ∷ bs) ≡ last_line bs = ends ∙ cond-false _ _ _ (ne_eqb (last_line bs) (length (reverse bs)) (λ k. omega (arith, k, long, h.0))) in
    inr (omega (arith, same, h.0), omega (arith, on, same, h.1)))
    (columns line (column + 1) bs))
    (cases_eq b 10)

pub position_is : (bs : List ℕ) → record { line = 1 + count_by feed bs; column = 1 + last_line bs } ≡ after 1 1 bs
position_is bs =
    let line : 1 + count_by feed bs ≡ (after 1 1 bs).line = sym (lines 1 1 bs) in
    let column : 1 + last_line bs ≡ (after 1 1 bs).column = ⊎_elim (λ h. omega (arith, h.0, h.1)) (λ h. sym h.1) (columns 1 1 bs) in
    ap₂ (λ l c. record { line = l; column = c }) line column
