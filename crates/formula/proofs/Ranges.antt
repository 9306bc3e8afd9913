-- Numbers in a row, and those of them that a test keeps.
use Rattle.std.proofs.Common.{◌≡◌, ℕ, zero, suc, ◌+◌, ◌-◌, ◌≤◌, Bool, true, false, cond, List, [], ◌∷◌, ◌++◌, filter, length, Some, None, Option, option_map, sym, refl, ap, ◌∙◌, add-zero, add-one, arith}
use Rattle.std.proofs.lemmas.Bool.{cond-true, cond-false, cond_both}
use Rattle.std.specs.List.{find, range_with_len}
use Rattle.formula.specs.Lists.{keep, from}
use Rattle.formula.specs.Found.{first_of}

pub from_more : (v n : ℕ) → v ≤ n → from v (n + 1 - v) ≡ v ∷ from (v + 1) (n + 1 - (v + 1))
from_more v n h =
    let k : n + 1 - v ≡ suc (n - v) = omega arith in
    let j : n - v ≡ n + 1 - (v + 1) = omega arith in
    ap (from v) k ∙ ap (λ w. v ∷ from w (n - v)) (sym (add-one v)) ∙ ap (λ m. v ∷ from (v + 1) m) j

pub keep_here : (p : ℕ → Bool) (v n : ℕ) → v ≤ n → p v ≡ true → keep p (from v (n + 1 - v)) ≡ v ∷ keep p (from (v + 1) (n + 1 - (v + 1)))
keep_here p v n h t = ap (keep p) (from_more v n h) ∙ cond-true _ _ _ t

pub keep_past : (p : ℕ → Bool) (v n : ℕ) → v ≤ n → p v ≡ false → keep p (from v (n + 1 - v)) ≡ keep p (from (v + 1) (n + 1 - (v + 1)))
keep_past p v n h t = ap (keep p) (from_more v n h) ∙ cond-false _ _ _ t

-- the numbers of a row, and those that a test keeps, as iterators give them
pub range_row : (i n : ℕ) → range_with_len i n ≡ from i n
range_row i zero = refl
range_row i (suc n) = ap (λ r. i ∷ r) (range_row (i + 1) n ∙ ap (λ j. from j n) (add-one i))

pub filter_kept : (p : ℕ → Bool) (i n : ℕ) → filter p (range_with_len i n) ≡ keep p (from i n)
filter_kept p i n = ap (filter p) (range_row i n) ∙ same (from i n)
  where
    same : (l : List ℕ) → filter p l ≡ keep p l
    same [] = refl
    same (x ∷ l) = ap (λ r. cond (p x) (x ∷ r) r) (same l)

pub first_found : (p : ℕ → Bool) (i n : ℕ) (r : Option ℕ) → option_map (λ v. v) r ≡ find p (range_with_len i n) → r ≡ first_of (keep p (from i n))
first_found p i n r e = kept r ∙ e ∙ ap (find p) (range_row i n) ∙ same (from i n)
  where
    kept : (r : Option ℕ) → r ≡ option_map (λ v. v) r
    kept None = refl
    kept (Some v) = refl

    same : (l : List ℕ) → find p l ≡ first_of (keep p l)
    same [] = refl
    same (x ∷ l) =
        cond_both (p x) (Some x) (find p l) (λ o. o ≡ first_of (keep p (x ∷ l)))
        (λ t. sym (ap first_of (cond-true _ _ _ t))) (λ f. same l ∙ sym (ap first_of (cond-false _ _ _ f)))

pub from-push : (i n : ℕ) → from i (n + 1) ≡ from i n ++ (i + n) ∷ []
from-push i n = ap (from i) (add-one n) ∙ push i n
  where
    push : (i n : ℕ) → from i (suc n) ≡ from i n ++ (i + n) ∷ []
    push i zero = ap (λ k. k ∷ []) (sym (add-zero i))
    push i (suc n) = ap (λ l. i ∷ l) (push (suc i) n ∙ ap (λ k. from (suc i) n ++ k ∷ []) (omega arith))

pub length_from : (i n : ℕ) → length (from i n) ≡ n
length_from i zero = refl
length_from i (suc n) = ap suc (length_from (suc i) n)

pub keep_same : (p q : ℕ → Bool) (l : List ℕ) → ((v : ℕ) → p v ≡ q v) → keep p l ≡ keep q l
keep_same p q [] h = refl
keep_same p q (x ∷ l) h = ap (λ r. cond (p x) (x ∷ r) r) (keep_same p q l h) ∙ ap (λ b. cond b (x ∷ keep q l) (keep q l)) (h x)
