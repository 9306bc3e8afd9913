-- The words that an answer writes. Assumes nothing.
use Rattle.std.proofs.Common.{◌≡◌, ℕ, zero, suc, ◌+◌, ◌<◌, ◌≤◌, Bool, List, [], ◌∷◌, ◌++◌, length, get_or, drop, set, ℤ, pos, sym, refl, ap, ◌∙◌, append_assoc, append-nil, add-one, arith}
use Rattle.std.proofs.lemmas.List.{length_push, drop_more, set_at}
use Rattle.std.proofs.Math.ListN.{drop_of_length-le}
use Rattle.engine.specs.Meaning.{values, value_after}

pub length_values : (a : ℕ → Bool) (k : ℕ) → length (values a k) ≡ k
length_values a zero = refl
length_values a (suc k) =
    let e = length_push (values a k) (value_after a k) in
    let h = length_values a k in
    omega arith

-- one value more
pub values_more : (a : ℕ → Bool) (before out : List ℤ) (k : ℕ) → k < length before → out ≡ values a k ++ drop k before → set out k (value_after a k) ≡ values a (k + 1) ++ drop (k + 1) before
values_more a before out k h is =
    ap (λ l. set l k (value_after a k)) (is ∙ ap (λ l. values a k ++ l) (drop_more before k (pos 0) h))
    ∙ set_at (values a k) (get_or before k (pos 0)) (drop (k + 1) before) (value_after a k) k (length_values a k)
    ∙ sym (append_assoc (values a k) (value_after a k ∷ []) (drop (k + 1) before))
    ∙ ap (λ n. values a n ++ drop (k + 1) before) (sym (add-one k))

-- all of them
pub values_all : (a : ℕ → Bool) (before out : List ℤ) (k s : ℕ) → length before ≤ k → k ≡ s → out ≡ values a k ++ drop k before → out ≡ values a s
values_all a before out k s end same is =
    is ∙ ap (λ l. values a k ++ l) (drop_of_length-le before end) ∙ append-nil (values a k) ∙ ap (values a) same
