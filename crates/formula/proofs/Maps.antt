-- A function applied to each element of a list.
use Rattle.std.proofs.Common.{◌≡◌, ℕ, zero, suc, ◌+◌, ◌<◌, [], ◌∷◌, ◌++◌, refl, ap, ◌∙◌, arith}
use Rattle.std.proofs.lemmas.List.{map-append}
use Rattle.formula.specs.Lists.{each, from, below}
use Rattle.formula.proofs.Ranges.{from-push}

pub each_same_from : {B : Type 0} (f g : ℕ → B) (i n : ℕ) → ((j : ℕ) → j < i + n → f j ≡ g j) → each f (from i n) ≡ each g (from i n)
each_same_from f g i zero h = refl
each_same_from f g i (suc n) h = ap (λ y. y ∷ each f (from (suc i) n)) (h i (omega arith)) ∙ ap (λ r. g i ∷ r) (each_same_from f g (suc i) n (λ j k. h j (omega arith)))

-- one more at the end
pub each-below-push : {B : Type 0} (f g : ℕ → B) (n : ℕ) → ((j : ℕ) → j < n → f j ≡ g j) → each f (below (n + 1)) ≡ each g (below n) ++ f n ∷ []
each-below-push f g n h =
    ap (each f) (from-push 0 n) ∙ map-append f (below n) ((0 + n) ∷ [])
    ∙ ap (λ r. r ++ f (0 + n) ∷ []) (each_same_from f g 0 n (λ j k. h j (omega arith)))
    ∙ ap (λ k. each g (below n) ++ f k ∷ []) (omega arith)
