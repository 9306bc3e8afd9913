-- What is kept of a list, one element more: of the numbers below i, and of what a function makes of the first names.
use Rattle.std.proofs.Common.{◌≡◌, ℕ, ◌+◌, ◌<◌, Bool, true, false, List, [], ◌∷◌, ◌++◌, get_or, length, take, ℤ, pos, sym, ap, ◌∙◌, zero-add}
use Rattle.std.proofs.lemmas.List.{take_more, append-nil, map-append}
use Rattle.std.proofs.lemmas.Bool.{cond-true, cond-false}
use Rattle.formula.specs.Lists.{keep, each, below}
use Rattle.formula.proofs.Ranges.{from-push}
use Rattle.std.proofs.lemmas.List.Elements.{filter-append}

module _ {A : Type 0} (p : A → Bool) (xs : List A) (x : A) where
  kept : p x ≡ true → keep p (xs ++ x ∷ []) ≡ keep p xs ++ x ∷ []
  kept t = filter-append p xs (x ∷ []) ∙ ap (λ l. keep p xs ++ l) (cond-true _ _ _ t)

  left : p x ≡ false → keep p (xs ++ x ∷ []) ≡ keep p xs
  left f = filter-append p xs (x ∷ []) ∙ ap (λ l. keep p xs ++ l) (cond-false _ _ _ f) ∙ append-nil (keep p xs)

module _ (p : ℕ → Bool) (i : ℕ) where
  one_more : below (i + 1) ≡ below i ++ i ∷ []
  one_more = from-push 0 i ∙ ap (λ k. below i ++ k ∷ []) (zero-add i)

  pub kept_below : p i ≡ true → keep p (below (i + 1)) ≡ keep p (below i) ++ i ∷ []
  kept_below t = ap (keep p) one_more ∙ kept p (below i) i t

  pub left_below : p i ≡ false → keep p (below (i + 1)) ≡ keep p (below i)
  left_below f = ap (keep p) one_more ∙ left p (below i) i f

-- of what f makes of the names, where it makes i of the next
module _ (p : ℕ → Bool) (f : ℤ → ℕ) (names : List ℤ) (j : ℕ) (here : j < length names) (i : ℕ) (is : i ≡ f (get_or names j (pos 0))) where
  next_name : each f (take (j + 1) names) ≡ each f (take j names) ++ i ∷ []
  next_name = ap (each f) (take_more names j (pos 0) here) ∙ map-append f (take j names) (get_or names j (pos 0) ∷ []) ∙ ap (λ k. each f (take j names) ++ k ∷ []) (sym is)

  pub kept_name : p i ≡ true → keep p (each f (take (j + 1) names)) ≡ keep p (each f (take j names)) ++ i ∷ []
  kept_name t = ap (keep p) next_name ∙ kept p (each f (take j names)) i t

  pub left_name : p i ≡ false → keep p (each f (take (j + 1) names)) ≡ keep p (each f (take j names))
  left_name e = ap (keep p) next_name ∙ left p (each f (take j names)) i e
