-- Tests over a list from a place on.
use Rattle.std.proofs.Common.{◌≡◌, ℕ, ◌+◌, ◌<◌, Bool, true, false, ◌&&◌, ◌||◌, List, length, get_or, drop, ap, ◌∙◌}
use Rattle.std.proofs.lemmas.List.{drop_more}
use Rattle.formula.specs.Lists.{all, any}

module _ {A : Type 0} (p : A → Bool) (l : List A) (i : ℕ) (d : A) (here : i < length l) where
  pub any-hit : p (get_or l i d) ≡ true → any p (drop i l) ≡ true
  any-hit t = ap (any p) (drop_more l i d here) ∙ ap (λ b. b || any p (drop (i + 1) l)) t

  pub any_miss : p (get_or l i d) ≡ false → any p (drop i l) ≡ any p (drop (i + 1) l)
  any_miss f = ap (any p) (drop_more l i d here) ∙ ap (λ b. b || any p (drop (i + 1) l)) f

  pub all_miss : p (get_or l i d) ≡ false → all p (drop i l) ≡ false
  all_miss f = ap (all p) (drop_more l i d here) ∙ ap (λ b. b && all p (drop (i + 1) l)) f

  pub all-hit : p (get_or l i d) ≡ true → all p (drop i l) ≡ all p (drop (i + 1) l)
  all-hit t = ap (all p) (drop_more l i d here) ∙ ap (λ b. b && all p (drop (i + 1) l)) t
