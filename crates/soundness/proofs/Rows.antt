-- What holds of each element of a list, and of a set of variables, one element after another.
use Rattle.std.proofs.Common.{◌≡◌, ℕ, zero, suc, ◌+◌, ◌<◌, ◌≤◌, Bool, true, false, ◌⊎◌, T, eqb, ◌↔◌, List, [], ◌∷◌, sym, subst, inl, inr, ⊎_elim, arith, eqb→eq}
use Rattle.std.specs.List.{range_with_len}
use Rattle.std.proofs.lemmas.Bool.{cond_both, cases_Bool, false≢true}
use Rattle.formula.specs.Lists.{All, Any, each, elem, keep, from}
use Rattle.formula.specs.Proper.{Bound}
use Rattle.formula.proofs.Tests.{or_cases, is_true}
use Rattle.formula.proofs.Looked.{elem_high}

-- W holds just when P holds of each element that is left
module _ {A : Type 0} (P : A → Type 0) (W : Type 0) (l : List A) (to : W ↔ All P l) where
  pub all_next : (x : A) (r : List A) → l ≡ x ∷ r → P x → W ↔ All P r
  all_next x r e p = ((λ w. (subst (All P) e (to.0 w)).1), (λ h. to.1 (subst (All P) (sym e) (p, h))))

  pub all_broken : (x : A) (r : List A) → l ≡ x ∷ r → (P x → ⊥) → W → ⊥
  all_broken x r e n w = n (subst (All P) e (to.0 w)).0

  pub all_done : l ≡ [] → W
  all_done e = to.1 (subst (All P) (sym e) tt)

pub test_true : (b : Bool) → b ≡ true → T b
test_true true e = tt
test_true false e = absurd (false≢true e)

-- a number that a row keeps lies in the row and passes
pub kept_elem : (p : ℕ → Bool) (i n v : ℕ) → T (elem v (keep p (from i n))) → (i ≤ v) × (v < i + n) × (p v ≡ true)
kept_elem p i zero v t = absurd t
kept_elem p i (suc n) v t =
    let on : T (elem v (keep p (from (suc i) n))) → (i ≤ v) × (v < i + suc n) × (p v ≡ true) = λ k. let r = kept_elem p (suc i) n v k in (omega arith, omega arith, r.2) in
    cond_both (p i) (i ∷ keep p (from (suc i) n)) (keep p (from (suc i) n)) (λ l. T (elem v l) → (i ≤ v) × (v < i + suc n) × (p v ≡ true))
    (λ passes k. ⊎_elim (λ here. let e : v ≡ i = eqb→eq v i here in (omega arith, omega arith, subst (λ u. p u ≡ true) (sym e) passes)) on (or_cases (eqb v i) (elem v (keep p (from (suc i) n))) k))
    (λ _. on) t

-- a number that is no variable of 1 to n is at no level
pub elem_outside : (p : ℕ → Bool) (n v : ℕ) → (v < 1) ⊎ (n < v) → elem v (keep p (from 1 n)) ≡ false
elem_outside p n v (inl h) =
    ⊎_elim (λ t. absurd (let k = kept_elem p 1 n v (test_true _ t) in omega (arith, k.0))) (λ f. f) (cases_Bool (elem v (keep p (from 1 n))))
elem_outside p n v (inr h) = elem_high p 1 n v (omega arith)

-- a variable is bound at one of the levels of a row
pub bound_in : (f : ℕ → List ℕ) (v a n : ℕ) → Any (λ m. elem v (f m) ≡ true) (range_with_len a n) → Bound (each f (from a n)) v
bound_in f v a zero h = absurd h
bound_in f v a (suc n) (inl e) = inl (test_true _ e)
bound_in f v a (suc n) (inr h) = let e : a + 1 ≡ suc a = omega arith in inr (bound_in f v (suc a) n (subst (λ b. Any (λ m. elem v (f m) ≡ true) (range_with_len b n)) e h))

pub bound_some : (f : ℕ → List ℕ) (v a n : ℕ) → Bound (each f (from a n)) v → Any (λ m. elem v (f m) ≡ true) (range_with_len a n)
bound_some f v a zero b = absurd b
bound_some f v a (suc n) (inl t) = inl (is_true _ t)
bound_some f v a (suc n) (inr b) = let e : suc a ≡ a + 1 = omega arith in inr (subst (λ b. Any (λ m. elem v (f m) ≡ true) (range_with_len b n)) e (bound_some f v (suc a) n b))
