-- Counting the values that pass a test, and equality of values as a test.
use Rattle.std.proofs.Common.{◌≡◌, ◌<◌, ◌≤◌, Bool, true, false, cond, not, T, List, [], ◌∷◌, length, refl, subst, ap₂, inl, inr, arith}
use Rattle.formula.specs.Game.{same, Values}
use Rattle.formula.specs.Lists.{any, count, In, All}
use Rattle.formula.proofs.Tests.{nor, both, and_l, and_r}
use Rattle.formula.proofs.Values.{same_refl, same_eq}
use Rattle.strategy.specs.Potential.{same_values}

unit_le : (a b : Bool) → (T a → T b) → cond a 1 0 ≤ cond b 1 0
unit_le true true f = omega arith
unit_le true false f = absurd (f tt)
unit_le false true f = omega arith
unit_le false false f = omega arith

unit_lt : (a b : Bool) → T (not a) → T b → cond a 1 0 < cond b 1 0
unit_lt true b h k = absurd h
unit_lt false true h k = omega arith
unit_lt false false h k = absurd k

unit_one : (a : Bool) → cond a 1 0 ≤ 1
unit_one true = omega arith
unit_one false = omega arith

module _ {A : Type 0} where
  pub count_le : (p q : A → Bool) (l : List A) → ((a : A) → T (p a) → T (q a)) → count p l ≤ count q l
  count_le p q [] f = omega arith
  count_le p q (x ∷ l) f = omega (arith, unit_le (p x) (q x) (f x), count_le p q l f)

  -- p passes what q passes, except x
  pub count_lt : (p q : A → Bool) (l : List A) (x : A) → ((a : A) → T (p a) → T (q a)) → In x l → T (not (p x)) → T (q x) → count p l < count q l
  count_lt p q [] x f m np qx = absurd m
  count_lt p q (y ∷ l) x f (inl e) np qx =
      omega (arith, unit_lt (p y) (q y) (subst (λ a. T (not (p a))) e np) (subst (λ a. T (q a)) e qx), count_le p q l f)
  count_lt p q (y ∷ l) x f (inr m) np qx = omega (arith, unit_le (p y) (q y) (f y), count_lt p q l x f m np qx)

  pub count_length : (p : A → Bool) (l : List A) → count p l ≤ length l
  count_length p [] = omega arith
  count_length p (x ∷ l) = omega (arith, unit_one (p x), count_length p l)

  pub none_of : (p : A → Bool) (l : List A) → All (λ a. T (not (p a))) l → T (not (any p l))
  none_of p [] h = tt
  none_of p (x ∷ l) h = nor (p x) (any p l) h.0 (none_of p l h.1)

  pub all_map₂ : (P Q R : A → Type 0) (l : List A) → ((a : A) → P a → Q a → R a) → All P l → All Q l → All R l
  all_map₂ P Q R [] f h k = tt
  all_map₂ P Q R (x ∷ l) f h k = (f x h.0 k.0, all_map₂ P Q R l f h.1 k.1)

-- equality of values, as a test
pub same_values_refl : (x : Values) → T (same_values x x)
same_values_refl [] = tt
same_values_refl (l ∷ x) = both (same l l) (same_values x x) (same_refl l) (same_values_refl x)

pub same_values_eq : (x y : Values) → T (same_values x y) → x ≡ y
same_values_eq [] [] h = refl
same_values_eq [] (m ∷ y) h = absurd h
same_values_eq (l ∷ x) [] h = absurd h
same_values_eq (l ∷ x) (m ∷ y) h = ap₂ {C = Values} (λ a b. a ∷ b) (same_eq l m (and_l (same l m) (same_values x y) h)) (same_values_eq x y (and_r (same l m) (same_values x y) h))
