-- Records of the device against what a clause makes.
use Rattle.std.proofs.Common.{◌≡◌, List, [], ◌∷◌, length, get_or, ℤ, pos, neg_ℤ, refl, ap, ◌∙◌, inl, inr, arith}
use Rattle.formula.specs.Lists.{In, Any, each}

-- x is the opposite of one of these
pub opposed_in : (x : ℤ) (these : List ℤ) → Any (λ l. x ≡ neg_ℤ l) these → In x (each neg_ℤ these)
opposed_in x [] h = h
opposed_in x (y ∷ ys) (inl e) = inl e
opposed_in x (y ∷ ys) (inr h) = inr (opposed_in x ys h)

pub opposed_some : (x : ℤ) (these : List ℤ) → In x (each neg_ℤ these) → Any (λ l. x ≡ neg_ℤ l) these
opposed_some x [] h = h
opposed_some x (y ∷ ys) (inl e) = inl e
opposed_some x (y ∷ ys) (inr h) = inr (opposed_some x ys h)

-- the pairs that literals make, each with the same second number
pub pair_parts : (y : ℤ) (L ys : List ℤ) → In ys (each (λ l. neg_ℤ l ∷ y ∷ []) L) → (length ys ≡ 2) × (get_or ys 1 (pos 0) ≡ y) × In (get_or ys 0 (pos 0)) (each neg_ℤ L)
pair_parts y [] ys h = absurd h
pair_parts y (l ∷ L) ys (inl e) = (ap length e, ap (λ z. get_or z 1 (pos 0)) e, inl (ap (λ z. get_or z 0 (pos 0)) e))
pair_parts y (l ∷ L) ys (inr h) = let r = pair_parts y L ys h in (r.0, r.1, inr r.2)

two : (ys : List ℤ) → length ys ≡ 2 → ys ≡ get_or ys 0 (pos 0) ∷ get_or ys 1 (pos 0) ∷ []
two [] h = absurd (omega arith)
two (x ∷ []) h = absurd (omega arith)
two (x ∷ y ∷ []) h = refl
two (x ∷ y ∷ z ∷ ys) h = absurd (omega arith)

pair_found : (x y : ℤ) (L ys : List ℤ) → ys ≡ x ∷ y ∷ [] → In x (each neg_ℤ L) → In ys (each (λ l. neg_ℤ l ∷ y ∷ []) L)
pair_found x y [] ys e h = absurd h
pair_found x y (l ∷ L) ys e (inl h) = inl (e ∙ ap (λ z. z ∷ y ∷ []) h)
pair_found x y (l ∷ L) ys e (inr h) = inr (pair_found x y L ys e h)

pub pair_in : (y : ℤ) (L ys : List ℤ) → length ys ≡ 2 → get_or ys 1 (pos 0) ≡ y → In (get_or ys 0 (pos 0)) (each neg_ℤ L) → In ys (each (λ l. neg_ℤ l ∷ y ∷ []) L)
pair_in y L ys h e = pair_found (get_or ys 0 (pos 0)) y L ys (two ys h ∙ ap (λ z. get_or ys 0 (pos 0) ∷ z ∷ []) e)
