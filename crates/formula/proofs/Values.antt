-- Equality of values as a test, and the choices of a level.
use Rattle.std.proofs.Common.{◌≡◌, ℕ, ◌^◌, Bool, true, false, cond, ◌||◌, T, ◌⊎◌, List, [], ◌∷◌, ◌++◌, length, ℤ, pos, negsuc, neg_ℤ, sym, refl, ap, subst, inl, inr, ⊎_elim, pow-suc, arith, eqb→eq, length-append}
use Rattle.std.proofs.lemmas.List.{length-map}
use lib.Dec.{eqb_refl}
use Rattle.formula.specs.Lists.{In, each}
use Rattle.formula.specs.Game.{same, Values, choices}
use Rattle.formula.specs.Backward.{is_choice, or_first}
use Rattle.formula.proofs.Tests.{or_l, or_r, or_cases, both, and_l, and_r, is_true}
use Rattle.formula.proofs.Members.{in_left, in_right, in_map}

pub same_refl : (l : ℤ) → T (same l l)
same_refl (pos n) = eqb_refl n
same_refl (negsuc n) = eqb_refl n

pub same_eq : (l m : ℤ) → T (same l m) → l ≡ m
same_eq (pos m) (pos n) h = ap pos (eqb→eq m n h)
same_eq (pos m) (negsuc n) h = absurd h
same_eq (negsuc m) (pos n) h = absurd h
same_eq (negsuc m) (negsuc n) h = ap negsuc (eqb→eq m n h)

-- a level of r variables has 2 ^ r choices
pub choices-length : (vs : List ℕ) → length (choices vs) ≡ 2 ^ length vs
choices-length [] = refl
choices-length (v ∷ vs) =
    omega (
      arith,
      length-append (each (λ x. pos v ∷ x) (choices vs)) (each (λ x. neg_ℤ (pos v) ∷ x) (choices vs)),
      length-map (choices vs) (λ x. pos v ∷ x),
      length-map (choices vs) (λ x. neg_ℤ (pos v) ∷ x),
      choices-length vs,
      pow-suc 2 (length vs),
    )

-- which values are choices of a level
pub in_append : {A : Type 0} (x : A) (l m : List A) → In x (l ++ m) → In x l ⊎ In x m
in_append x [] m h = inr h
in_append x (y ∷ l) m (inl e) = inl (inl e)
in_append x (y ∷ l) m (inr h) = ⊎_elim (λ k. inl (inr k)) (λ k. inr k) (in_append x l m h)

pub in_each : {A B : Type 0} (f : A → B) (y : B) (l : List A) → In y (each f l) → (x : A) × In x l × (y ≡ f x)
in_each f y [] h = absurd h
in_each f y (x ∷ l) (inl e) = (x, inl refl, e)
in_each {A = A} f y (x ∷ l) (inr h) = let c : (z : A) × In z l × (y ≡ f z) = in_each f y l h in (c.0, inr c.1, c.2)

with_literal : (v : ℕ) (vs : List ℕ) (x : Values) (l : ℤ) → T (same l (pos v) || same l (neg_ℤ (pos v)))
    → ((y : Values) × T (is_choice y vs) × (x ≡ l ∷ y)) → T (is_choice x (v ∷ vs))
with_literal v vs x l t c =
    subst (λ z. T (is_choice z (v ∷ vs))) (sym c.2) (both (same l (pos v) || same l (neg_ℤ (pos v))) (is_choice c.0 vs) t c.1)

pub choice_passes : (x : Values) (vs : List ℕ) → In x (choices vs) → T (is_choice x vs)
choice_passes x [] (inl e) = subst (λ y. T (is_choice y [])) (sym e) tt
choice_passes x [] (inr h) = absurd h
choice_passes x (v ∷ vs) h =
    ⊎_elim (λ k. let c : (y : Values) × In y (choices vs) × (x ≡ pos v ∷ y) = in_each (λ y. pos v ∷ y) x (choices vs) k in
    with_literal v vs x (pos v) (or_l (same (pos v) (pos v)) (same (pos v) (neg_ℤ (pos v))) (same_refl (pos v)))
    (c.0, choice_passes c.0 vs c.1, c.2))
    (λ k. let c : (y : Values) × In y (choices vs) × (x ≡ neg_ℤ (pos v) ∷ y) = in_each (λ y. neg_ℤ (pos v) ∷ y) x (choices vs) k in
    with_literal v vs x (neg_ℤ (pos v)) (or_r (same (neg_ℤ (pos v)) (pos v)) (same (neg_ℤ (pos v)) (neg_ℤ (pos v))) (same_refl (neg_ℤ (pos v))))
    (c.0, choice_passes c.0 vs c.1, c.2))
    (in_append x (each (λ y. pos v ∷ y) (choices vs)) (each (λ y. neg_ℤ (pos v) ∷ y) (choices vs)) h)

pub passes_choice : (x : Values) (vs : List ℕ) → T (is_choice x vs) → In x (choices vs)
passes_choice [] [] h = inl refl
passes_choice [] (v ∷ vs) h = absurd h
passes_choice (l ∷ x) [] h = absurd h
passes_choice (l ∷ x) (v ∷ vs) h =
    let rest : In x (choices vs) = passes_choice x vs (and_r (same l (pos v) || same l (neg_ℤ (pos v))) (is_choice x vs) h) in
    ⊎_elim (λ e. in_left (l ∷ x) (each (λ y. pos v ∷ y) (choices vs)) (each (λ y. neg_ℤ (pos v) ∷ y) (choices vs))
    (subst (λ m. In (m ∷ x) (each (λ y. pos v ∷ y) (choices vs))) (sym (same_eq l (pos v) e)) (in_map (λ (y : Values). pos v ∷ y) x (choices vs) rest)))
    (λ e. in_right (l ∷ x) (each (λ y. pos v ∷ y) (choices vs)) (each (λ y. neg_ℤ (pos v) ∷ y) (choices vs))
    (subst (λ m. In (m ∷ x) (each (λ y. neg_ℤ (pos v) ∷ y) (choices vs))) (sym (same_eq l (neg_ℤ (pos v)) e)) (in_map (λ (y : Values). neg_ℤ (pos v) ∷ y) x (choices vs) rest)))
    (or_cases (same l (pos v)) (same l (neg_ℤ (pos v))) (and_l (same l (pos v) || same l (neg_ℤ (pos v))) (is_choice x vs) h))

-- values made a choice of the level
positive_choice : (vs : List ℕ) → In (each pos vs) (choices vs)
positive_choice [] = inl refl
positive_choice (v ∷ vs) =
    in_left (pos v ∷ each pos vs) (each (λ y. pos v ∷ y) (choices vs)) (each (λ y. neg_ℤ (pos v) ∷ y) (choices vs))
    (in_map (λ (y : Values). pos v ∷ y) (each pos vs) (choices vs) (positive_choice vs))

or_first_by : (vs : List ℕ) (x : Values) (b : Bool) → (T b → In x (choices vs)) → In (cond b x (each pos vs)) (choices vs)
or_first_by vs x true f = f tt
or_first_by vs x false f = positive_choice vs

pub or_first_choice : (vs : List ℕ) (x : Values) → In (or_first vs x) (choices vs)
or_first_choice vs x = or_first_by vs x (is_choice x vs) (passes_choice x vs)

pub or_first_same : (vs : List ℕ) (x : Values) → In x (choices vs) → or_first vs x ≡ x
or_first_same vs x h = ap (λ b. cond b x (each pos vs)) (is_true (is_choice x vs) (choice_passes x vs h))
