-- Lemmas on lists: each element, some element, the elements.
use Rattle.std.proofs.Common.{◌≡◌, ℕ, zero, suc, Bool, true, false, cond, not, ◌&&◌, ◌||◌, T, ◌⊎◌, List, [], ◌∷◌, ◌++◌, drop, sym, refl, ap, ◌∙◌, subst, ap₂, inl, inr, ⊎_elim}
use Rattle.formula.specs.Lists.{all, any, In, All, Any, each}
use Rattle.formula.proofs.Tests.{dec, clash, or_l, or_r, or_cases, nor, nor_l, nor_r, both, and_l, and_r, nand_or, nand_l, nand_r, or_mix}

module _ {A : Type 0} where
  pub all_or : (p : A → Bool) (l : List A) → All (λ a. T (not (p a))) l ⊎ Any (λ a. T (p a)) l
  all_or p [] = inl tt
  all_or p (x ∷ l) = ⊎_elim (λ h. inr (inl h)) (λ h. ⊎_elim (λ k. inl (h, k)) (λ k. inr (inr k)) (all_or p l)) (dec (p x))

  pub any-from : (P Q R : A → Type 0) (l : List A) → ((a : A) → P a → Q a → R a) → All P l → Any Q l → Any R l
  any-from P Q R [] f h k = k
  any-from P Q R (x ∷ l) f h (inl k) = inl (f x h.0 k)
  any-from P Q R (x ∷ l) f h (inr k) = inr (any-from P Q R l f h.1 k)

  pub any_map : (Q R : A → Type 0) (l : List A) → ((a : A) → Q a → R a) → Any Q l → Any R l
  any_map Q R [] f k = k
  any_map Q R (x ∷ l) f (inl k) = inl (f x k)
  any_map Q R (x ∷ l) f (inr k) = inr (any_map Q R l f k)

  pub all_map : (Q R : A → Type 0) (l : List A) → ((a : A) → Q a → R a) → All Q l → All R l
  all_map Q R [] f k = tt
  all_map Q R (x ∷ l) f k = (f x k.0, all_map Q R l f k.1)

  -- what some element shows, of which each has P
  pub any_gives : (P Q : A → Type 0) (R : Type 0) (l : List A) → ((a : A) → P a → Q a → R) → All P l → Any Q l → R
  any_gives P Q R [] f h k = absurd k
  any_gives P Q R (x ∷ l) f h (inl k) = f x h.0 k
  any_gives P Q R (x ∷ l) f h (inr k) = any_gives P Q R l f h.1 k

  -- tests that agree
  pub any_same : (f g : A → Bool) (l : List A) → ((x : A) → f x ≡ g x) → any f l ≡ any g l
  any_same f g [] h = refl
  any_same f g (x ∷ l) h = ap₂ ◌||◌ (h x) (any_same f g l h)

  pub all_same : (f g : A → Bool) (l : List A) → ((x : A) → f x ≡ g x) → all f l ≡ all g l
  all_same f g [] h = refl
  all_same f g (x ∷ l) h = ap₂ ◌&&◌ (h x) (all_same f g l h)

  -- elements
  pub all_here : (f : A → Bool) (l : List A) → T (all f l) → (x : A) → In x l → T (f x)
  all_here f [] h x m = absurd m
  all_here f (y ∷ l) h x (inl e) = subst (λ z. T (f z)) (sym e) (and_l (f y) (all f l) h)
  all_here f (y ∷ l) h x (inr m) = all_here f l (and_r (f y) (all f l) h) x m

  pub in_left : (x : A) (l m : List A) → In x l → In x (l ++ m)
  in_left x [] m h = absurd h
  in_left x (y ∷ l) m (inl e) = inl e
  in_left x (y ∷ l) m (inr h) = inr (in_left x l m h)

  pub in_right : (x : A) (l m : List A) → In x m → In x (l ++ m)
  in_right x [] m h = h
  in_right x (y ∷ l) m h = inr (in_right x l m h)

  pub any_in : (f : A → Bool) (l : List A) (x : A) → In x l → T (f x) → T (any f l)
  any_in f [] x m h = m
  any_in f (y ∷ l) x (inl e) h = or_l (f y) (any f l) (subst (λ z. T (f z)) e h)
  any_in f (y ∷ l) x (inr m) h = or_r (f y) (any f l) (any_in f l x m h)

  pub not_all_in : (f : A → Bool) (l : List A) (x : A) → In x l → T (not (f x)) → T (not (all f l))
  not_all_in f [] x m h = absurd m
  not_all_in f (y ∷ l) x (inl e) h = nand_l (f y) (all f l) (subst (λ z. T (not (f z))) e h)
  not_all_in f (y ∷ l) x (inr m) h = nand_r (f y) (all f l) (not_all_in f l x m h)

  pub all_of : (f : A → Bool) (l : List A) → ((x : A) → In x l → T (f x)) → T (all f l)
  all_of f [] h = tt
  all_of f (y ∷ l) h = both (f y) (all f l) (h y (inl refl)) (all_of f l (λ x m. h x (inr m)))

  pub none_in : (f : A → Bool) (l : List A) → ((x : A) → In x l → T (not (f x))) → T (not (any f l))
  none_in f [] h = tt
  none_in f (y ∷ l) h = nor (f y) (any f l) (h y (inl refl)) (none_in f l (λ x m. h x (inr m)))

  pub none_each : (f : A → Bool) (l : List A) → T (not (any f l)) → (x : A) → In x l → T (not (f x))
  none_each f [] h x m = absurd m
  none_each f (y ∷ l) h x (inl e) = subst (λ z. T (not (f z))) (sym e) (nor_l (f y) (any f l) h)
  none_each f (y ∷ l) h x (inr m) = none_each f l (nor_r (f y) (any f l) h) x m

  pub not_all : (f : A → Bool) (l : List A) → T (not (all f l)) → T (any (λ x. not (f x)) l)
  not_all f [] h = absurd h
  not_all f (x ∷ l) h = nand_or (f x) (all f l) (any (λ x. not (f x)) l) (not_all f l) h

  pub any_or : (f g : A → Bool) (l : List A) → any (λ x. f x || g x) l ≡ any f l || any g l
  any_or f g [] = refl
  any_or f g (x ∷ l) = ap (λ b. (f x || g x) || b) (any_or f g l) ∙ or_mix (f x) (g x) (any f l) (any g l)

  pub any_none : (l : List A) → any (λ x. false) l ≡ false
  any_none [] = refl
  any_none (x ∷ l) = any_none l

  -- the first element that passes, or d
  abbrev pub choose : (A → Bool) → A → List A → A
  choose f d [] = d
  choose f d (x ∷ l) = cond (f x) x (choose f d l)

  choose_step : (P : A → Type 0) (b : Bool) (x y : A) → (T b → P x) → (T (not b) → P y) → P (cond b x y)
  choose_step P true x y h k = h tt
  choose_step P false x y h k = k tt

  pub choose_in : (f : A → Bool) (d : A) (l : List A) → T (any f l) → In (choose f d l) l × T (f (choose f d l))
  choose_in f d [] h = absurd h
  choose_in f d (x ∷ l) h =
      choose_step (λ z. In z (x ∷ l) × T (f z)) (f x) x (choose f d l) (λ t. (inl refl, t))
      (λ n. let r : In (choose f d l) l × T (f (choose f d l)) = choose_in f d l (⊎_elim (λ t. absurd (clash (f x) t n)) (λ k. k) (or_cases (f x) (any f l) h)) in (inr r.0, r.1))

pub in_map : {A B : Type 0} (f : A → B) (x : A) (l : List A) → In x l → In (f x) (each f l)
in_map f x [] h = h
in_map f x (y ∷ l) (inl e) = inl (ap f e)
in_map f x (y ∷ l) (inr h) = inr (in_map f x l h)

-- parts of lists
abbrev pub tail : {A : Type 0} → List A → List A
tail [] = []
tail (x ∷ l) = l

pub drop_tail : {A : Type 0} (n : ℕ) (l : List A) (x : A) (r : List A) → drop n l ≡ x ∷ r → drop (suc n) l ≡ r
drop_tail zero [] x r e = ap tail e
drop_tail zero (y ∷ l) x r e = ap tail e
drop_tail (suc n) [] x r e = ap tail e
drop_tail (suc n) (y ∷ l) x r e = drop_tail n l x r e
