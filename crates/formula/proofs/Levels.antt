-- The value of a game, level by level, is the truth, variable by variable.
use Rattle.std.proofs.Common.{◌≡◌, ℕ, Bool, ◌&&◌, ◌||◌, List, [], ◌∷◌, ◌++◌, length, get_or, ℤ, pos, neg_ℤ, sym, refl, ap, ◌∙◌, ap₂}
use Rattle.std.proofs.Math.Bool.{or_assoc, and_assoc}
use Rattle.formula.specs.Lists.{all, any, each, below}
use Rattle.formula.specs.Game.{other, same, has, Values, choices, Clauses, Play, hits, hit, every_hit}
use Rattle.formula.specs.declared.side.Side.{Side}
use Rattle.formula.specs.declared.side.Side.TheVariants.{Ours, Device}
use Rattle.formula.specs.Truth.{Quantified, prefix, join, truth_from}
use Rattle.formula.proofs.Tests.{or_false, and_true, or_swap}
use Rattle.formula.proofs.Members.{any_same, all_same, any_or, any_none}

abbrev pub quantify : {A : Type 0} → Side → (A → Bool) → List A → Bool
quantify Ours f l = any f l
quantify Device f l = all f l

-- the truth with best play from the play π on
abbrev pub value : Clauses → Side → List (List ℕ) → Play → Bool
value C σ [] π = every_hit C π
value C σ (vs ∷ r) π = quantify σ (λ x. value C (other σ) r (x ∷ π)) (choices vs)

module _ {A : Type 0} where
  quantify_cong : (σ : Side) (f g : A → Bool) (l : List A) → ((x : A) → f x ≡ g x) → quantify σ f l ≡ quantify σ g l
  quantify_cong Ours f g l h = any_same f g l h
  quantify_cong Device f g l h = all_same f g l h

  quantify_append : (σ : Side) (f : A → Bool) (l m : List A) → quantify σ f (l ++ m) ≡ join σ (quantify σ f l) (quantify σ f m)
  quantify_append Ours f [] m = refl
  quantify_append Ours f (x ∷ l) m = ap (λ b. f x || b) (quantify_append Ours f l m) ∙ sym (or_assoc (f x) (any f l) (any f m))
  quantify_append Device f [] m = refl
  quantify_append Device f (x ∷ l) m = ap (λ b. f x && b) (quantify_append Device f l m) ∙ sym (and_assoc (f x) (all f l) (all f m))

quantify_each : {A B : Type 0} (σ : Side) (f : B → Bool) (g : A → B) (l : List A) → quantify σ f (each g l) ≡ quantify σ (λ x. f (g x)) l
quantify_each Ours f g [] = refl
quantify_each Ours f g (x ∷ l) = ap (λ b. f (g x) || b) (quantify_each Ours f g l)
quantify_each Device f g [] = refl
quantify_each Device f g (x ∷ l) = ap (λ b. f (g x) && b) (quantify_each Device f g l)

quantify_one : {A : Type 0} (σ : Side) (f : A → Bool) (x : A) → quantify σ f (x ∷ []) ≡ f x
quantify_one Ours f x = or_false (f x)
quantify_one Device f x = and_true (f x)

-- the literals of x, put one by one before those of ρ
abbrev pour : Values → List ℤ → List ℤ
pour [] ρ = ρ
pour (l ∷ x) ρ = pour x (l ∷ ρ)

has-pour : (l : ℤ) (x : Values) (ρ : List ℤ) → has l (pour x ρ) ≡ has l x || has l ρ
has-pour l [] ρ = refl
has-pour l (m ∷ x) ρ = has-pour l x (m ∷ ρ) ∙ or_swap (has l x) (same l m) (has l ρ)

hits-pour : (C : Clauses) (x : Values) (ρ : List ℤ) (i : ℕ) → hits C (pour x ρ) i ≡ hits C x i || hits C ρ i
hits-pour C x ρ i =
    any_same (λ l. has l (pour x ρ)) (λ l. has l x || has l ρ) (get_or C i []) (λ l. has-pour l x ρ) ∙ any_or (λ l. has l x) (λ l. has l ρ) (get_or C i [])

-- the variables of one level
block : (C : Clauses) (σ : Side) (vs : List ℕ) (qs : List Quantified) (ρ : List ℤ)
    → truth_from C (each (λ v. record { side = σ; variable = v }) vs ++ qs) ρ ≡ quantify σ (λ x. truth_from C qs (pour x ρ)) (choices vs)
block C σ [] qs ρ = sym (quantify_one σ (λ (x : Values). truth_from C qs (pour x ρ)) [])
block C σ (v ∷ vs) qs ρ =
    ap₂ (join σ) (block C σ vs qs (pos v ∷ ρ)) (block C σ vs qs (neg_ℤ (pos v) ∷ ρ))
    ∙ sym (quantify_append σ f (each (λ x. pos v ∷ x) (choices vs)) (each (λ x. neg_ℤ (pos v) ∷ x) (choices vs))
    ∙ ap₂ (join σ) (quantify_each σ f (λ (x : Values). pos v ∷ x) (choices vs)) (quantify_each σ f (λ (x : Values). neg_ℤ (pos v) ∷ x) (choices vs)))
  where
    f : Values → Bool
    f x = truth_from C qs (pour x ρ)

truth_is : (C : Clauses) (σ : Side) (levels : List (List ℕ)) (ρ : List ℤ) (π : Play) → ((i : ℕ) → hits C ρ i ≡ hit C π i)
    → truth_from C (prefix σ levels) ρ ≡ value C σ levels π
truth_is C σ [] ρ π h = all_same (hits C ρ) (hit C π) (below (length C)) h
truth_is C σ (vs ∷ r) ρ π h =
    block C σ vs (prefix (other σ) r) ρ
    ∙ quantify_cong σ (λ x. truth_from C (prefix (other σ) r) (pour x ρ)) (λ x. value C (other σ) r (x ∷ π)) (choices vs)
    (λ x. truth_is C (other σ) r (pour x ρ) (x ∷ π) (λ i. hits-pour C x ρ i ∙ ap (λ b. hits C x i || b) (h i)))

pub truth_value : (C : Clauses) (σ : Side) (levels : List (List ℕ)) → truth_from C (prefix σ levels) [] ≡ value C σ levels []
truth_value C σ levels = truth_is C σ levels [] [] (λ i. any_none (get_or C i []))
