-- Tests over records, and the values of an assignment.
use Rattle.std.proofs.Common.{◌≡◌, ℕ, zero, suc, Bool, true, false, cond, not, ◌&&◌, ◌||◌, T, eqb, ◌⊎◌, List, [], ◌∷◌, ◌++◌, get_or, ℤ, pos, negsuc, neg_ℤ, nat_abs, sym, refl, ap, ◌∙◌, subst, ap₂, inl, inr, ⊎_elim, not-suc-le-zero, eqb→eq}
use Rattle.std.proofs.Math.Bool.{or_assoc, and_assoc}
use lib.Dec.{eqb-suc-suc, eqb-zero-suc}
use Rattle.formula.specs.Game.{same, has, Clauses, hits}
use Rattle.formula.specs.Backward.{onto, turned}
use Rattle.formula.specs.Lists.{In, all, any, keep, All, each, elem}
use Rattle.formula.proofs.Members.{any_same, all_same}
use Rattle.formula.proofs.Tests.{and_true, and_l, and_r, both}
use Rattle.strategy.specs.Records.{holds, literals_on, gather, values_of}
use Rattle.strategy.specs.WellFormed.{ProperLevel}

and_past : (a b c : Bool) → a && (b && c) ≡ (b && a) && c
and_past true true c = refl
and_past true false c = refl
and_past false true c = refl
and_past false false c = refl

module _ {A : Type 0} where
  pub any_append : (f : A → Bool) (l m : List A) → any f (l ++ m) ≡ any f l || any f m
  any_append f [] m = refl
  any_append f (x ∷ l) m = ap (λ b. f x || b) (any_append f l m) ∙ sym (or_assoc (f x) (any f l) (any f m))

  pub all_append : (f : A → Bool) (l m : List A) → all f (l ++ m) ≡ all f l && all f m
  all_append f [] m = refl
  all_append f (x ∷ l) m = ap (λ b. f x && b) (all_append f l m) ∙ sym (and_assoc (f x) (all f l) (all f m))

  -- lists turned round
  all-onto : (f : A → Bool) (l m : List A) → all f (onto l m) ≡ all f l && all f m
  all-onto f [] m = refl
  all-onto f (x ∷ l) m = all-onto f l (x ∷ m) ∙ and_past (all f l) (f x) (all f m)

  pub all-turned : (f : A → Bool) (l : List A) → all f (turned l) ≡ all f l
  all-turned f l = all-onto f l [] ∙ and_true (all f l)

  in_onto : (x : A) (l m : List A) → In x (onto l m) → In x l ⊎ In x m
  in_onto x [] m h = inr h
  in_onto x (y ∷ l) m h = ⊎_elim (λ k. inl (inr k)) (λ k. ⊎_elim (λ e. inl (inl e)) (λ k'. inr k') k) (in_onto x l (y ∷ m) h)

  pub in_turned : (x : A) (l : List A) → In x (turned l) → In x l
  in_turned x l h = ⊎_elim (λ k. k) (λ k. absurd k) (in_onto x l [] h)

  pub any-keep : (f p : A → Bool) (l : List A) → any f (keep p l) ≡ any (λ x. p x && f x) l
  any-keep f p [] = refl
  any-keep f p (x ∷ l) = step (p x) (any-keep f p l)
    where
      step : (b : Bool) → any f (keep p l) ≡ any (λ y. p y && f y) l → any f (cond b (x ∷ keep p l) (keep p l)) ≡ (b && f x) || any (λ y. p y && f y) l
      step true e = ap (λ c. f x || c) e
      step false e = e

  pub all_keep : (f p : A → Bool) (l : List A) → all f (keep p l) ≡ all (λ x. not (p x) || f x) l
  all_keep f p [] = refl
  all_keep f p (x ∷ l) = step (p x) (all_keep f p l)
    where
      step : (b : Bool) → all f (keep p l) ≡ all (λ y. not (p y) || f y) l → all f (cond b (x ∷ keep p l) (keep p l)) ≡ (not b || f x) && all (λ y. not (p y) || f y) l
      step true e = ap (λ c. f x && c) e
      step false e = e

  -- none or n
  pub all_or_one : (q : A → Bool) (n : Bool) (l : List A) → all (λ x. not (q x) || n) l ≡ not (any q l) || n
  all_or_one q n [] = refl
  all_or_one q n (x ∷ l) = ap (λ c. (not (q x) || n) && c) (all_or_one q n l) ∙ step (q x) (any q l) n
    where
      step : (a b n : Bool) → (not a || n) && (not b || n) ≡ not (a || b) || n
      step true true true = refl
      step true true false = refl
      step true false true = refl
      step true false false = refl
      step false b n = refl

  pub any_not : (f : A → Bool) (l : List A) → any (λ x. not (f x)) l ≡ not (all f l)
  any_not f [] = refl
  any_not f (x ∷ l) = step (f x) (any_not f l)
    where
      step : (b : Bool) → any (λ y. not (f y)) l ≡ not (all f l) → (not b || any (λ y. not (f y)) l) ≡ not (b && all f l)
      step true e = e
      step false e = refl

  pub any_twice : (f : A → Bool) (l : List A) → any f l ≡ not (all (λ x. not (f x)) l)
  any_twice f [] = refl
  any_twice f (x ∷ l) = step (f x) (any_twice f l)
    where
      step : (b : Bool) → any f l ≡ not (all (λ y. not (f y)) l) → (b || any f l) ≡ not (not b && all (λ y. not (f y)) l)
      step true e = refl
      step false e = e

  pub All-all : (p : A → Bool) (l : List A) → All (λ x. T (p x)) l → T (all p l)
  All-all p [] h = tt
  All-all p (x ∷ l) h = both (p x) (all p l) h.0 (All-all p l h.1)

  pub all-All : (p : A → Bool) (l : List A) → T (all p l) → All (λ x. T (p x)) l
  all-All p [] h = tt
  all-All p (x ∷ l) h = (and_l (p x) (all p l) h, all-All p l (and_r (p x) (all p l) h))

module _ {A B : Type 0} where
  pub all-each : (p : B → Bool) (f : A → B) (l : List A) → all p (each f l) ≡ all (λ x. p (f x)) l
  all-each p f [] = refl
  all-each p f (x ∷ l) = ap (λ b. p (f x) && b) (all-each p f l)

  pub any-each : (p : B → Bool) (f : A → B) (l : List A) → any p (each f l) ≡ any (λ x. p (f x)) l
  any-each p f [] = refl
  any-each p f (x ∷ l) = ap (λ b. p (f x) || b) (any-each p f l)

  pub all-gather : (p : B → Bool) (f : A → List B) (l : List A) → all p (gather f l) ≡ all (λ x. all p (f x)) l
  all-gather p f [] = refl
  all-gather p f (x ∷ l) = all_append p (f x) (gather f l) ∙ ap (λ b. all p (f x) && b) (all-gather p f l)

-- a literal stands among the values of an assignment when its variable is one of the level's, and it holds
eqb_carry : (α : ℕ → Bool) (m v : ℕ) (b : Bool) → eqb m v ≡ b → b && α v ≡ b && α m
eqb_carry α m v true e = ap α (sym (eqb→eq m v (subst T (sym e) tt)))
eqb_carry α m v false e = refl

spread : (a b c : Bool) → (a && c) || (b && c) ≡ (a || b) && c
spread true true true = refl
spread true true false = refl
spread true false true = refl
spread true false false = refl
spread false b c = refl

same_pos : (m u : ℕ) (a : Bool) → same (pos m) (cond a (pos (suc u)) (negsuc u)) ≡ eqb m (suc u) && a
same_pos m u true = back (eqb m (suc u))
  where
    back : (b : Bool) → b ≡ b && true
    back true = refl
    back false = refl
same_pos m u false = none (eqb m (suc u))
  where
    none : (b : Bool) → false ≡ b && false
    none true = refl
    none false = refl

same_neg : (m u : ℕ) (a : Bool) → same (negsuc m) (cond a (pos (suc u)) (negsuc u)) ≡ eqb (suc m) (suc u) && not a
same_neg m u true = none (eqb (suc m) (suc u))
  where
    none : (b : Bool) → false ≡ b && false
    none true = refl
    none false = refl
same_neg m u false = sym (eqb-suc-suc m u) ∙ back (eqb (suc m) (suc u))
  where
    back : (b : Bool) → b ≡ b && true
    back true = refl
    back false = refl

pub has_values : (α : ℕ → Bool) (n : ℕ) (vs : List ℕ) → ProperLevel n vs → (l : ℤ) → has l (values_of α vs) ≡ elem (nat_abs l) vs && holds α l
has_values α n [] h l = refl
has_values α n (zero ∷ vs) h l = absurd (not-suc-le-zero h.0)
has_values α n (suc u ∷ vs) h (pos m) =
    ap₂ ◌||◌ (same_pos m u (α (suc u)) ∙ eqb_carry α m (suc u) (eqb m (suc u)) refl) (has_values α n vs h.3 (pos m))
    ∙ spread (eqb m (suc u)) (elem m vs) (α m)
has_values α n (suc u ∷ vs) h (negsuc m) =
    ap₂ ◌||◌ (same_neg m u (α (suc u)) ∙ eqb_carry (λ v. not (α v)) (suc m) (suc u) (eqb (suc m) (suc u)) refl) (has_values α n vs h.3 (negsuc m))
    ∙ spread (eqb (suc m) (suc u)) (elem (suc m) vs) (not (α (suc m)))

-- so the values hit a clause when the assignment makes one of its literals there true
pub hits_values : (C : Clauses) (α : ℕ → Bool) (n : ℕ) (vs : List ℕ) → ProperLevel n vs → (i : ℕ) → any (holds α) (literals_on C vs i) ≡ hits C (values_of α vs) i
hits_values C α n vs h i =
    any-keep (holds α) (λ l. elem (nat_abs l) vs) (get_or C i [])
    ∙ any_same (λ l. elem (nat_abs l) vs && holds α l) (λ l. has l (values_of α vs)) (get_or C i []) (λ l. sym (has_values α n vs h l))

-- 0 is no variable
no_zero : (n : ℕ) (vs : List ℕ) → ProperLevel n vs → elem 0 vs ≡ false
no_zero n [] h = refl
no_zero n (zero ∷ vs) h = absurd (not-suc-le-zero h.0)
no_zero n (suc u ∷ vs) h = ap₂ ◌||◌ (eqb-zero-suc u) (no_zero n vs h.3)

not_both : (e a nb : Bool) → (not e || (not a || (nb || false))) ≡ (not (e && a) || nb)
not_both true true true = refl
not_both true true false = refl
not_both true false nb = refl
not_both false a nb = refl

neg_part : (α : ℕ → Bool) (n : ℕ) (vs : List ℕ) (nb : Bool) → ProperLevel n vs → (l : ℤ)
    → (not (elem (nat_abs l) vs) || (holds α (neg_ℤ l) || (nb || false))) ≡ (not (elem (nat_abs l) vs && holds α l) || nb)
neg_part α n vs nb h (pos zero) =
    ap (λ e. not e || (α 0 || (nb || false))) (no_zero n vs h) ∙ sym (ap (λ e. not (e && α 0) || nb) (no_zero n vs h))
neg_part α n vs nb h (pos (suc m)) = not_both (elem (suc m) vs) (α (suc m)) nb
neg_part α n vs nb h (negsuc m) = twice (elem (suc m) vs) (α (suc m))
  where
    twice : (e a : Bool) → (not e || (a || (nb || false))) ≡ (not (e && not a) || nb)
    twice true true = refl
    twice true false = or_false_at nb
      where
        or_false_at : (b : Bool) → (b || false) ≡ b
        or_false_at true = refl
        or_false_at false = refl
    twice false a = refl

-- the records of clause i at a device's level
pub device_part : (C : Clauses) (α : ℕ → Bool) (n : ℕ) (vs : List ℕ) (nb : Bool) → ProperLevel n vs → (i : ℕ)
    → all (λ l. holds α (neg_ℤ l) || (nb || false)) (literals_on C vs i) ≡ not (hits C (values_of α vs) i) || nb
device_part C α n vs nb h i =
    all_keep (λ l. holds α (neg_ℤ l) || (nb || false)) (λ l. elem (nat_abs l) vs) (get_or C i [])
    ∙ all_same (λ l. not (elem (nat_abs l) vs) || (holds α (neg_ℤ l) || (nb || false))) (λ l. not (elem (nat_abs l) vs && holds α l) || nb) (get_or C i []) (neg_part α n vs nb h)
    ∙ all_or_one (λ l. elem (nat_abs l) vs && holds α l) nb (get_or C i [])
    ∙ ap (λ b. not b || nb) (any_same (λ l. elem (nat_abs l) vs && holds α l) (λ l. has l (values_of α vs)) (get_or C i []) (λ l. sym (has_values α n vs h l)))
