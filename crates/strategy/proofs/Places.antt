-- How chains grow; the order of their records; plays as one list; entries by sets.
use Rattle.std.proofs.Common.{◌≡◌, ℕ, ◌<◌, ◌≤◌, Bool, true, false, not, ◌||◌, T, leb, List, [], ◌∷◌, ◌++◌, length, get_or, ℤ, sym, refl, ap, ◌∙◌, subst, ap₂, inl, inr, ⊎_elim, arith, le→leb, leb→le}
use Rattle.std.proofs.Math.Bool.{or_assoc}
use Rattle.formula.specs.Game.{same, has, Values, Clauses, Play, hits, hit}
use Rattle.std.proofs.lemmas.List.{get_or_past}
use Rattle.formula.specs.Lists.{any, In, elem, below}
use Rattle.formula.proofs.Members.{any_or, any_none, any_same, all_same, all_here}
use Rattle.formula.proofs.Tests.{dec, clash, both, in_below, keep_in, kept_passes}
use Rattle.strategy.specs.Entries.{Entry, fits, fits_set, hit_set, LevelState}
use Rattle.strategy.specs.Records.{holds, satisfies, learned_record, chain}
use Rattle.strategy.specs.RecordedPlan.{flat}
use Rattle.strategy.specs.Steps.{learn, enter}
use Rattle.formula.specs.declared.side.Side.{Side}
use Rattle.formula.specs.declared.side.Side.TheVariants.{Ours, Device}

-- a chain grows by the record of the set that is learned, and by nothing else
pub chain_learns : (C : Clauses) (n : ℕ) (σ : Side) (A : List ℕ) (s m : LevelState) (r : List LevelState) → chain C n σ (learn A s) (m ∷ r) ≡ learned_record C n σ A ∷ chain C n σ s (m ∷ r)
chain_learns C n Ours A s m r = refl
chain_learns C n Device A s m r = refl

pub chain_enters : (C : Clauses) (n : ℕ) (σ : Side) (A : List ℕ) (x : Values) (s : LevelState) (r : List LevelState) → chain C n σ (enter A x s) r ≡ chain C n σ s r
chain_enters C n Ours A x s [] = refl
chain_enters C n Ours A x s (m ∷ r) = refl
chain_enters C n Device A x s r = refl

pub chain_rest : (C : Clauses) (n : ℕ) (σ : Side) (s m m' : LevelState) (r r' : List LevelState) → chain C n σ s (m ∷ r) ≡ chain C n σ s (m' ∷ r')
chain_rest C n Ours s m m' r r' = refl
chain_rest C n Device s m m' r r' = refl

-- a play as one list of literals
has-append : (l : ℤ) (x y : List ℤ) → has l (x ++ y) ≡ has l x || has l y
has-append l [] y = refl
has-append l (m ∷ x) y = ap (λ b. same l m || b) (has-append l x y) ∙ sym (or_assoc (same l m) (has l x) (has l y))

pub flat_hit : (C : Clauses) (π : Play) (i : ℕ) → hits C (flat π) i ≡ hit C π i
flat_hit C [] i = any_none (get_or C i [])
flat_hit C (x ∷ π) i =
    any_same (λ l. has l (x ++ flat π)) (λ l. has l x || has l (flat π)) (get_or C i []) (λ l. has-append l x (flat π))
    ∙ any_or (λ l. has l x) (λ l. has l (flat π)) (get_or C i []) ∙ ap (λ b. hits C x i || b) (flat_hit C π i)

-- a chain is satisfied where one with all its records is: the order of the records does not matter
pub sat_among : (α : ℕ → Bool) (ch ch' : List (List ℤ)) → ((rec : List ℤ) → In rec ch → In rec ch') → T (satisfies α ch') → T (satisfies α ch)
sat_among α [] ch' f h = tt
sat_among α (rec ∷ ch) ch' f h =
    both (any (holds α) rec) (satisfies α ch) (all_here (λ r. any (holds α) r) ch' h rec (f rec (inl refl))) (sat_among α ch ch' (λ r m. f r (inr m)) h)

-- an entry fits a play just when it fits the set of clauses that the play hits
hit_past : (C : Clauses) (π : Play) (i : ℕ) → length C ≤ i → hit C π i ≡ false
hit_past C [] i h = refl
hit_past C (x ∷ π) i h = ap₂ ◌||◌ (ap (λ c. any (λ l. has l x) c) (get_or_past C i [] h)) (hit_past C π i h)

same_test : (a b : Bool) → (T a → T b) → (T b → T a) → a ≡ b
same_test true true f g = refl
same_test true false f g = absurd (f tt)
same_test false true f g = absurd (g tt)
same_test false false f g = refl

hit_small : (C : Clauses) (π : Play) (i : ℕ) → T (hit C π i) → i < length C
hit_small C π i h =
    ⊎_elim (λ l. absurd (clash (hit C π i) h (subst (λ b. T (not b)) (sym (hit_past C π i (leb→le (length C) i l))) tt)))
    (λ n. let k : length C ≤ i → ⊥ = λ l. clash (leb (length C) i) (le→leb (length C) i l) n in omega arith) (dec (leb (length C) i))

pub hit-set : (C : Clauses) (π : Play) (i : ℕ) → hit C π i ≡ elem i (hit_set C π)
hit-set C π i =
    same_test (hit C π i) (elem i (hit_set C π)) (λ h. keep_in (hit C π) (below (length C)) i (in_below (length C) i (hit_small C π i h)) h)
    (λ m. kept_passes (hit C π) (below (length C)) i m)

pub fits_by_sets : (C : Clauses) (w : Side) (π : Play) (e : Entry) → fits C w π e ≡ fits_set w (hit_set C π) e
fits_by_sets C Ours π e = all_same (hit C π) (λ i. elem i (hit_set C π)) e.set (hit-set C π)
fits_by_sets C Device π e = all_same (λ i. not (hit C π i)) (λ i. not (elem i (hit_set C π))) e.set (λ i. ap not (hit-set C π i))
