-- What check asks of the start.
use Rattle.std.proofs.Common.{◌≡◌, ℕ, ◌<◌, Bool, true, false, not, ◌&&◌, T, eqb, ltb, List, [], ◌∷◌, length, get_or, replicate, Decides, sym, refl, ap, ◌∙◌, subst}
use Rattle.std.proofs.lemmas.Bool.{eqb-true, eq-eqb, ltb-true, lt-ltb}
use Rattle.std.proofs.lemmas.Bool.Decides.{Decides-like}
use Rattle.formula.specs.Lists.{all, Any}
use Rattle.formula.specs.Game.{Clauses}
use Rattle.formula.specs.declared.side.Side.{Side}
use Rattle.formula.specs.declared.side.Side.TheVariants.{Ours, Device}
use Rattle.formula.proofs.Members.{any_map}
use Rattle.strategy.specs.Entries.{Entry}
use Rattle.strategy.specs.Records.{Unsatisfiable, assumptions}
use Rattle.strategy.specs.Questions.{assumed_clauses}
use Rattle.strategy.specs.Check.{LevelRecords, StartCheck}
use Rattle.layout.proofs.Shown.{nothing_before}
use Rattle.plan_check.proofs.Covered.{assumes}

pub start_like : (C : Clauses) (n : ℕ) (w v σ τ : Side) (levels others : List LevelRecords) (r : Bool) → w ≡ v → σ ≡ τ → levels ≡ others → Decides r (StartCheck C n v τ others) → Decides r (StartCheck C n w σ levels)
start_like C n w v σ τ levels others r p q e d =
    subst (λ a. Decides r (StartCheck C n a σ levels)) (sym p) (subst (λ b. Decides r (StartCheck C n v b levels)) (sym q) (subst (λ l. Decides r (StartCheck C n v τ l)) (sym e) d))

-- with no level the clauses decide
pub no_clause : (C : Clauses) (n k : ℕ) (σ : Side) → length C ≡ k → Decides (eqb k 0) (StartCheck C n Ours σ [])
no_clause C n k σ count = ((λ e. count ∙ eqb-true k 0 e), (λ h. eq-eqb k 0 (sym count ∙ h)))

pub some_clause : (C : Clauses) (n k : ℕ) (σ : Side) → length C ≡ k → Decides (ltb 0 k) (StartCheck C n Device σ [])
some_clause C n k σ count = ((λ e. subst (λ j. 0 < j) (sym count) (ltb-true 0 k e)), (λ h. lt-ltb 0 k (subst (λ j. 0 < j) count h)))

-- a set among no clauses is empty
nothing_in : (S : List ℕ) → T (all (λ i. get_or (replicate 512 false) i false) S) → S ≡ []
nothing_in [] t = refl
nothing_in (i ∷ S) t = absurd (subst T (ap (λ b. b && all (λ j. get_or (replicate 512 false) j false) S) (nothing_before i)) t)

empty_in : (S : List ℕ) → S ≡ [] → T (all (λ i. get_or (replicate 512 false) i false) S)
empty_in S e = subst (λ l. T (all (λ i. get_or (replicate 512 false) i false) l)) (sym e) tt

pub empty_entry : (entries : List Entry) (r : Bool) → Decides r (Any (λ e. T (all (λ i. get_or (replicate 512 false) i false) e.set)) entries) → Decides r (Any (λ e. e.set ≡ []) entries)
empty_entry entries r d =
    Decides-like r (any_map (λ e. T (all (λ i. get_or (replicate 512 false) i false) e.set)) (λ e. e.set ≡ []) entries (λ e. nothing_in e.set))
    (any_map (λ e. e.set ≡ []) (λ e. T (all (λ i. get_or (replicate 512 false) i false) e.set)) entries (λ e. empty_in e.set)) d

-- the questions about the first level, before which no clause is satisfied
module _ (C : Clauses) (n k : ℕ) (count : length C ≡ k) (l : LevelRecords) (after : List LevelRecords) (r : Bool) where
  pub device_first : Decides r (Unsatisfiable l.chain (assumptions n k Device (assumed_clauses k Device (λ i. get_or (replicate 512 false) i false)))) → Decides r (StartCheck C n Ours Device (l ∷ after))
  device_first d = subst (λ a. Decides r (Unsatisfiable l.chain a)) (assumes C n k Device (λ i. get_or (replicate 512 false) i false) (λ i. false) count (λ i h. nothing_before i)) d

  pub our_first : Decides r (Unsatisfiable l.chain (assumptions n k Ours (assumed_clauses k Ours (λ i. get_or (replicate 512 false) i false)))) → Decides r (StartCheck C n Device Ours (l ∷ after))
  our_first d = subst (λ a. Decides r (Unsatisfiable l.chain a)) (assumes C n k Ours (λ i. get_or (replicate 512 false) i false) (λ i. true) count (λ i h. ap not (nothing_before i))) d
