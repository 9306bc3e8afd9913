-- The records of a level at open, by the clauses that make them.
use Rattle.std.proofs.Common.{◌≡◌, ℕ, zero, suc, ◌+◌, ◌-◌, ◌<◌, ◌≤◌, Bool, List, [], ◌∷◌, length, get_or, ℤ, sym, ap, ◌∙◌, subst, ⊎_elim, arith}
use Rattle.std.proofs.lemmas.Bool.{cases_lt}
use Rattle.formula.specs.Lists.{In, from}
use Rattle.formula.specs.Game.{Clauses}
use Rattle.formula.specs.Backward.{onto}
use Rattle.formula.specs.declared.side.Side.{Side}
use Rattle.formula.specs.declared.side.Side.TheVariants.{Ours, Device}
use Rattle.formula.proofs.Members.{in_left, in_right}
use Rattle.formula.proofs.Values.{in_append}
use Rattle.strategy.specs.Records.{gather}
use Rattle.strategy.proofs.ListPlaces.{get_here}
use Rattle.layout.specs.Opening.{clause_records}
use Rattle.plan_check.specs.Made.{made_by}

-- an element of what is gathered over a row comes from one place of the row
module _ {A : Type 0} (f : ℕ → List A) (x : A) where
  pub gather_in : (i j m : ℕ) → i ≤ m → m < i + j → In x (f m) → In x (gather f (from i j))
  gather_in i zero m l u h = absurd (omega arith)
  gather_in i (suc j) m l u h =
      ⊎_elim (λ above. in_right x (f i) (gather f (from (suc i) j)) (gather_in (suc i) j m above (omega arith) h))
      (λ here. let e : m ≡ i = omega arith in in_left x (f i) (gather f (from (suc i) j)) (subst (λ v. In x (f v)) e h)) (cases_lt i m)

  pub gather_out : (i j : ℕ) → In x (gather f (from i j)) → (m : ℕ) × (i ≤ m) × (m < i + j) × In x (f m)
  gather_out i zero h = absurd h
  gather_out i (suc j) h =
      ⊎_elim (λ here. (i, omega arith, omega arith, here)) (λ later. let r = gather_out (suc i) j later in (r.0, omega (arith, r.1), omega (arith, r.2), r.3)) (in_append x (f i) (gather f (from (suc i) j)) h)

-- what a clause makes, by its place
made_at : (C : Clauses) (n : ℕ) (σ : Side) (vs : List ℕ) (last : Bool) (i : ℕ) (clause : List ℤ) → get_or C i [] ≡ clause → clause_records C n σ vs last i ≡ made_by n (length C) σ vs last i clause
made_at C n Ours vs last i clause e = ap (λ c. made_by n (length C) Ours vs last i c) e
made_at C n Device vs last i clause e = ap (λ c. made_by n (length C) Device vs last i c) e

-- the clause that is read next, when `left` are left
module _ (C : Clauses) (n k : ℕ) (σ : Side) (vs : List ℕ) (last : Bool) (count : length C ≡ k) (rest done : List (List ℤ)) (clause : List ℤ) (left : ℕ) (is : C ≡ onto (clause ∷ rest) done) (long : length rest ≡ left - 1) where
  pub made_here : clause_records C n σ vs last (left - 1) ≡ made_by n k σ vs last (left - 1) clause
  made_here =
      made_at C n σ vs last (left - 1) clause (ap (λ D. get_or D (left - 1) []) is ∙ ap (λ m. get_or (onto rest (clause ∷ done)) m []) (sym long) ∙ get_here rest clause done [])
      ∙ ap (λ m. made_by n m σ vs last (left - 1) clause) count
