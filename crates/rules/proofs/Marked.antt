-- One turn of the loop that marks the clauses hit, from the last clause to the first.
use Rattle.std.proofs.Common.{◌≡◌, ℕ, ◌-◌, ◌<◌, ◌≤◌, Bool, true, false, ◌||◌, List, [], ◌∷◌, length, get_or, set, ℤ, sym, ap, ◌∙◌, ⊎_elim, arith}
use Rattle.std.proofs.lemmas.List.{get_or-set_same, get_or-set_other, get_or_past}
use Rattle.std.proofs.lemmas.Bool.{cases_lt}
use Rattle.formula.specs.Lists.{any}
use Rattle.formula.specs.Game.{Clauses, Values, has, hits}
use Rattle.formula.specs.Backward.{onto}
use Rattle.strategy.proofs.ListPlaces.{get_here}

abbrev pub Above : Clauses → Values → List Bool → List Bool → ℕ → Type 0
Above C x old now left = (i : ℕ) → left ≤ i → get_or now i false ≡ (hits C x i || get_or old i false)

abbrev pub Under : List Bool → List Bool → ℕ → Type 0
Under old now left = (i : ℕ) → i < left → get_or now i false ≡ get_or old i false

-- past the last clause nothing is hit
pub none_above : (C : Clauses) (x : Values) (old : List Bool) (left : ℕ) → length C ≤ left → Above C x old old left
none_above C x old left h i k = sym (ap (λ c. any (λ l. has l x) c || get_or old i false) (get_or_past C i [] (omega arith)))

module _ (C : Clauses) (x : Values) (old now : List Bool) (rest done : List (List ℤ)) (c : List ℤ) (left : ℕ) (is : C ≡ onto (c ∷ rest) done) (long : length rest ≡ left - 1) (some : 0 < left)
    (above : Above C x old now left) (under : Under old now left) where
  hits_here : hits C x (left - 1) ≡ any (λ l. has l x) c
  hits_here = ap (λ D. hits D x (left - 1)) is ∙ ap (λ m. hits (onto rest (c ∷ done)) x m) (sym long) ∙ ap (any (λ l. has l x)) (get_here rest c done [])

  pub miss_above : any (λ l. has l x) c ≡ false → Above C x old now (left - 1)
  miss_above f i h =
      ⊎_elim (λ k. above i (omega arith))
      (λ k. let e : i ≡ left - 1 = omega arith in under i (omega arith) ∙ sym (ap (λ b. b || get_or old i false) (ap (hits C x) e ∙ hits_here ∙ f)))
      (cases_lt (left - 1) i)

  pub miss_under : Under old now (left - 1)
  miss_under i h = under i (omega arith)

  module _ (room : left - 1 < length now) where
    pub hit_above : any (λ l. has l x) c ≡ true → Above C x old (set now (left - 1) true) (left - 1)
    hit_above t i h =
        ⊎_elim (λ k. get_or-set_other now (left - 1) i true false (λ e. omega arith) ∙ above i (omega arith))
        (λ k. let e : i ≡ left - 1 = omega arith in ap (λ j. get_or (set now (left - 1) true) j false) e ∙ get_or-set_same now (left - 1) true false room ∙ sym (ap (λ b. b || get_or old i false) (ap (hits C x) e ∙ hits_here ∙ t)))
        (cases_lt (left - 1) i)

    pub hit_under : Under old (set now (left - 1) true) (left - 1)
    hit_under i h = get_or-set_other now (left - 1) i true false (λ e. omega arith) ∙ under i (omega arith)
