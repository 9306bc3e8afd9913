-- The lowest open signal of the records that are not yet true. Assumes nothing.
use Rattle.std.proofs.Common.{◌≡◌, ℕ, zero, suc, ◌+◌, ◌-◌, ◌<◌, ◌≤◌, min, Bool, true, false, ◌⊎◌, List, [], ◌∷◌, length, get_or, ℤ, pos, nat_abs, Some, None, Option, MatchOption, IfSome, sym, refl, ap, ◌∙◌, subst, inl, inr, ⊎_elim, le_trans, arith}
use Rattle.std.specs.List.{AllByRecursion}
use Rattle.std.proofs.lemmas.Bool.{and_from, or_left, or_right, both_ways}
use Rattle.engine.specs.Truth.{literal, clause, chain}
use Rattle.propagation.specs.Rows.{at, word_of, Shaped, Agrees}
use Rattle.branching.specs.Search.{sign, positive, NotBefore}
use Rattle.branching.proofs.Order.{value_from_word}
use Rattle.propagation.specs.Steps.{TrueAt, OpenAt, Holding, Alive, Silent, Grown}
use Rattle.branching.specs.Search.{place_in, From, Chosen, Completed, Met}

-- `low` is `best`, or an open signal that one of the first n numbers names
abbrev pub Found : List ℤ → List ℤ → Option ℕ → Option ℕ → ℕ → Type 0
Found row xs best low n = (low ≡ best) ⊎ MatchOption low ⊥ (λ i. (i < length row) × (nat_abs (at row i) ≡ 0) × ((k : ℕ) × (k < n) × (nat_abs (get_or xs k (pos 0)) - 1 ≡ i)))

pub found_more : (row xs : List ℤ) (best low : Option ℕ) (n : ℕ) → Found row xs best low n → Found row xs best low (n + 1)
found_more row xs best None n found = ⊎_elim (λ same. inl same) (λ o. inr o) found
found_more row xs best (Some i) n found =
    ⊎_elim (λ same. inl same) (λ o. let below = o.2.1 in inr (o.0, o.1, (o.2.0, omega arith, o.2.2))) found

-- the lower one of `low` and the open signal p
abbrev pub Lower : Option ℕ → ℕ → ℕ → Type 0
Lower low p new = MatchOption low (new ≡ p) (λ old. new ≡ min old p)

pub lower_place : (row : List ℤ) (low : Option ℕ) (p new : ℕ) → p < length row → Lower low p new → (new ≤ place_in row low) × (new ≤ p)
lower_place row None p new h is = (omega arith, omega arith)
lower_place row (Some old) p new h is = (omega arith, omega arith)

pub found_lower : (row xs : List ℤ) (best low : Option ℕ) (n new : ℕ) → nat_abs (get_or xs n (pos 0)) - 1 < length row → nat_abs (word_of row (get_or xs n (pos 0))) ≡ 0
    → Lower low (nat_abs (get_or xs n (pos 0)) - 1) new → Found row xs best low n → Found row xs best (Some new) (n + 1)
found_lower row xs best None n new inside open' is found = inr (omega arith, ap (λ i. nat_abs (at row i)) is ∙ open', (n, omega arith, sym is))
found_lower row xs best (Some old) n new inside open' is found =
    ⊎_elim
    (λ (first : new ≡ nat_abs (get_or xs n (pos 0)) - 1). inr (omega arith, ap (λ i. nat_abs (at row i)) first ∙ open', (n, omega arith, sym first)))
    (λ (second : new ≡ old). subst (λ m. Found row xs best (Some m) (n + 1)) (sym second) (found_more row xs best (Some old) n found))
    (one (nat_abs (get_or xs n (pos 0)) - 1) old new is)
  where
    either : (p low : ℕ) → (p ≤ low) ⊎ (low ≤ p)
    either p low = grind arith

    one : (p low new : ℕ) → new ≡ min low p → (new ≡ p) ⊎ (new ≡ low)
    one p low new is = ⊎_elim (λ (a : p ≤ low). inl (omega arith)) (λ (b : low ≤ p). inr (omega arith)) (either p low)

-- a signal that a record with no true number names
pub found_heard : (row xs : List ℤ) (best low : Option ℕ) (n : ℕ) → n ≤ length xs → ((k : ℕ) → k < length xs → word_of row (get_or xs k (pos 0)) ≡ get_or xs k (pos 0) → ⊥)
    → Found row xs best low n → (low ≡ best) ⊎ MatchOption low ⊥ (λ i. (i < length row) × (nat_abs (at row i) ≡ 0) × (Silent row i xs → ⊥))
found_heard row xs best None n few none found = ⊎_elim (λ same. inl same) (λ o. inr o) found
found_heard row xs best (Some i) n few none found =
    ⊎_elim (λ same. inl same)
    (λ o.
    let below = o.2.1 in
    inr (o.0, o.1, (λ silent. ⊎_elim (λ (holds : Holding row xs). none holds.0 holds.1.0 holds.1.2) (λ unnamed. unnamed o.2.0 (omega arith) o.2.2) silent)))
    found

-- an open signal that a record with no true number names, one of a chain
abbrev pub Heard : List ℤ → List (List ℤ) → Option ℕ → Type 0
Heard row cs low = IfSome low (λ i. (i < length row) × (nat_abs (at row i) ≡ 0) × (AllByRecursion (Silent row i) cs → ⊥))

pub heard_among : (row xs : List ℤ) (cs : List (List ℤ)) (low : Option ℕ) → ((j : ℕ) → AllByRecursion (Silent row j) cs → Silent row j xs)
    → MatchOption low ⊥ (λ i. (i < length row) × (nat_abs (at row i) ≡ 0) × (Silent row i xs → ⊥)) → Heard row cs low
heard_among row xs cs None among heard = absurd heard
heard_among row xs cs (Some i) among heard = (heard.0, heard.1, (λ all. heard.2 (among i all)))

-- a lower bound serves as well
pub from_lower : (row : List ℤ) (m n : ℕ) (xs : List ℤ) → m ≤ n → From row n xs → From row m xs
from_lower row m n xs h from = ⊎_elim (λ holds. inl holds) (λ behind. inr (λ k hk open'. le_trans h (behind k hk open'))) from

-- behind the last signal there is none, so that a record with an open signal or a true number has the latter
pub holding_from : (row : List ℤ) (m : ℕ) (xs : List ℤ) → length row ≤ m → Alive row xs → From row m xs → Holding row xs
holding_from row m xs h alive from =
    ⊎_elim (λ holds. holds)
    (λ (behind : (k : ℕ) → k < length xs → nat_abs (word_of row (get_or xs k (pos 0))) ≡ 0 → m ≤ nat_abs (get_or xs k (pos 0)) - 1).
    ⊎_elim (λ holds. holds)
    (λ (open' : (k : ℕ) × OpenAt row xs k).
    let low = open'.1.1.0 in
    let high = open'.1.1.1 in
    let far = behind open'.0 open'.1.0 open'.1.2 in
    absurd (omega arith))
    alive)
    from

pub all_holding : (row : List ℤ) (m : ℕ) (cs : List (List ℤ)) → length row ≤ m → AllByRecursion (Alive row) cs → AllByRecursion (From row m) cs → AllByRecursion (Holding row) cs
all_holding row m [] h alive from = tt
all_holding row m (c ∷ cs) h alive from = (holding_from row m c h alive.0 from.0, all_holding row m cs h alive.1 from.1)

pub chosen_from : (row : List ℤ) (cs : List (List ℤ)) (low : Option ℕ) → Heard row cs low → AllByRecursion (From row (place_in row low)) cs → AllByRecursion (Alive row) cs → Chosen cs row low
chosen_from row cs None heard from alive = all_holding row (length row) cs (omega arith) alive from
chosen_from row cs (Some i) heard from alive = (heard.0, heard.1, from, heard.2)

-- a record with a true number is true under each assignment that agrees
clause_holding : (row : List ℤ) (a : ℕ → Bool) (xs : List ℤ) (k : ℕ) → TrueAt row xs k → Agrees row a → clause a xs ≡ true
clause_holding row a [] k true' agrees = let h = true'.0 in absurd (omega arith)
clause_holding row a (x ∷ xs) zero true' agrees =
    let low = true'.1.0 in
    let high = true'.1.1 in
    let size = ap nat_abs true'.2 in
    or_left (literal a x) (clause a xs) (ap (literal a) (sym true'.2) ∙ agrees (nat_abs x - 1) (omega arith) (omega arith))
clause_holding row a (x ∷ xs) (suc k) true' agrees =
    let h = true'.0 in
    or_right (literal a x) (clause a xs) (clause_holding row a xs k (omega arith, true'.1, true'.2) agrees)

pub chain_holding : (row : List ℤ) (a : ℕ → Bool) (cs : List (List ℤ)) → AllByRecursion (Holding row) cs → Agrees row a → chain a cs ≡ true
chain_holding row a [] holds agrees = refl
chain_holding row a (c ∷ cs) holds agrees = and_from (clause a c) (chain a cs) (clause_holding row a c holds.0.0 holds.0.1 agrees) (chain_holding row a cs holds.1 agrees)

-- the row whose open signals have become false
module _ (row after : List ℤ) (long : length after ≡ length row) (completed : Completed row after) where
  completed_extends : (a : ℕ → Bool) → Agrees after a → Agrees row a
  completed_extends a agrees i h e =
      ⊎_elim
      (λ (none : (nat_abs (at row i) ≡ 0) × (at after i ≡ sign false i)). let z = none.0 in absurd (omega arith))
      (λ (same : (nat_abs (at row i) ≡ 0 → ⊥) × (at after i ≡ at row i)). ap (literal a) (sym same.1) ∙ agrees i (omega arith) (ap nat_abs same.1 ∙ e))
      (completed i h)

  completed_shaped : Shaped row → (i : ℕ) → i < length after → nat_abs (at after i) ≡ i + 1
  completed_shaped shaped i h =
      let inside : i < length row = omega arith in
      ⊎_elim
      (λ (none : (nat_abs (at row i) ≡ 0) × (at after i ≡ sign false i)). ap nat_abs none.1 ∙ omega arith)
      (λ (same : (nat_abs (at row i) ≡ 0 → ⊥) × (at after i ≡ at row i)). ap nat_abs same.1 ∙ ⊎_elim (λ z. absurd (same.0 z)) (λ e. e) (shaped i inside))
      (completed i inside)

  completed_first : Shaped row → (b : ℕ → Bool) → Agrees row b → NotBefore after b
  completed_first shaped b agrees k h same no' yes' =
      let inside : k < length row = omega arith in
      ⊎_elim
      (λ (none : (nat_abs (at row k) ≡ 0) × (at after k ≡ sign false k)). both_ways (positive (at after k)) (ap positive none.1) yes')
      (λ (kept : (nat_abs (at row k) ≡ 0 → ⊥) × (at after k ≡ at row k)).
      let size : nat_abs (at row k) ≡ k + 1 = ⊎_elim (λ z. absurd (kept.0 z)) (λ e. e) (shaped k inside) in
      let value = value_from_word b (at row k) k size (agrees k inside size) in
      both_ways (b (suc k)) no' (value ∙ ap positive (sym kept.1) ∙ yes'))
      (completed k inside)

  pub met_completed : (cs : List (List ℤ)) (row₀ : List ℤ) (trail₀ : List ℕ) (mark : ℕ) (trail : List ℕ) (top : ℕ) → Grown cs row₀ trail₀ mark row trail top → AllByRecursion (Holding row) cs → Met cs row₀ after
  met_completed cs row₀ trail₀ mark trail top grown holds =
      let shaped = grown.noted.shaped in
      record {
        shaped = λ i h. inr (completed_shaped shaped i h);
        complete = λ i h none. let full = completed_shaped shaped i h in omega arith;
        extends = λ a agrees. grown.extends a (completed_extends a agrees);
        meets = λ a agrees. chain_holding row a cs holds (completed_extends a agrees);
        long = long ∙ grown.long;
        quiet = λ j h open' silent.
            let still = grown.steady j h open' silent in
            let same = grown.long in
            ⊎_elim (λ none. none.1) (λ kept. absurd (kept.0 still)) (completed j (omega arith));
        first = λ b meets agrees. completed_first shaped b (grown.follows b meets agrees);
      }
