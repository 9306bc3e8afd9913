-- How a row of values grows by what follows from the records, and by a branch. Assumes nothing.
use Rattle.std.proofs.Common.{◌≡◌, ℕ, ◌+◌, ◌-◌, ◌<◌, ◌≤◌, Bool, true, false, List, length, get_or, take, set, ℤ, pos, nat_abs, Some, None, Option, MatchOption, IfSome, Bor, sym, refl, ap, ◌∙◌, subst, inl, inr, ⊎_elim, arith}
use Rattle.std.specs.List.{AllByRecursion}
use Rattle.std.proofs.ByRecursion.{All-get_or}
use Rattle.std.proofs.lemmas.List.{length-set, get_or-set_other}
use Rattle.std.proofs.lemmas.List.Recursion.{or_from_places}
use Rattle.std.proofs.lemmas.Bool.{both_ways}
use Rattle.std.specs.Bool.{⊤}
use Rattle.std.proofs.lemmas.List.Recursion.{and_at}
use Rattle.std.specs.List.{AllWithin, HoldsAt}
use Rattle.pool.specs.declared.chain.Chain.{Chain}
use Rattle.pool.specs.Chains.{records_of}
use Rattle.pool.proofs.Tested.{literals_of}
use Rattle.pool.specs.Records.{Literal}
use Rattle.engine.specs.Truth.{literal, clause, chain}
use Rattle.propagation.specs.Rows.{at, Shaped, False, Agrees, Refuted, Blocked, back}
use Rattle.propagation.specs.Steps.{Silent, Forced, Ready, Grown, Traced}
use Rattle.propagation.proofs.Growing.{agrees_set, agrees_unset, noted_assign, noted_trail}
use Rattle.propagation.proofs.Heard.{holding_stays, forced_heard}
use Rattle.propagation.proofs.Blocks.{literal_false, clause_forced}

pub grown_start : (s : ℕ) (cs : List (List ℤ)) (row : List ℤ) (trail : List ℕ) (mark : ℕ) (marks : List Bool) → Ready s row trail mark marks → Grown cs row trail mark row trail mark
grown_start s cs row trail mark marks ready =
    let none : mark - mark ≡ 0 = omega arith in
    record {
      noted = record {
        shaped = ready.shaped;
        counted = ready.counted;
        later = omega arith;
        inside = λ j lo hi. absurd (omega arith);
        undone = ap (λ k. back k trail mark row) none;
        kept = refl;
      };
      follows = λ a meets agrees. agrees;
      extends = λ a agrees. agrees;
      long = refl;
      stays = λ i h shut. refl;
      steady = λ j h open' silent. open';
    }

-- a number that a record forces
pub grown_forced : (cs : List (List ℤ)) (row₀ : List ℤ) (trail₀ : List ℕ) (mark : ℕ) (row : List ℤ) (trail : List ℕ) (top : ℕ) (x : ℤ) (xs : List ℤ)
    → Grown cs row₀ trail₀ mark row trail top → Forced row xs x → AllByRecursion (Literal (length row)) xs → ((a : ℕ → Bool) → chain a cs ≡ true → clause a xs ≡ true) → ((j : ℕ) → AllByRecursion (Silent row₀ j) cs → Silent row₀ j xs) → top < length trail
    → Grown cs row₀ trail₀ mark (set row (nat_abs x - 1) x) (set trail top (nat_abs x - 1)) (top + 1)
grown_forced cs row₀ trail₀ mark row trail top x xs grown forced literals member among room =
    let low = forced.named.0 in
    let high = forced.named.1 in
    let shaped = grown.noted.shaped in
    let true' : (a : ℕ → Bool) → chain a cs ≡ true → Agrees row a → literal a x ≡ true =
    λ a meets agrees. clause_forced a xs x (member a meets)
    (λ k h. ⊎_elim (λ same. inl same)
    (λ false'.
    let named = All-get_or (Literal (length row)) xs k (pos 0) h literals in
    let low' = named.0 in
    let high' = named.1 in
    inr (literal_false row a (get_or xs k (pos 0)) shaped named (agrees (nat_abs (get_or xs k (pos 0)) - 1) (omega arith)) false'))
    (forced.others k h)) in
    record {
      noted = noted_assign row₀ trail₀ mark row trail top x grown.noted forced.named forced.unset room;
      follows = λ a meets agrees. let h = grown.follows a meets agrees in agrees_set row a (nat_abs x - 1) x (omega arith) (true' a meets h) h;
      extends = λ a agrees. grown.extends a (agrees_unset row a (nat_abs x - 1) x forced.unset agrees);
      long = length-set row (nat_abs x - 1) x ∙ grown.long;
      stays = λ i h shut.
          let was = grown.stays i h shut in
          get_or-set_other row (nat_abs x - 1) i x (pos 0) (λ (same : i ≡ nat_abs x - 1). shut (ap nat_abs (sym was) ∙ ap (λ j. nat_abs (at row j)) same ∙ forced.unset)) ∙ was;
      steady = λ j h open' silent.
          ap nat_abs (get_or-set_other row (nat_abs x - 1) j x (pos 0)
          (λ (same : j ≡ nat_abs x - 1). forced_heard row₀ row xs x forced (holding_stays row₀ row grown.long grown.stays xs) (subst (λ i. Silent row₀ i xs) same (among j silent))))
          ∙ grown.steady j h open' silent;
    }

-- a record of false numbers, all of them marked
pub blocked_fails : (cs : List (List ℤ)) (marks : List Bool) (row xs : List ℤ) → Shaped row → AllByRecursion (Literal (length row)) xs
    → ((k : ℕ) → k < length xs → get_or marks (nat_abs (get_or xs k (pos 0)) - 1) false ≡ true) → ((k : ℕ) → k < length xs → False row (get_or xs k (pos 0)))
    → ((a : ℕ → Bool) → chain a cs ≡ true → clause a xs ≡ true) → Blocked cs marks row
blocked_fails cs marks row xs shaped literals marked fails member a meets agrees =
    let no' = or_from_places (clause a) (literal a) refl (λ _ _. refl) xs (pos 0)
    (λ k h.
    let named = All-get_or (Literal (length row)) xs k (pos 0) h literals in
    let low = named.0 in
    let high = named.1 in
    literal_false row a (get_or xs k (pos 0)) shaped named (agrees (nat_abs (get_or xs k (pos 0)) - 1) (omega arith) (marked k h)) (fails k h)) in
    both_ways (clause a xs) no' (member a meets)

-- what a row that has grown is when its marked part clashes
pub traced_from : (s : ℕ) (cs : List (List ℤ)) (row₀ : List ℤ) (trail₀ : List ℕ) (mark : ℕ) (row : List ℤ) (trail : List ℕ) (top : ℕ) (marks : List Bool)
    → s ≡ length row → length row ≤ length marks → top ≤ length trail → Grown cs row₀ trail₀ mark row trail top → Blocked cs marks row → Traced s cs row trail mark top marks
traced_from s cs row₀ trail₀ mark row trail top marks signalled space room grown blocked =
    record {
      signalled = signalled;
      space = space;
      later = grown.noted.later;
      room = room;
      inside = grown.noted.inside;
      shaped = grown.noted.shaped;
      blocked = blocked;
      refuted = subst (Refuted cs) (sym grown.noted.undone) (λ a meets agrees. let h = grown.follows a meets agrees in blocked a meets (λ i hi m e. h i hi e));
    }

pub grown_trail : (cs : List (List ℤ)) (row₀ : List ℤ) (trail₀ : List ℕ) (mark : ℕ) (row : List ℤ) (trail trail' : List ℕ) (top : ℕ)
    → Grown cs row₀ trail₀ mark row trail top → take top trail' ≡ take top trail → Grown cs row₀ trail₀ mark row trail' top
grown_trail cs row₀ trail₀ mark row trail trail' top grown e =
    record { noted = noted_trail row₀ trail₀ mark row trail trail' top grown.noted e; follows = grown.follows; extends = grown.extends; long = grown.long; stays = grown.stays; steady = grown.steady }

-- a record of the chain that `find` found
pub reason_from : (c : Chain) (row : List ℤ) (x : ℤ) (r : Option (Bor (List ℤ))) → c.signals ≡ length row
    → MatchOption r (AllWithin (λ xs. ⊤) (records_of c) 0 (length (records_of c)))
    (λ y. Forced row y.now x × (i : ℕ) × (i < length (records_of c)) × HoldsAt (λ xs. xs ≡ y.now) (records_of c) i × AllWithin (λ xs. ⊤) (records_of c) 0 i)
    → IfSome r (λ y. AllByRecursion (Literal (length row)) y.now × Forced row y.now x × ((a : ℕ → Bool) → chain a (records_of c) ≡ true → clause a y.now ≡ true))
reason_from c row x None signalled found = tt
reason_from c row x (Some y) signalled found =
    let i = found.1 in
    let is : get_or (records_of c) i y.now ≡ y.now = found.3 y.now in (
      rw signalled at (subst (AllByRecursion (Literal c.signals)) is (literals_of c i y.now found.2)),
      found.0,
      (λ a meets. subst (λ xs. clause a xs ≡ true) is (and_at (chain a) (clause a) refl (λ _ _. refl) (records_of c) i y.now found.2 meets)),
    )
