-- Entries read off their records: signals first, then values; and the newest one that fits.
use Rattle.std.proofs.Common.{◌≡◌, ℕ, zero, suc, ◌+◌, ◌<◌, ◌≤◌, Bool, true, false, cond, ◌&&◌, ltb, leb, List, [], ◌∷◌, length, get_or, take, drop, ℤ, pos, nat_abs, Option, Some, None, Bor, sym, refl, ap, ◌∙◌, subst, ap₂, arith}
use mathlib.Core.Option.{none, some}
use Rattle.std.specs.Option.{MatchOption}
use Rattle.std.specs.List.{AllWithin, HoldsAt, FoldsTo}
use Rattle.std.specs.Bool.{⊤}
use Rattle.std.specs.Fn.{Mut, CalledAt}
use Rattle.std.specs.Iterator.{YieldsThen}
use Rattle.std.proofs.lemmas.Iterator.{YieldsList, first_from_find}
use Rattle.std.proofs.lemmas.List.Elements.{All-from_recursion, All-get_or}
use Rattle.std.proofs.lemmas.Bool.{and_parts, ltb-true, leb-true, cond-true, cond-false}
use Rattle.formula.specs.Lists.{all, find, All, each}
use Rattle.formula.specs.Proper.{Ascending}
use Rattle.formula.specs.declared.side.Side.{Side}
use Rattle.formula.specs.declared.side.Side.TheVariants.{Ours, Device}
use Rattle.strategy.specs.Entries.{Entry, fits_when}
use Rattle.strategy.specs.Records.{entry_of}
use Rattle.strategy.specs.WellFormed.{ProperLevel}
use Rattle.strategy.proofs.Numbers.{entry_read_back}
use Rattle.soundness.specs.Soundness.{EntryForm}
use Rattle.soundness.specs.Forms.{is_signed, are_signals}
use Rattle.plan.specs.Fitting.{set_of, wants}
use Rattle.soundness.proofs.Forming.{mark, marks_of, mark_signed}

-- signals lie in their range
at_front : (x : ℤ) (xs : List ℤ) (low top i : ℕ) → i < suc (length xs) → low < nat_abs x → nat_abs x ≤ top
    → ((j : ℕ) → j < length xs → (nat_abs x < nat_abs (get_or xs j (pos 0))) × (nat_abs (get_or xs j (pos 0)) ≤ top))
    → (low < nat_abs (get_or (x ∷ xs) i (pos 0))) × (nat_abs (get_or (x ∷ xs) i (pos 0)) ≤ top)
at_front x xs low top zero h a b rest = (a, b)
at_front x xs low top (suc j) h a b rest = let k = rest j (omega arith) in (omega arith, k.1)

pub signals_range : (σ : Side) (low top : ℕ) (xs : List ℤ) → are_signals σ low top xs ≡ true → (i : ℕ) → i < length xs → (low < nat_abs (get_or xs i (pos 0))) × (nat_abs (get_or xs i (pos 0)) ≤ top)
signals_range σ low top [] e i h = absurd (omega arith)
signals_range σ low top (x ∷ xs) e i h =
    let both = and_parts (is_signed σ x && (ltb low (nat_abs x) && leb (nat_abs x) top)) (are_signals σ (nat_abs x) top xs) e in
    let range = and_parts (ltb low (nat_abs x)) (leb (nat_abs x) top) (and_parts (is_signed σ x) (ltb low (nat_abs x) && leb (nat_abs x) top) both.0).1 in
    at_front x xs low top i (omega arith) (ltb-true low (nat_abs x) range.0) (leb-true (nat_abs x) top range.1) (signals_range σ (nat_abs x) top xs both.1)

-- the set is read off its marks
set_back : (n : ℕ) (σ : Side) (S : List ℕ) → set_of n (each (mark n σ) S) ≡ S
set_back n σ [] = refl
set_back n σ (i ∷ S) = let at : nat_abs (mark n σ i) ≡ n + suc i = (mark_signed σ n i).1 in ap₂ {C = List ℕ} (λ (a : ℕ) l. a ∷ l) (omega arith) (set_back n σ S)

module _ (n k : ℕ) (σ : Side) (vs : List ℕ) (proper : ProperLevel n vs) (rec : List ℤ) (form : EntryForm n k σ vs rec) where
  pub entry_split : (p : ℕ) → p + length vs ≡ length rec → entry_of n rec ≡ record { set = set_of n (take p rec); values = drop p rec }
  entry_split p h =
      let cut = marks_of n k σ vs rec form p h in
      let e = form.0 in
      ap (entry_of n) form.3 ∙ entry_read_back n σ vs e proper form.2
      ∙ ap₂ {C = Entry} (λ (S : List ℕ) (x : List ℤ). record { set = S; values = x }) (sym (ap (set_of n) cut.0 ∙ set_back n σ e.set)) (sym cut.1)

-- which entries fit, by the clauses of their sets
pub fits_by_set : (σ : Side) (s : ℕ → Bool) (e : Entry) → fits_when σ s e ≡ all (λ i. wants σ (s i)) e.set
fits_by_set Ours s e = refl
fits_by_set Device s e = refl

-- what is satisfied matters for the clauses below k only
module _ (σ : Side) (s t : ℕ → Bool) (k : ℕ) (agree : (i : ℕ) → i < k → s i ≡ t i) where
  all_agree : (low : ℕ) (S : List ℕ) → Ascending low k (each (λ i. suc i) S) → all (λ i. wants σ (s i)) S ≡ all (λ i. wants σ (t i)) S
  all_agree low [] h = refl
  all_agree low (i ∷ S) h = ap₂ ◌&&◌ (ap (wants σ) (agree i h.1)) (all_agree (suc i) S h.2)

  pub find_agree : (n : ℕ) (vs : List ℕ) → ProperLevel n vs → (rs : List (List ℤ)) → All (EntryForm n k σ vs) rs
      → find (fits_when σ s) (each (entry_of n) rs) ≡ find (fits_when σ t) (each (entry_of n) rs)
  find_agree n vs proper [] h = refl
  find_agree n vs proper (rec ∷ rs) h =
      let form = h.0 in
      let e = form.0 in
      let is : entry_of n rec ≡ e = ap (entry_of n) form.3 ∙ entry_read_back n σ vs e proper form.2 in
      let fit : fits_when σ s (entry_of n rec) ≡ fits_when σ t (entry_of n rec) =
      ap (fits_when σ s) is ∙ fits_by_set σ s e ∙ all_agree 0 e.set form.1 ∙ sym (fits_by_set σ t e) ∙ sym (ap (fits_when σ t) is) in
      ap (λ b. cond b (some (entry_of n rec)) (find (fits_when σ s) (each (entry_of n) rs))) fit
      ∙ ap (λ o. cond (fits_when σ t (entry_of n rec)) (some (entry_of n rec)) o) (find_agree n vs proper rs h.1)

-- the first of what f makes of a list that passes, by its place in the list
module _ {A B : Type 0} (p : B → Bool) (f : A → B) where
  pub find_none : (xs : List A) → AllWithin (λ x. p (f x) ≡ false) xs 0 (length xs) → find p (each f xs) ≡ none
  find_none [] h = refl
  find_none (x ∷ xs) h = cond-false (p (f x)) _ _ (h 0 x (omega arith) (omega arith)) ∙ find_none xs (λ k d l u. h (suc k) d (omega arith) (omega arith))

  pub find_some : (xs : List A) (i : ℕ) (y : A) → i < length xs → HoldsAt (λ z. z ≡ y) xs i → p (f y) ≡ true → AllWithin (λ x. p (f x) ≡ false) xs 0 i → find p (each f xs) ≡ some (f y)
  find_some [] i y l h e none_before = absurd (omega arith)
  find_some (x ∷ xs) zero y l h e none_before = cond-true (p (f x)) _ _ (ap (λ z. p (f z)) (h x) ∙ e) ∙ ap (λ z. some (f z)) (h x)
  find_some (x ∷ xs) (suc i) y l h e none_before =
      cond-false (p (f x)) _ _ (none_before 0 x (omega arith) (omega arith)) ∙ find_some xs i y (omega arith) (λ d. h d) e (λ k d a b. none_before (suc k) d (omega arith) (omega arith))

  -- by what `find` says of the list
  abbrev pub Found : (xs : List A) → Option (Bor A) → Type 0
  Found xs r = MatchOption r (AllWithin (λ x. p (f x) ≡ false) xs 0 (length xs))
      (λ y. (p (f y.now) ≡ true) × (i : ℕ) × (i < length xs) × HoldsAt (λ z. z ≡ y.now) xs i × AllWithin (λ x. p (f x) ≡ false) xs 0 i)

  pub found_none : (xs : List A) (r : Option (Bor A)) → Found xs r → r ≡ None → find p (each f xs) ≡ none
  found_none xs r h e = find_none xs (subst (Found xs) e h)

  pub found_some : (xs : List A) (r : Option (Bor A)) (y : Bor A) → Found xs r → r ≡ Some y → find p (each f xs) ≡ some (f y.now)
  found_some xs r y h e = let k = subst (Found xs) e h in find_some xs k.1 y.now k.2 k.3 k.0 k.4

  pub found_in : (P : A → Type 0) (xs : List A) (r : Option (Bor A)) (y : Bor A) → Found xs r → r ≡ Some y → All P xs → P y.now
  found_in P xs r y h e all = let k = subst (Found xs) e h in subst P (k.3 y.now) (All-get_or P xs k.1 y.now k.2 (All-from_recursion P xs all))

  pub found_by : {S F : Type 0} {steps : S → Option (Bor A) → S → Type 0} {g : Mut F (Bor (Bor A) × Unit {0}) Bool} {s : S} (xs : List A) (u : S) (k : F) (r : Option (Bor A))
      → (ys : List (Bor A)) × (j : F) × YieldsThen steps s ys r u × FoldsTo (λ a x q. CalledAt g a x false q) k ys j × MatchOption r ⊤ (λ x. (h : F) × CalledAt g j x true h)
      → YieldsList steps (λ x. x.now) s xs → ((x : Bor A) (b : Bool) (q : F) → CalledAt g k x b q → (q ≡ k) × (b ≡ p (f x.now))) → Found xs r
  found_by xs u k r ran road told =
      first_from_find u k r (λ x. p (f x) ≡ true) (λ x. p (f x) ≡ false) ran road (λ x q c. sym (told x true q c).1) (λ x q c. let t = told x false q c in (t.0, sym t.1))
