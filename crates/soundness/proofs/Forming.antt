-- The form of an entry, by its signals and its values.
use Rattle.std.proofs.Common.{◌≡◌, ℕ, zero, suc, ◌+◌, ◌-◌, ◌<◌, ◌≤◌, true, false, ◌&&◌, ltb, leb, List, [], ◌∷◌, ◌++◌, length, get_or, take, drop, ℤ, pos, negsuc, neg_ℤ, nat_abs, sym, refl, ap, ◌∙◌, subst, add-zero, arith, length-append}
use Rattle.std.proofs.lemmas.List.{take-append-drop, drop_more}
use Rattle.std.proofs.lemmas.Bool.{and_parts, and_from, and_left, and_right, ltb-true, lt-ltb, le-ltb, leb-true, le-leb, lt-leb, false≢true}
use Rattle.formula.specs.Lists.{each}
use Rattle.formula.specs.Backward.{is_choice}
use Rattle.formula.specs.Proper.{Ascending}
use Rattle.formula.specs.declared.side.Side.{Side}
use Rattle.formula.specs.declared.side.Side.TheVariants.{Ours, Device}
use Rattle.formula.proofs.Tests.{is_true}
use Rattle.formula.proofs.Values.{choice_passes, passes_choice}
use Rattle.strategy.specs.Entries.{Entry}
use Rattle.strategy.specs.Signals.{t_signal}
use Rattle.strategy.specs.Records.{entry_record}
use Rattle.soundness.specs.Soundness.{EntryForm}
use Rattle.soundness.specs.Forms.{is_signed, are_signals}
use Rattle.soundness.proofs.Rows.{test_true}

-- the signed signal of a clause in an entry
abbrev pub mark : ℕ → Side → ℕ → ℤ
mark n Ours i = pos (t_signal n i)
mark n Device i = neg_ℤ (pos (t_signal n i))

pub record_marks : (n : ℕ) (σ : Side) (e : Entry) → entry_record n σ e ≡ each (mark n σ) e.set ++ e.values
record_marks n Ours e = refl
record_marks n Device e = refl

signed : (σ : Side) (x : ℤ) → is_signed σ x ≡ true → (m : ℕ) × (nat_abs x ≡ suc m) × ((n : ℕ) → (i : ℕ) → suc m ≡ suc (n + i) → x ≡ mark n σ i)
signed Ours (pos zero) h = absurd (false≢true h)
signed Ours (pos (suc m)) h = (m, refl, λ n i e. ap pos e)
signed Ours (negsuc m) h = absurd (false≢true h)
signed Device (pos m) h = absurd (false≢true h)
signed Device (negsuc m) h = (m, refl, λ n i e. ap (λ k. neg_ℤ (pos k)) e)

-- the marks of an ascending set pass the test, and what passes is such
pub marks_from_test : (σ : Side) (n low k : ℕ) (xs : List ℤ) → are_signals σ (n + low) (n + k) xs ≡ true
    → (S : List ℕ) × Ascending low k (each (λ i. suc i) S) × (xs ≡ each (mark n σ) S)
marks_from_test σ n low k [] h = ([], tt, refl)
marks_from_test σ n low k (x ∷ xs) h =
    let both = and_parts (is_signed σ x && (ltb (n + low) (nat_abs x) && leb (nat_abs x) (n + k))) (are_signals σ (nat_abs x) (n + k) xs) h in
    let here = and_parts (is_signed σ x) (ltb (n + low) (nat_abs x) && leb (nat_abs x) (n + k)) both.0 in
    let range = and_parts (ltb (n + low) (nat_abs x)) (leb (nat_abs x) (n + k)) here.1 in
    let above : n + low < nat_abs x = ltb-true (n + low) (nat_abs x) range.0 in
    let under : nat_abs x ≤ n + k = leb-true (nat_abs x) (n + k) range.1 in
    let s = signed σ x here.0 in
    let m = s.0 in
    let is : nat_abs x ≡ suc m = s.1 in
    let i : ℕ = m - n in
    let mi : suc m ≡ suc (n + i) = omega arith in
    let next : nat_abs x ≡ n + suc i = omega arith in
    let rest = marks_from_test σ n (suc i) k xs (subst (λ l. are_signals σ l (n + k) xs ≡ true) next both.1) in
    (i ∷ rest.0, (omega arith, omega arith, rest.1), ap (λ y. y ∷ xs) (s.2 n i mi) ∙ ap (λ l. mark n σ i ∷ l) rest.2)

pub mark_signed : (σ : Side) (n i : ℕ) → (is_signed σ (mark n σ i) ≡ true) × (nat_abs (mark n σ i) ≡ n + suc i)
mark_signed Ours n i = (lt-ltb 0 (suc (n + i)) (omega arith), omega arith)
mark_signed Device n i = (refl, omega arith)

pub test_from_marks : (σ : Side) (n low k : ℕ) (S : List ℕ) → Ascending low k (each (λ i. suc i) S) → are_signals σ (n + low) (n + k) (each (mark n σ) S) ≡ true
test_from_marks σ n low k [] h = refl
test_from_marks σ n low k (i ∷ S) h =
    let s = mark_signed σ n i in
    let at : nat_abs (mark n σ i) ≡ n + suc i = s.1 in
    let a : low < suc i = h.0 in
    let b : suc i ≤ k = h.1 in
    and_from _ _ (and_from _ _ s.0 (and_from _ _ (lt-ltb (n + low) (nat_abs (mark n σ i)) (omega arith)) (le-leb (nat_abs (mark n σ i)) (n + k) (omega arith))))
    (subst (λ l. are_signals σ l (n + k) (each (mark n σ) S) ≡ true) (sym at) (test_from_marks σ n (suc i) k S h.2))

pub choice_length : (xs : List ℤ) (vs : List ℕ) → is_choice xs vs ≡ true → length xs ≡ length vs
choice_length [] [] h = refl
choice_length [] (v ∷ vs) h = absurd (false≢true h)
choice_length (x ∷ xs) [] h = absurd (false≢true h)
choice_length (x ∷ xs) (v ∷ vs) h = ap suc (choice_length xs vs (and_parts _ _ h).1)

take_front : {A : Type 0} (xs ys : List A) (n : ℕ) → n ≡ length xs → (take n (xs ++ ys) ≡ xs) × (drop n (xs ++ ys) ≡ ys)
take_front [] [] zero e = (refl, refl)
take_front [] (y ∷ ys) zero e = (refl, refl)
take_front [] ys (suc n) e = absurd (omega arith)
take_front (x ∷ xs) ys zero e = absurd (omega arith)
take_front (x ∷ xs) ys (suc n) e = let r = take_front xs ys n (omega arith) in (ap (λ l. x ∷ l) r.0, r.1)

-- the record is split so that as many numbers are left as the level has variables
module _ (n k : ℕ) (σ : Side) (vs : List ℕ) (rec : List ℤ) where
  pub form_from_tests : (p : ℕ) → are_signals σ n (n + k) (take p rec) ≡ true → is_choice (drop p rec) vs ≡ true → EntryForm n k σ vs rec
  form_from_tests p signals values =
      let m = marks_from_test σ n 0 k (take p rec) (subst (λ l. are_signals σ l (n + k) (take p rec) ≡ true) (sym (add-zero n)) signals) in
      let e : Entry = record { set = m.0; values = drop p rec } in
      (e, m.1, passes_choice (drop p rec) vs (test_true _ values), sym (take-append-drop p rec) ∙ ap (λ l. l ++ drop p rec) m.2 ∙ sym (record_marks n σ e))

  pub marks_of : (f : EntryForm n k σ vs rec) (p : ℕ) → p + length vs ≡ length rec → (take p rec ≡ each (mark n σ) f.0.set) × (drop p rec ≡ f.0.values)
  marks_of f p h =
      let e = f.0 in
      let marks = each (mark n σ) e.set in
      let is : rec ≡ marks ++ e.values = f.3 ∙ record_marks n σ e in
      let count = choice_length e.values vs (is_true (is_choice e.values vs) (choice_passes e.values vs f.2)) in
      let whole : length rec ≡ length marks + length e.values = ap length is ∙ length-append marks e.values in
      let cut = take_front marks e.values p (omega arith) in
      (ap (take p) is ∙ cut.0, ap (drop p) is ∙ cut.1)

  pub form_long : EntryForm n k σ vs rec → length vs ≤ length rec
  form_long f =
      let e = f.0 in
      let marks = each (mark n σ) e.set in
      let count = choice_length e.values vs (is_true (is_choice e.values vs) (choice_passes e.values vs f.2)) in
      let whole : length rec ≡ length marks + length e.values = ap length (f.3 ∙ record_marks n σ e) ∙ length-append marks e.values in
      omega arith

  pub tests_from_form : EntryForm n k σ vs rec → (p : ℕ) → p + length vs ≡ length rec → (are_signals σ n (n + k) (take p rec) ≡ true) × (is_choice (drop p rec) vs ≡ true)
  tests_from_form f p h =
      let e = f.0 in
      let cut = marks_of f p h in
      let marks = each (mark n σ) e.set in (
        ap (are_signals σ n (n + k)) cut.0 ∙ subst (λ l. are_signals σ l (n + k) marks ≡ true) (add-zero n) (test_from_marks σ n 0 k e.set f.1),
        ap (λ l. is_choice l vs) cut.1 ∙ is_true (is_choice e.values vs) (choice_passes e.values vs f.2),
      )

-- one number after another
module _ (σ : Side) (last top : ℕ) (xs : List ℤ) (i : ℕ) (here : i < length xs) where
  pub signals_more : is_signed σ (get_or xs i (pos 0)) ≡ true → last < nat_abs (get_or xs i (pos 0)) → nat_abs (get_or xs i (pos 0)) ≤ top
      → are_signals σ last top (drop i xs) ≡ are_signals σ (nat_abs (get_or xs i (pos 0))) top (drop (i + 1) xs)
  signals_more s a b =
      ap (are_signals σ last top) (drop_more xs i (pos 0) here)
      ∙ ap (λ t. t && are_signals σ (nat_abs (get_or xs i (pos 0))) top (drop (i + 1) xs)) (and_from _ _ s (and_from _ _ (lt-ltb _ _ a) (le-leb _ _ b)))

  signals_less : (is_signed σ (get_or xs i (pos 0)) && (ltb last (nat_abs (get_or xs i (pos 0))) && leb (nat_abs (get_or xs i (pos 0))) top)) ≡ false → are_signals σ last top (drop i xs) ≡ false
  signals_less e =
      ap (are_signals σ last top) (drop_more xs i (pos 0) here)
      ∙ ap (λ t. t && are_signals σ (nat_abs (get_or xs i (pos 0))) top (drop (i + 1) xs)) e

  pub signals_sign : is_signed σ (get_or xs i (pos 0)) ≡ false → are_signals σ last top (drop i xs) ≡ false
  signals_sign e = signals_less (and_left (is_signed σ (get_or xs i (pos 0))) _ e)

  pub signals_low : nat_abs (get_or xs i (pos 0)) ≤ last → are_signals σ last top (drop i xs) ≡ false
  signals_low h = signals_less (and_right (is_signed σ (get_or xs i (pos 0))) _ (and_left (ltb last (nat_abs (get_or xs i (pos 0)))) _ (le-ltb _ _ h)))

  pub signals_high : top < nat_abs (get_or xs i (pos 0)) → are_signals σ last top (drop i xs) ≡ false
  signals_high h = signals_less (and_right (is_signed σ (get_or xs i (pos 0))) _ (and_right (ltb last (nat_abs (get_or xs i (pos 0)))) _ (lt-leb _ _ h)))
