-- A clash rests on the marked signals alone, when a signal is opened again. Assumes nothing.
use Rattle.std.proofs.Common.{◌≡◌, ℕ, suc, ◌+◌, ◌-◌, ◌<◌, Bool, true, false, ◌||◌, ◌⊎◌, List, [], ◌∷◌, length, get_or, set, ℤ, pos, nat_abs, sym, refl, ap, ◌∙◌, subst, inl, inr, ⊎_elim, arith}
use Rattle.std.specs.List.{AllByRecursion}
use Rattle.std.proofs.ByRecursion.{All-get_or}
use Rattle.std.proofs.lemmas.List.{length-set, get_or-set_same, get_or-set_other}
use Rattle.std.proofs.lemmas.Bool.{cases_eq, both_ways, false≢true}
use Rattle.pool.specs.Records.{Literal}
use Rattle.engine.specs.Truth.{literal, clause, chain}
use Rattle.propagation.specs.Rows.{at, word_of, Shaped, False, AgreesOn, Refuted, Blocked}
use Rattle.propagation.specs.Steps.{Forced}
use Rattle.propagation.proofs.Growing.{opposite}

-- a false number, under an assignment that makes its signal's word true
pub literal_false : (row : List ℤ) (a : ℕ → Bool) (x : ℤ) → Shaped row → Literal (length row) x → (nat_abs (word_of row x) ≡ nat_abs x - 1 + 1 → literal a (word_of row x) ≡ true) → False row x → literal a x ≡ false
literal_false row a x shaped named agrees false' =
    let low = named.0 in
    let high = named.1 in
    let size : nat_abs (word_of row x) ≡ nat_abs x - 1 + 1 = ⊎_elim (λ none. absurd (false'.1 none)) (λ e. e) (shaped (nat_abs x - 1) (omega arith)) in
    opposite a x (word_of row x) (omega arith) (λ e. false'.0 (sym e)) (agrees size)

-- a record that is true, and all false but for one number, has that number true
pub clause_forced : (a : ℕ → Bool) (xs : List ℤ) (y : ℤ) → clause a xs ≡ true → ((k : ℕ) → k < length xs → (get_or xs k (pos 0) ≡ y) ⊎ (literal a (get_or xs k (pos 0)) ≡ false)) → literal a y ≡ true
clause_forced a [] y e h = absurd (false≢true e)
clause_forced a (x ∷ xs) y e h =
    by (literal a x) refl (h 0 (omega arith)) (λ is. clause_forced a xs y (sym (ap (λ b. b || clause a xs) is) ∙ e) (λ k hk. h (suc k) (omega arith)))
  where
    by : (b : Bool) → literal a x ≡ b → (x ≡ y) ⊎ (literal a x ≡ false) → (literal a x ≡ false → literal a y ≡ true) → literal a y ≡ true
    by true is (inl same) rest = ap (literal a) (sym same) ∙ is
    by true is (inr no') rest = absurd (both_ways (literal a x) no' is)
    by false is other rest = rest is

pub shaped_unset : (row : List ℤ) (i : ℕ) → Shaped row → Shaped (set row i (pos 0))
shaped_unset row i shaped k hk =
    let inside : k < length row = subst (λ n. k < n) (length-set row i (pos 0)) hk in
    ⊎_elim
    (λ (same : k ≡ i). inl (ap (λ j. nat_abs (at (set row i (pos 0)) j)) same ∙ ap nat_abs (get_or-set_same row i (pos 0) (pos 0) (subst (λ j. j < length row) same inside))))
    (λ (other : k ≡ i → ⊥). subst (λ (z : ℤ). (nat_abs z ≡ 0) ⊎ (nat_abs z ≡ k + 1)) (sym (get_or-set_other row i k (pos 0) (pos 0) other)) (shaped k inside))
    (cases_eq k i)

-- what agrees with the marked part once the signal after i is open did so before, where that signal's word is true or not marked
agrees_closed : (marks marks' : List Bool) (row : List ℤ) (i : ℕ) (a : ℕ → Bool) → ((k : ℕ) → get_or marks k false ≡ true → get_or marks' k false ≡ true)
    → (get_or marks i false ≡ true → literal a (at row i) ≡ true) → AgreesOn marks' (set row i (pos 0)) a → AgreesOn marks row a
agrees_closed marks marks' row i a grows here agrees k hk mk e =
    ⊎_elim
    (λ (same : k ≡ i). ap (λ j. literal a (at row j)) same ∙ here (subst (λ j. get_or marks j false ≡ true) same mk))
    (λ (other : k ≡ i → ⊥).
    let is : at (set row i (pos 0)) k ≡ at row k = get_or-set_other row i k (pos 0) (pos 0) other in
    ap (literal a) (sym is) ∙ agrees k (subst (λ n. k < n) (sym (length-set row i (pos 0))) hk) (grows k mk) (ap nat_abs is ∙ e))
    (cases_eq k i)

pub blocked_unmarked : (cs : List (List ℤ)) (marks : List Bool) (row : List ℤ) (i : ℕ) → get_or marks i false ≡ false → Blocked cs marks row → Blocked cs marks (set row i (pos 0))
blocked_unmarked cs marks row i clear blocked a meets agrees =
    blocked a meets (agrees_closed marks marks row i a (λ k h. h) (λ marked. absurd (both_ways (get_or marks i false) clear marked)) agrees)

pub blocked_forced : (cs : List (List ℤ)) (marks marks' : List Bool) (row : List ℤ) (i : ℕ) (x : ℤ) (xs : List ℤ) → at row i ≡ x
    → ((k : ℕ) → get_or marks k false ≡ true → get_or marks' k false ≡ true)
    → ((k : ℕ) → k < length xs → get_or marks' (nat_abs (get_or xs k (pos 0)) - 1) false ≡ true)
    → Shaped row → AllByRecursion (Literal (length (set row i (pos 0)))) xs → Forced (set row i (pos 0)) xs x → ((a : ℕ → Bool) → chain a cs ≡ true → clause a xs ≡ true)
    → Blocked cs marks row → Blocked cs marks' (set row i (pos 0))
blocked_forced cs marks marks' row i x xs is grows marked shaped literals forced member blocked a meets agrees =
    let row' = set row i (pos 0) in
    let others : (k : ℕ) → k < length xs → (get_or xs k (pos 0) ≡ x) ⊎ (literal a (get_or xs k (pos 0)) ≡ false) =
    λ k h. ⊎_elim (λ same. inl same)
    (λ false'.
    let named = All-get_or (Literal (length row')) xs k (pos 0) h literals in
    let low = named.0 in
    let high = named.1 in
    inr (literal_false row' a (get_or xs k (pos 0)) (shaped_unset row i shaped) named (agrees (nat_abs (get_or xs k (pos 0)) - 1) (omega arith) (marked k h)) false'))
    (forced.others k h) in
    let true' : literal a (at row i) ≡ true = ap (literal a) is ∙ clause_forced a xs x (member a meets) others in
    blocked a meets (agrees_closed marks marks' row i a grows (λ m. true') agrees)

-- where all signals are marked, the marked part is the whole
pub blocked_all : (cs : List (List ℤ)) (marks : List Bool) (row : List ℤ) → ((k : ℕ) → k < length row → get_or marks k false ≡ true) → Refuted cs row → Blocked cs marks row
blocked_all cs marks row all refuted a meets agrees = refuted a meets (λ i h e. agrees i h (all i h) e)

-- a mark more
pub set_grows : (marks : List Bool) (i k : ℕ) → i < length marks → get_or marks k false ≡ true → get_or (set marks i true) k false ≡ true
set_grows marks i k h e =
    ⊎_elim
    (λ (same : k ≡ i). ap (λ j. get_or (set marks i true) j false) same ∙ get_or-set_same marks i true false h)
    (λ (other : k ≡ i → ⊥). get_or-set_other marks i k true false other ∙ e)
    (cases_eq k i)
