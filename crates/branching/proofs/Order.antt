-- Rows as assignments, in order. Assumes nothing.
use Rattle.std.proofs.Common.{◌≡◌, ℕ, zero, suc, ◌+◌, ◌-◌, ◌<◌, ◌≤◌, Bool, true, false, cond, not, ◌⊎◌, List, [], ◌∷◌, length, ℤ, pos, negsuc, nat_abs, sym, refl, ap, ◌∙◌, subst, inl, inr, ⊎_elim, add-one, arith}
use Rattle.std.specs.List.{AllByRecursion}
use Rattle.std.proofs.lemmas.Bool.{not-true, cases_lt}
use Rattle.engine.specs.Truth.{literal}
use Rattle.engine.specs.Count.{number}
use Rattle.propagation.specs.Rows.{at, Agrees}
use Rattle.branching.specs.Search.{positive, NotBefore}
use Rattle.propagation.specs.Steps.{Silent}
use Rattle.branching.specs.Search.{From}

-- the assignment that a row has
abbrev pub reads : List ℤ → ℕ → Bool
reads row i = positive (at row (i - 1))

pub agrees_reads : (row : List ℤ) → Agrees row (reads row)
agrees_reads row i h e = go (at row i) refl
  where
    go : (z : ℤ) → at row i ≡ z → literal (reads row) z ≡ true
    go (pos n) is =
        let size : n ≡ i + 1 = sym (ap nat_abs is) ∙ e in
        let place : n - 1 ≡ i = omega arith in
        ap (λ j. positive (at row j)) place ∙ ap positive is
    go (negsuc n) is =
        let size : suc n ≡ i + 1 = sym (ap nat_abs is) ∙ e in
        let place : suc n - 1 ≡ i = omega arith in
        ap (λ j. not (positive (at row j))) place ∙ ap (λ z. not (positive z)) is

-- what a true word says of its signal
pub value_from_word : (a : ℕ → Bool) (z : ℤ) (k : ℕ) → nat_abs z ≡ k + 1 → literal a z ≡ true → a (suc k) ≡ positive z
value_from_word a (pos n) k e t = ap a (sym (add-one k) ∙ sym e) ∙ t
value_from_word a (negsuc n) k e t = let is : n ≡ k = omega arith in ap (λ j. a (suc j)) (sym is) ∙ not-true (a (suc n)) t

-- an assignment that does not come before a row's has no lower number
order_step : (row : List ℤ) (b : ℕ → Bool) → NotBefore row b → (k : ℕ) → k ≤ length row
    → (((j : ℕ) → j < k → b (suc j) ≡ reads row (suc j)) × (number (reads row) k ≡ number b k)) ⊎ (number (reads row) k < number b k)
order_step row b later zero h = inl ((λ j hj. absurd (omega arith)), refl)
order_step row b later (suc k) h =
    ⊎_elim
    (λ (same : ((j : ℕ) → j < k → b (suc j) ≡ reads row (suc j)) × (number (reads row) k ≡ number b k)). by (b (suc k)) (reads row (suc k)) refl refl same.0 same.1)
    (λ (less : number (reads row) k < number b k).
    let small = bit_small (reads row (suc k)) in
    inr (omega arith))
    (order_step row b later k (omega arith))
  where
    bit_small : (v : Bool) → cond v 1 0 ≤ 1
    bit_small true = omega arith
    bit_small false = omega arith

    place : suc k - 1 ≡ k
    place = omega arith

    plain : (j : ℕ) → suc j - 1 ≡ j
    plain j = omega arith

    all : ((j : ℕ) → j < k → b (suc j) ≡ reads row (suc j)) → b (suc k) ≡ reads row (suc k) → (j : ℕ) → j < suc k → b (suc j) ≡ reads row (suc j)
    all below here j hj =
        ⊎_elim (λ (lt : j < k). below j lt) (λ (ge : k ≤ j). let is : j ≡ k = omega arith in subst (λ i. b (suc i) ≡ reads row (suc i)) (sym is) here) (cases_lt j k)

    by : (v w : Bool) → b (suc k) ≡ v → reads row (suc k) ≡ w → ((j : ℕ) → j < k → b (suc j) ≡ reads row (suc j)) → number (reads row) k ≡ number b k
        → (((j : ℕ) → j < suc k → b (suc j) ≡ reads row (suc j)) × (number (reads row) (suc k) ≡ number b (suc k))) ⊎ (number (reads row) (suc k) < number b (suc k))
    by true true e f below same =
        let x : ◌≡◌ {A = ℕ} (cond (b (suc k)) 1 0) 1 = ap (λ t. cond t 1 0) e in
        let y : ◌≡◌ {A = ℕ} (cond (reads row (suc k)) 1 0) 1 = ap (λ t. cond t 1 0) f in
        inl (all below (e ∙ sym f), omega arith)
    by false false e f below same =
        let x : ◌≡◌ {A = ℕ} (cond (b (suc k)) 1 0) 0 = ap (λ t. cond t 1 0) e in
        let y : ◌≡◌ {A = ℕ} (cond (reads row (suc k)) 1 0) 0 = ap (λ t. cond t 1 0) f in
        inl (all below (e ∙ sym f), omega arith)
    by true false e f below same =
        let x : ◌≡◌ {A = ℕ} (cond (b (suc k)) 1 0) 1 = ap (λ t. cond t 1 0) e in
        let y : ◌≡◌ {A = ℕ} (cond (reads row (suc k)) 1 0) 0 = ap (λ t. cond t 1 0) f in
        inr (omega arith)
    by false true e f below same =
        absurd (later k h (λ j hj. below j hj ∙ ap (λ i. positive (at row i)) (plain j)) e (ap (λ i. positive (at row i)) (sym place) ∙ f))

pub number_first : (row : List ℤ) (b : ℕ → Bool) (s : ℕ) → s ≤ length row → NotBefore row b → number (reads row) s ≤ number b s
number_first row b s h later = ⊎_elim (λ same. let e = same.1 in omega arith) (λ less. omega arith) (order_step row b later s h)

-- signals before the chosen one that are open are named by no record without a true number
pub silent_before : (row : List ℤ) (i j : ℕ) (cs : List (List ℤ)) → j < i → nat_abs (at row j) ≡ 0 → AllByRecursion (From row i) cs → AllByRecursion (Silent row j) cs
silent_before row i j [] h open' all = tt
silent_before row i j (c ∷ cs) h open' all = (
  ⊎_elim (λ holds. inl holds)
      (λ behind. inr (λ k hk is. let far = behind k hk (ap (λ p. nat_abs (at row p)) is ∙ open') in omega arith))
      all.0,
  silent_before row i j cs h open' all.1,
)
