-- The row of the assumptions. Assumes nothing.
use Rattle.std.proofs.Common.{◌≡◌, ℕ, zero, suc, ◌+◌, ◌-◌, ◌<◌, Bool, true, false, List, length, get_or, set, replicate, ℤ, pos, nat_abs, sym, refl, ap, ◌∙◌, subst, ⊎_elim, arith}
use Rattle.std.proofs.lemmas.List.{length-set, get_or-replicate, get_or-set_same, get_or-set_other}
use Rattle.std.proofs.lemmas.Bool.{both_ways, cases_eq}
use Rattle.pool.specs.Records.{Literal}
use Rattle.engine.specs.Truth.{literal, each}
use Rattle.propagation.specs.Rows.{at, word_of, Shaped, False, Agrees, opens}
use Rattle.branching.specs.Search.{used}
use Rattle.propagation.proofs.Growing.{opposite}
use Rattle.branching.proofs.Uses.{used_at}

-- a row of open signals
pub opens_zeros : (n : ℕ) → opens (replicate n (pos 0)) ≡ n
opens_zeros zero = refl
opens_zeros (suc n) = let h = opens_zeros n in omega arith

pub zeros_at : (row : List ℤ) → row ≡ replicate (length row) (pos 0) → (i : ℕ) → i < length row → nat_abs (at row i) ≡ 0
zeros_at row e i h = ap (λ l. nat_abs (at l i)) e ∙ ap nat_abs (get_or-replicate (length row) i (pos 0) (pos 0) h)

pub agrees_true : (row : List ℤ) (a : ℕ → Bool) (x : ℤ) → Literal (length row) x → Agrees row a → word_of row x ≡ x → literal a x ≡ true
agrees_true row a x named agrees e =
    let low = named.0 in
    let high = named.1 in
    let size = ap nat_abs e in
    ap (literal a) (sym e) ∙ agrees (nat_abs x - 1) (omega arith) (omega arith)

-- each word of the row is one of the first n assumptions
abbrev pub Sourced : List ℤ → List ℤ → ℕ → Type 0
Sourced row xs n = (i : ℕ) → i < length row → nat_abs (at row i) ≡ i + 1 → (k : ℕ) × (k < n) × (get_or xs k (pos 0) ≡ at row i)

pub source_more : (row xs : List ℤ) (n : ℕ) → Sourced row xs n → Sourced row xs (n + 1)
source_more row xs n from i h e = let was = from i h e in let below = was.1 in (was.0, omega arith, was.2)

pub source_set : (row xs : List ℤ) (n : ℕ) (x : ℤ) → nat_abs x - 1 < length row → get_or xs n (pos 0) ≡ x → Sourced row xs n → Sourced (set row (nat_abs x - 1) x) xs (n + 1)
source_set row xs n x inside is from i h e =
    ⊎_elim
    (λ (same : i ≡ nat_abs x - 1). (n, omega arith, is ∙ sym (ap (at (set row (nat_abs x - 1) x)) same ∙ get_or-set_same row (nat_abs x - 1) x (pos 0) inside)))
    (λ (other : i ≡ nat_abs x - 1 → ⊥).
    let word : at (set row (nat_abs x - 1) x) i ≡ at row i = get_or-set_other row (nat_abs x - 1) i x (pos 0) other in
    let was = source_more row xs n from i (subst (λ k. i < k) (length-set row (nat_abs x - 1) x) h) (sym (ap nat_abs word) ∙ e) in
    (was.0, was.1, was.2 ∙ sym word))
    (cases_eq i (nat_abs x - 1))

-- an assumption that is false in the row clashes with the one that the row has from
pub apart_used : (marks : List Bool) (row xs : List ℤ) (n : ℕ) → n < length xs → nat_abs (get_or xs n (pos 0)) - 1 < length marks → Shaped row → Literal (length row) (get_or xs n (pos 0))
    → False row (get_or xs n (pos 0)) → Sourced row xs n → (a : ℕ → Bool) → each a (used (set marks (nat_abs (get_or xs n (pos 0)) - 1) true) xs) ≡ true → ⊥
apart_used marks row xs n h space shaped named false' from a holds =
    let x = get_or xs n (pos 0) in
    let i = nat_abs x - 1 in
    let low = named.0 in
    let high = named.1 in
    let marks' = set marks i true in
    let here : get_or marks' i false ≡ true = get_or-set_same marks i true false space in
    let size : nat_abs (at row i) ≡ i + 1 = ⊎_elim (λ none. absurd (false'.1 none)) (λ e. e) (shaped i (omega arith)) in
    let was = from i (omega arith) size in
    let before = was.1 in
    let place : nat_abs (get_or xs was.0 (pos 0)) - 1 ≡ i = ap (λ z. nat_abs z - 1) was.2 ∙ ap (λ m. m - 1) size ∙ omega arith in
    let old : literal a (at row i) ≡ true = ap (literal a) (sym was.2) ∙ used_at marks' a xs holds was.0 (omega arith) (ap (λ j. get_or marks' j false) place ∙ here) in
    let new : literal a x ≡ true = used_at marks' a xs holds n h here in
    both_ways (literal a x) (opposite a x (at row i) (omega arith) (λ e. false'.0 (sym e)) old) new
