-- A row of values with one signal more or less. Assumes nothing.
use Rattle.std.proofs.Common.{◌≡◌, ℕ, zero, suc, ◌+◌, ◌-◌, ◌<◌, ◌≤◌, Bool, true, false, cond, not, eqb, ◌⊎◌, List, [], ◌∷◌, length, get_or, take, set, ℤ, pos, negsuc, nat_abs, sym, refl, ap, ◌∙◌, subst, inr, ⊎_elim, arith}
use Rattle.std.proofs.lemmas.List.{length-set, get_or-set_same, get_or-set_other, set-set, set-get_or, get_or-take, take-take, take-set-le}
use Rattle.std.proofs.lemmas.Bool.{cases_eq, not-true, ne_eqb, eq-eqb}
use Rattle.pool.specs.Records.{Literal}
use Rattle.engine.specs.Truth.{literal}
use Rattle.propagation.specs.Rows.{at, Shaped, Agrees, opens, back}
use Rattle.propagation.specs.Steps.{Noted}

pub zero_from_abs : (x : ℤ) → nat_abs x ≡ 0 → x ≡ pos 0
zero_from_abs (pos n) e = ap pos e
zero_from_abs (negsuc n) e = absurd (omega arith)

-- a number and its opposite
pub opposite : (a : ℕ → Bool) (x y : ℤ) → nat_abs x ≡ nat_abs y → (x ≡ y → ⊥) → literal a y ≡ true → literal a x ≡ false
opposite a (pos n) (pos m) e ne h = absurd (ne (ap pos e))
opposite a (pos n) (negsuc m) e ne h = ap a e ∙ not-true (a (suc m)) h
opposite a (negsuc n) (pos m) e ne h = ap not (ap a e ∙ h)
opposite a (negsuc n) (negsuc m) e ne h = absurd (ne (ap negsuc (omega arith)))

pub agrees_set : (row : List ℤ) (a : ℕ → Bool) (i : ℕ) (x : ℤ) → i < length row → literal a x ≡ true → Agrees row a → Agrees (set row i x) a
agrees_set row a i x h t agrees k hk e =
    ⊎_elim
    (λ (same : k ≡ i). ap (λ j. literal a (at (set row i x) j)) same ∙ ap (literal a) (get_or-set_same row i x (pos 0) h) ∙ t)
    (λ (other : k ≡ i → ⊥).
    let is : at (set row i x) k ≡ at row k = get_or-set_other row i k x (pos 0) other in
    ap (literal a) is ∙ agrees k (subst (λ n. k < n) (length-set row i x) hk) (sym (ap nat_abs is) ∙ e))
    (cases_eq k i)

pub agrees_unset : (row : List ℤ) (a : ℕ → Bool) (i : ℕ) (x : ℤ) → nat_abs (at row i) ≡ 0 → Agrees (set row i x) a → Agrees row a
agrees_unset row a i x open' agrees k hk e =
    ⊎_elim
    (λ (same : k ≡ i). let none : nat_abs (at row k) ≡ 0 = ap (λ j. nat_abs (at row j)) same ∙ open' in absurd (omega arith))
    (λ (other : k ≡ i → ⊥).
    let is : at (set row i x) k ≡ at row k = get_or-set_other row i k x (pos 0) other in
    ap (literal a) (sym is) ∙ agrees k (subst (λ n. k < n) (sym (length-set row i x)) hk) (ap nat_abs is ∙ e))
    (cases_eq k i)

pub shaped_set : (row : List ℤ) (i : ℕ) (x : ℤ) → i < length row → nat_abs x ≡ i + 1 → Shaped row → Shaped (set row i x)
shaped_set row i x h e shaped k hk =
    ⊎_elim
    (λ (same : k ≡ i).
    let is : at (set row i x) k ≡ x = ap (at (set row i x)) same ∙ get_or-set_same row i x (pos 0) h in
    inr (ap nat_abs is ∙ e ∙ ap (λ j. j + 1) (sym same)))
    (λ (other : k ≡ i → ⊥).
    let is : at (set row i x) k ≡ at row k = get_or-set_other row i k x (pos 0) other in
    subst (λ (z : ℤ). (nat_abs z ≡ 0) ⊎ (nat_abs z ≡ k + 1)) (sym is) (shaped k (subst (λ n. k < n) (length-set row i x) hk)))
    (cases_eq k i)

pub opens_set : (row : List ℤ) (i : ℕ) (x : ℤ) → i < length row → nat_abs (at row i) ≡ 0 → (nat_abs x ≡ 0 → ⊥) → suc (opens (set row i x)) ≡ opens row
opens_set [] i x h e ne = absurd (omega arith)
opens_set (y ∷ ys) zero x h e ne =
    let new : ◌≡◌ {A = ℕ} (cond (eqb (nat_abs x) 0) 1 0) 0 = ap (λ b. cond b 1 0) (ne_eqb (nat_abs x) 0 ne) in
    let old : ◌≡◌ {A = ℕ} (cond (eqb (nat_abs y) 0) 1 0) 1 = ap (λ b. cond b 1 0) (eq-eqb (nat_abs y) 0 e) in
    omega arith
opens_set (y ∷ ys) (suc i) x h e ne = let rest = opens_set ys i x (omega arith) e ne in omega arith

pub opens_pos : (row : List ℤ) (i : ℕ) → i < length row → nat_abs (at row i) ≡ 0 → 0 < opens row
opens_pos row i h e = let f = opens_set row i (pos 1) h e (λ bad. omega arith) in omega arith

-- the trail
pub back_push : (n : ℕ) (trail : List ℕ) (mark : ℕ) (row : List ℤ) (i : ℕ) (x : ℤ) → get_or trail (mark + n) 0 ≡ i → nat_abs (at row i) ≡ 0 → back (suc n) trail mark (set row i x) ≡ back n trail mark row
back_push n trail mark row i x e open' =
    ap (back n trail mark)
    (ap (λ j. set (set row i x) j (pos 0)) e ∙ set-set row i x (pos 0) ∙ ap (set row i) (sym (zero_from_abs (at row i) open')) ∙ set-get_or row i (pos 0))

pub back_same : (n : ℕ) (trail trail' : List ℕ) (mark : ℕ) (row : List ℤ) → ((j : ℕ) → mark ≤ j → j < mark + n → get_or trail j 0 ≡ get_or trail' j 0) → back n trail mark row ≡ back n trail' mark row
back_same zero trail trail' mark row same = refl
back_same (suc n) trail trail' mark row same =
    ap (λ j. back n trail mark (set row j (pos 0))) (same (mark + n) (omega arith) (omega arith))
    ∙ back_same n trail trail' mark (set row (get_or trail' (mark + n) 0) (pos 0)) (λ j low high. same j low (omega arith))

pub get_d_front : (n : ℕ) (xs ys : List ℕ) → take n xs ≡ take n ys → (j : ℕ) → j < n → get_or xs j 0 ≡ get_or ys j 0
get_d_front n xs ys e j h = sym (get_or-take n xs j 0 h) ∙ ap (λ l. get_or l j 0) e ∙ get_or-take n ys j 0 h

-- one signal more
pub noted_assign : (row₀ : List ℤ) (trail₀ : List ℕ) (mark : ℕ) (row : List ℤ) (trail : List ℕ) (top : ℕ) (x : ℤ) → Noted row₀ trail₀ mark row trail top → Literal (length row) x → nat_abs (at row (nat_abs x - 1)) ≡ 0 → top < length trail
    → Noted row₀ trail₀ mark (set row (nat_abs x - 1) x) (set trail top (nat_abs x - 1)) (top + 1)
noted_assign row₀ trail₀ mark row trail top x noted named open' room =
    let i = nat_abs x - 1 in
    let low = named.0 in
    let high = named.1 in
    let later = noted.later in
    let long = length-set row i x in
    let counted = noted.counted in
    let fewer = opens_set row i x (omega arith) open' (λ bad. omega arith) in
    let n = top - mark in
    let here : get_or (set trail top i) (mark + n) 0 ≡ i = ap (λ j. get_or (set trail top i) j 0) (omega arith) ∙ get_or-set_same trail top i 0 room in
    let more : top + 1 - mark ≡ suc n = omega arith in
    record {
      shaped = shaped_set row i x (omega arith) (omega arith) noted.shaped;
      counted = omega arith;
      later = omega arith;
      inside = λ j lo hi.
          ⊎_elim
          (λ (same : j ≡ top). subst (λ m. m < length (set row i x)) (sym (ap (λ j. get_or (set trail top i) j 0) same ∙ get_or-set_same trail top i 0 room)) (omega arith))
          (λ (other : j ≡ top → ⊥). let h = noted.inside j lo (omega arith) in let is = get_or-set_other trail top j i 0 other in omega arith)
          (cases_eq j top);
      undone =
          ap (λ k. back k (set trail top i) mark (set row i x)) more ∙ back_push n (set trail top i) mark row i x here open'
          ∙ back_same n (set trail top i) trail mark row (λ j lo hi. get_or-set_other trail top j i 0 (λ (same : j ≡ top). omega arith))
          ∙ noted.undone;
      kept = take-set-le mark trail top i later ∙ noted.kept;
    }

-- the trail past the top does not matter
pub noted_trail : (row₀ : List ℤ) (trail₀ : List ℕ) (mark : ℕ) (row : List ℤ) (trail trail' : List ℕ) (top : ℕ) → Noted row₀ trail₀ mark row trail top → take top trail' ≡ take top trail → Noted row₀ trail₀ mark row trail' top
noted_trail row₀ trail₀ mark row trail trail' top noted e =
    let later = noted.later in
    let same = get_d_front top trail' trail e in
    record {
      shaped = noted.shaped;
      counted = noted.counted;
      later = later;
      inside = λ j lo hi. subst (λ m. m < length row) (sym (same j hi)) (noted.inside j lo hi);
      undone = back_same (top - mark) trail' trail mark row (λ j lo hi. same j (omega arith)) ∙ noted.undone;
      kept = sym (take-take mark top trail' later) ∙ ap (take mark) e ∙ take-take mark top trail later ∙ noted.kept;
    }

-- one place of the trail less
pub back_less : (t mark : ℕ) (trail : List ℕ) (row : List ℤ) → mark < t → back (t - 1 - mark) trail mark (set row (get_or trail (t - 1) 0) (pos 0)) ≡ back (t - mark) trail mark row
back_less t mark trail row h =
    let n = t - 1 - mark in
    let more : suc n ≡ t - mark = omega arith in
    let here : mark + n ≡ t - 1 = omega arith in
    ap (λ j. back n trail mark (set row (get_or trail j 0) (pos 0))) (sym here) ∙ ap (λ k. back k trail mark row) more
