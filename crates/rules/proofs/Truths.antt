-- Which literals are among the values that an assignment gives the variables of a level.
use Rattle.std.proofs.Common.{◌≡◌, ℕ, zero, suc, ◌+◌, ◌<◌, ◌≤◌, Bool, true, false, cond, not, ◌&&◌, ◌||◌, eqb, ◌≢◌, ◌⊎◌, List, ◌∷◌, ℤ, pos, negsuc, neg_ℤ, nat_abs, sym, refl, ap, ◌∙◌, inl, inr, ⊎_elim, arith}
use Rattle.std.proofs.Math.Bool.{or-false, and-true, and-false}
use lib.Signed.{lt_z}
use Rattle.std.proofs.lemmas.Bool.{cond_both, cases_eq, cases_lt, eq-eqb, ne_eqb, le-leb, false≢true}
use Rattle.formula.specs.Lists.{keep, from}
use Rattle.formula.specs.Game.{same, has}
use Rattle.strategy.specs.Records.{values_of}

-- a literal holds at a value of its variable
abbrev pub agrees : ℤ → Bool → Bool
agrees (pos m) b = b
agrees (negsuc m) b = not b

value_same : (l : ℤ) (v : ℕ) (b : Bool) → 0 < v → same l (cond b (pos v) (neg_ℤ (pos v))) ≡ eqb (nat_abs l) v && agrees l b
value_same l zero b h = absurd (omega arith)
value_same (pos m) (suc u) true h = sym (and-true (eqb m (suc u)))
value_same (pos m) (suc u) false h = sym (and-false (eqb m (suc u)))
value_same (negsuc m) (suc u) true h = sym (and-false (eqb (suc m) (suc u)))
value_same (negsuc m) (suc u) false h =
    ⊎_elim (λ e. eq-eqb m u e ∙ sym (eq-eqb (suc m) (suc u) (omega arith))) (λ n. ne_eqb m u n ∙ sym (ne_eqb (suc m) (suc u) (λ e. n (omega arith)))) (cases_eq m u) ∙ sym (and-true (eqb (suc m) (suc u)))

module _ (α p : ℕ → Bool) (l : ℤ) where
  other_value : (v : ℕ) (vs : List ℕ) → 0 < v → nat_abs l ≢ v → has l (values_of α (v ∷ vs)) ≡ has l (values_of α vs)
  other_value v vs h n = ap (λ b. b || has l (values_of α vs)) (value_same l v (α v) h ∙ ap (λ b. b && agrees l (α v)) (ne_eqb (nat_abs l) v n))

  pub has_outside : (i m : ℕ) → 1 ≤ i → (nat_abs l < i) ⊎ (i + m ≤ nat_abs l) → has l (values_of α (keep p (from i m))) ≡ false
  has_outside i zero h o = refl
  has_outside i (suc m) h o =
      let next : (nat_abs l < suc i) ⊎ (suc i + m ≤ nat_abs l) = ⊎_elim (λ a. inl (omega arith)) (λ a. inr (omega arith)) o in
      let apart : nat_abs l ≢ i = λ e. ⊎_elim (λ a. omega arith) (λ a. omega arith) o in
      let on = has_outside (suc i) m (omega arith) next in
      cond_both (p i) (i ∷ keep p (from (suc i) m)) (keep p (from (suc i) m)) (λ vs. has l (values_of α vs) ≡ false) (λ _. other_value i _ h apart ∙ on) (λ _. on)

  pub has_inside : (i m : ℕ) → 1 ≤ i → i ≤ nat_abs l → nat_abs l < i + m → has l (values_of α (keep p (from i m))) ≡ p (nat_abs l) && agrees l (α (nat_abs l))
  has_inside i zero h a b = absurd (omega arith)
  has_inside i (suc m) h a b =
      let K = keep p (from (suc i) m) in
      let R = p (nat_abs l) && agrees l (α (nat_abs l)) in
      ⊎_elim
      (λ above.
      let on : has l (values_of α K) ≡ R = has_inside (suc i) m (omega arith) above (omega arith) in
      cond_both (p i) (i ∷ K) K (λ vs. has l (values_of α vs) ≡ R) (λ _. other_value i K h (λ e. omega arith) ∙ on) (λ _. on))
      (λ at.
      let e : nat_abs l ≡ i = omega arith in
      let past : has l (values_of α K) ≡ false = has_outside (suc i) m (omega arith) (inl (omega arith)) in
      cond_both (p i) (i ∷ K) K (λ vs. has l (values_of α vs) ≡ R)
      (λ t. ap (λ b. b || has l (values_of α K)) (value_same l i (α i) h ∙ ap (λ b. b && agrees l (α i)) (eq-eqb (nat_abs l) i e)) ∙ ap (λ b. agrees l (α i) || b) past ∙ or-false (agrees l (α i))
      ∙ ap (λ v. agrees l (α v)) (sym e) ∙ sym (ap (λ b. b && agrees l (α (nat_abs l))) (ap p e ∙ t)))
      (λ f. past ∙ sym (ap (λ b. b && agrees l (α (nat_abs l))) (ap p e ∙ f))))
      (cases_lt i (nat_abs l))

pub agrees_up : (l : ℤ) (b : Bool) → lt_z (pos 0) l ≡ true → agrees l b ≡ b
agrees_up (pos m) b e = refl
agrees_up (negsuc m) b e = absurd (false≢true e)

pub agrees_down : (l : ℤ) (b : Bool) → 1 ≤ nat_abs l → lt_z (pos 0) l ≡ false → agrees l b ≡ not b
agrees_down (pos zero) b h e = absurd (omega arith)
agrees_down (pos (suc m)) b h e = absurd (false≢true (sym e ∙ le-leb 1 (suc m) (omega arith)))
agrees_down (negsuc m) b h e = refl
