-- Values of a level, tested one variable after another.
use Rattle.std.proofs.Common.{◌≡◌, ℕ, zero, suc, ◌+◌, ◌-◌, ◌≤◌, Bool, true, false, ◌&&◌, ◌||◌, eqb, List, [], ◌∷◌, ℤ, pos, negsuc, neg_ℤ, nat_abs, sym, ap, ◌∙◌, arith}
use Rattle.std.proofs.Math.Bool.{or-false, or_self}
use Rattle.std.proofs.lemmas.Bool.{ne_eqb}
use Rattle.std.proofs.lemmas.Bool.Decides.{nat_tests}
use Rattle.formula.specs.Lists.{keep, from}
use Rattle.formula.specs.Game.{same}
use Rattle.formula.specs.Backward.{is_choice}
use Rattle.formula.proofs.Ranges.{keep_here, keep_past}

-- a literal of v has v as its magnitude
pub literal_by : (l : ℤ) (v : ℕ) → (same l (pos v) || same l (neg_ℤ (pos v))) ≡ eqb (nat_abs l) v
literal_by (pos m) zero = or_self (eqb m 0)
literal_by (pos m) (suc v) = or-false (eqb m (suc v))
literal_by (negsuc m) zero = sym (ne_eqb (suc m) 0 (λ e. omega arith))
literal_by (negsuc m) (suc v) = grind (arith, nat_tests)

pub choice_past : (p : ℕ → Bool) (n v : ℕ) (xs : List ℤ) → v ≤ n → p v ≡ false
    → is_choice xs (keep p (from v (n + 1 - v))) ≡ is_choice xs (keep p (from (v + 1) (n + 1 - (v + 1))))
choice_past p n v xs h e = ap (is_choice xs) (keep_past p v n h e)

-- the numbers that are left, against the variables from v on
module _ (p : ℕ → Bool) (n v : ℕ) (h : v ≤ n) (e : p v ≡ true) (xs : List ℤ) where
  pub choice_more : (x : ℤ) (after : List ℤ) → xs ≡ x ∷ after → eqb (nat_abs x) v ≡ true
      → is_choice xs (keep p (from v (n + 1 - v))) ≡ is_choice after (keep p (from (v + 1) (n + 1 - (v + 1))))
  choice_more x after is t =
      ap (is_choice xs) (keep_here p v n h e)
      ∙ ap (λ l. is_choice l (v ∷ keep p (from (v + 1) (n + 1 - (v + 1))))) is
      ∙ ap (λ b. b && is_choice after (keep p (from (v + 1) (n + 1 - (v + 1))))) (literal_by x v ∙ t)

  pub choice_other : (x : ℤ) (after : List ℤ) → xs ≡ x ∷ after → eqb (nat_abs x) v ≡ false → is_choice xs (keep p (from v (n + 1 - v))) ≡ false
  choice_other x after is f =
      ap (is_choice xs) (keep_here p v n h e)
      ∙ ap (λ l. is_choice l (v ∷ keep p (from (v + 1) (n + 1 - (v + 1))))) is
      ∙ ap (λ b. b && is_choice after (keep p (from (v + 1) (n + 1 - (v + 1))))) (literal_by x v ∙ f)

  pub choice_short : xs ≡ [] → is_choice xs (keep p (from v (n + 1 - v))) ≡ false
  choice_short none = ap (is_choice xs) (keep_here p v n h e) ∙ ap (λ l. is_choice l (v ∷ keep p (from (v + 1) (n + 1 - (v + 1))))) none

-- no variable is left
pub choice_end : (p : ℕ → Bool) (n v : ℕ) (xs : List ℤ) → n + 1 ≤ v → is_choice xs (keep p (from v (n + 1 - v))) ≡ is_choice xs []
choice_end p n v xs h = let none : n + 1 - v ≡ 0 = omega arith in ap (λ k. is_choice xs (keep p (from v k))) none
