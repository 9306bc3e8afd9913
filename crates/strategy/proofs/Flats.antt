-- Plays as one list of literals: which lists are plays, and the next move after one.
use Rattle.std.proofs.Common.{◌≡◌, ℕ, suc, ◌+◌, ◌-◌, ◌<◌, ◌≤◌, Bool, ◌||◌, T, ltb, leb, List, [], ◌∷◌, ◌++◌, length, get_or, ℤ, pos, negsuc, neg_ℤ, nat_abs, sym, refl, ap, ◌∙◌, subst, ap₂, arith, le→leb, ltb→lt, lt→ltb, leb→le}
use mathlib.Core.Path.{fun_ext}
use Rattle.formula.specs.Lists.{all, find, Any, elem}
use Rattle.formula.specs.Game.{same, Clauses, Play, PlayOf}
use Rattle.formula.specs.Backward.{is_choice}
use Rattle.formula.proofs.Tests.{both, and_l, and_r}
use Rattle.formula.proofs.Values.{choice_passes, passes_choice}
use Rattle.formula.proofs.Turned.{same_head}
use Rattle.strategy.specs.Entries.{Entry, fits_when}
use Rattle.strategy.specs.RecordedPlan.{entries_after, values_in, flat, is_flat_play}
use Rattle.strategy.specs.Signals.{b_signal}
use Rattle.strategy.specs.Records.{learned_record}
use Rattle.strategy.specs.Check.{is_learned_number, learned_set_of}
use Rattle.strategy.specs.Connections.{FlatPlays, FlatMoves, LearnedByNumbers}
use Rattle.strategy.proofs.Places.{flat_hit}
use Rattle.formula.specs.declared.side.Side.{Side}
use Rattle.formula.specs.declared.side.Side.TheVariants.{Ours, Device}

-- a choice of two levels' variables is a choice of the one and then of the other
choice_split : (vs ws : List ℕ) (ρ : List ℤ) → T (is_choice ρ (vs ++ ws))
    → (x : List ℤ) × (y : List ℤ) × T (is_choice x vs) × T (is_choice y ws) × (x ++ y ≡ ρ)
choice_split [] ws ρ h = ([], ρ, tt, h, refl)
choice_split (v ∷ vs) ws [] h = absurd h
choice_split (v ∷ vs) ws (l ∷ ρ) h =
    let c : (x : List ℤ) × (y : List ℤ) × T (is_choice x vs) × T (is_choice y ws) × (x ++ y ≡ ρ) =
    choice_split vs ws ρ (and_r (same l (pos v) || same l (neg_ℤ (pos v))) (is_choice ρ (vs ++ ws)) h) in (
      l ∷ c.0,
      c.1,
      both (same l (pos v) || same l (neg_ℤ (pos v))) (is_choice c.0 vs) (and_l (same l (pos v) || same l (neg_ℤ (pos v))) (is_choice ρ (vs ++ ws)) h) c.2,
      c.3,
      ap {B = List ℤ} (λ r. l ∷ r) c.4,
    )

choice_append : (vs ws : List ℕ) (x y : List ℤ) → T (is_choice x vs) → T (is_choice y ws) → T (is_choice (x ++ y) (vs ++ ws))
choice_append [] ws [] y h k = k
choice_append [] ws (l ∷ x) y h k = absurd h
choice_append (v ∷ vs) ws [] y h k = absurd h
choice_append (v ∷ vs) ws (l ∷ x) y h k =
    both (same l (pos v) || same l (neg_ℤ (pos v))) (is_choice (x ++ y) (vs ++ ws)) (and_l (same l (pos v) || same l (neg_ℤ (pos v))) (is_choice x vs) h)
    (choice_append vs ws x y (and_r (same l (pos v) || same l (neg_ℤ (pos v))) (is_choice x vs) h) k)

split_play : (levels : List (List ℕ)) (ρ : List ℤ) → T (is_flat_play levels ρ) → (π : Play) × PlayOf levels π × (flat π ≡ ρ)
split_play [] [] h = ([], tt, refl)
split_play [] (l ∷ ρ) h = absurd h
split_play (vs ∷ r) ρ h =
    let c : (x : List ℤ) × (y : List ℤ) × T (is_choice x vs) × T (is_choice y (flat r)) × (x ++ y ≡ ρ) = choice_split vs (flat r) ρ h in
    let d : (π : Play) × PlayOf r π × (flat π ≡ c.1) = split_play r c.1 c.3 in
    (c.0 ∷ d.0, (passes_choice c.0 vs c.2, d.1), ap (λ y. c.0 ++ y) d.2 ∙ c.4)

join_play : (levels : List (List ℕ)) (π : Play) → PlayOf levels π → T (is_flat_play levels (flat π))
join_play [] [] h = tt
join_play [] (x ∷ π) h = absurd h
join_play (vs ∷ r) [] h = absurd h
join_play (vs ∷ r) (x ∷ π) h = choice_append vs (flat r) x (flat π) (choice_passes x vs h.0) (join_play r π h.1)

pub flat_plays : FlatPlays
flat_plays levels ρ = (split_play levels ρ, λ c. subst (λ l. T (is_flat_play levels l)) c.2 (join_play levels c.0 c.1))

-- the next move
entries_at : (entries : List (List Entry)) (π : Play) → entries_after entries π ≡ get_or entries (length π) []
entries_at [] [] = refl
entries_at [] (x ∷ π) = refl
entries_at (es ∷ rest) [] = refl
entries_at (es ∷ rest) (x ∷ π) = entries_at rest π

pub flat_moves : FlatMoves
flat_moves C w entries π =
    ap₂ (λ (s : ℕ → Bool) es. values_in (find (fits_when w s) es)) (fun_ext (λ i. sym (flat_hit C π i))) (entries_at entries π)

-- learned records by their numbers
module _ (C : Clauses) (n : ℕ) where
  all_learned : (σ : Side) (A : List ℕ) → T (all (is_learned_number n (length C) σ) (learned_record C n σ A))
  all_learned Ours [] = tt
  all_learned Ours (i ∷ A) =
      both (leb (n + length C) (n + length C + i)) (all (is_learned_number n (length C) Ours) (learned_record C n Ours A))
      (le→leb (n + length C) (n + length C + i) (omega arith)) (all_learned Ours A)
  all_learned Device [] = tt
  all_learned Device (i ∷ A) =
      both (ltb (n + length C) (suc (n + length C + i))) (all (is_learned_number n (length C) Device) (learned_record C n Device A))
      (lt→ltb (n + length C) (suc (n + length C + i)) (omega arith)) (all_learned Device A)

  set_back : (σ : Side) (A : List ℕ) → learned_set_of n (length C) (learned_record C n σ A) ≡ A
  set_back Ours [] = refl
  set_back Ours (i ∷ A) = ap₂ {C = List ℕ} (λ (a : ℕ) l. a ∷ l) (omega arith) (set_back Ours A)
  set_back Device [] = refl
  set_back Device (i ∷ A) = ap₂ {C = List ℕ} (λ (a : ℕ) l. a ∷ l) (omega arith) (set_back Device A)

  number_back : (σ : Side) (l : ℤ) → T (is_learned_number n (length C) σ l) → (l ∷ []) ≡ learned_record C n σ ((nat_abs l - suc (n + length C)) ∷ [])
  number_back Ours (pos m) h = absurd h
  number_back Ours (negsuc m) h =
      let k : n + length C ≤ m = leb→le (n + length C) m h in
      ap {B = List ℤ} (λ j. negsuc j ∷ []) (omega arith)
  number_back Device (pos m) h =
      let k : n + length C < m = ltb→lt (n + length C) m h in
      ap {B = List ℤ} (λ j. pos j ∷ []) (omega arith)
  number_back Device (negsuc m) h = absurd h

  record_back : (σ : Side) (rec : List ℤ) → T (all (is_learned_number n (length C) σ) rec) → rec ≡ learned_record C n σ (learned_set_of n (length C) rec)
  record_back Ours [] h = refl
  record_back Ours (l ∷ rec) h =
      ap₂ {C = List ℤ} (λ (a : ℤ) r. a ∷ r)
      (same_head l (neg_ℤ (pos (b_signal n (length C) (nat_abs l - suc (n + length C))))) [] []
      (number_back Ours l (and_l (is_learned_number n (length C) Ours l) (all (is_learned_number n (length C) Ours) rec) h)))
      (record_back Ours rec (and_r (is_learned_number n (length C) Ours l) (all (is_learned_number n (length C) Ours) rec) h))
  record_back Device [] h = refl
  record_back Device (l ∷ rec) h =
      ap₂ {C = List ℤ} (λ (a : ℤ) r. a ∷ r)
      (same_head l (pos (b_signal n (length C) (nat_abs l - suc (n + length C)))) [] []
      (number_back Device l (and_l (is_learned_number n (length C) Device l) (all (is_learned_number n (length C) Device) rec) h)))
      (record_back Device rec (and_r (is_learned_number n (length C) Device l) (all (is_learned_number n (length C) Device) rec) h))

pub learned_by_numbers : LearnedByNumbers
learned_by_numbers C n σ rec entries = (
  λ c. (
    subst (λ r. T (all (is_learned_number n (length C) σ) r)) (sym c.1) (all_learned C n σ c.0),
    subst (λ A. Any (λ e. T (all (λ i. elem i A) e.set)) entries) (sym (ap (learned_set_of n (length C)) c.1 ∙ set_back C n σ c.0)) c.2,
  ),
  λ h. (learned_set_of n (length C) rec, record_back C n σ rec h.0, h.1),
)
