-- The truth says which side has a plan that wins.
use Rattle.std.proofs.Common.{◌≡◌, ℕ, not, T, List, [], ◌∷◌, length, drop, sym, refl, ap, subst}
use Rattle.formula.specs.Lists.{In}
use Rattle.formula.specs.Game.{Clauses, Qbf, Values, choices, Play}
use Rattle.formula.specs.Plans.{CanWin}
use Rattle.formula.specs.Truth.{truth}
use Rattle.formula.specs.Backward.{For, WinsFrom, turned}
use Rattle.formula.specs.Laws.{TruthIsAWinningPlan}
use Rattle.formula.specs.declared.side.Side.{Side}
use Rattle.formula.specs.declared.side.Side.TheVariants.{Ours, Device}
use Rattle.formula.proofs.Tests.{is_true, is_false}
use Rattle.formula.proofs.Members.{all_here, any_in, not_all_in, all_of, none_in, none_each, not_all, choose, choose_in, drop_tail}
use Rattle.formula.proofs.Levels.{value, truth_value}
use Rattle.formula.proofs.Readable.{readable_backward, backward_readable}

-- a plan that wins shows the value
pub plan_value : (C : Clauses) (w : Side) (f : Play → Values) (σ : Side) (levels : List (List ℕ)) (π : Play) → WinsFrom C w f σ levels π → For w (value C σ levels π)
plan_value C Ours f σ [] π h = h
plan_value C Device f σ [] π h = h
plan_value C Ours f Ours (vs ∷ r) π h =
    any_in (λ x. value C Device r (x ∷ π)) (choices vs) (f π) h.0 (plan_value C Ours f Device r (f π ∷ π) h.1)
plan_value C Ours f Device (vs ∷ r) π h =
    all_of (λ x. value C Ours r (x ∷ π)) (choices vs) (λ y m. plan_value C Ours f Ours r (y ∷ π) (h y m))
plan_value C Device f Ours (vs ∷ r) π h =
    none_in (λ x. value C Device r (x ∷ π)) (choices vs) (λ y m. plan_value C Device f Device r (y ∷ π) (h y m))
plan_value C Device f Device (vs ∷ r) π h =
    not_all_in (λ x. value C Ours r (x ∷ π)) (choices vs) (f π) h.0 (plan_value C Device f Ours r (f π ∷ π) h.1)

-- the best plan: at each level of w the first values that keep the value
abbrev best_at : Clauses → Side → List (List ℕ) → Play → Values
best_at C w [] π = []
best_at C Ours (vs ∷ r) π = choose (λ x. value C Device r (x ∷ π)) [] (choices vs)
best_at C Device (vs ∷ r) π = choose (λ x. not (value C Ours r (x ∷ π))) [] (choices vs)

abbrev best : Clauses → Side → List (List ℕ) → Play → Values
best C w levels π = best_at C w (drop (length π) levels) π

best_wins : (C : Clauses) (w : Side) (L : List (List ℕ)) (σ : Side) (levels : List (List ℕ)) (π : Play) → drop (length π) L ≡ levels → For w (value C σ levels π)
    → WinsFrom C w (best C w L) σ levels π
best_wins C Ours L σ [] π e h = h
best_wins C Device L σ [] π e h = h
best_wins C Ours L Ours (vs ∷ r) π e h =
    let c : In (best_at C Ours (vs ∷ r) π) (choices vs) × T (value C Device r (best_at C Ours (vs ∷ r) π ∷ π)) = choose_in (λ x. value C Device r (x ∷ π)) [] (choices vs) h in
    subst (λ x. In x (choices vs) × WinsFrom C Ours (best C Ours L) Device r (x ∷ π)) (sym (ap (λ l. best_at C Ours l π) e))
    (c.0, best_wins C Ours L Device r (best_at C Ours (vs ∷ r) π ∷ π) (drop_tail (length π) L vs r e) c.1)
best_wins C Ours L Device (vs ∷ r) π e h =
    λ y m. best_wins C Ours L Ours r (y ∷ π) (drop_tail (length π) L vs r e) (all_here (λ x. value C Ours r (x ∷ π)) (choices vs) h y m)
best_wins C Device L Ours (vs ∷ r) π e h =
    λ y m. best_wins C Device L Device r (y ∷ π) (drop_tail (length π) L vs r e) (none_each (λ x. value C Device r (x ∷ π)) (choices vs) h y m)
best_wins C Device L Device (vs ∷ r) π e h =
    let c : In (best_at C Device (vs ∷ r) π) (choices vs) × T (not (value C Ours r (best_at C Device (vs ∷ r) π ∷ π))) =
    choose_in (λ x. not (value C Ours r (x ∷ π))) [] (choices vs) (not_all (λ x. value C Ours r (x ∷ π)) (choices vs) h) in
    subst (λ x. In x (choices vs) × WinsFrom C Device (best C Device L) Ours r (x ∷ π)) (sym (ap (λ l. best_at C Device l π) e))
    (c.0, best_wins C Device L Ours r (best_at C Device (vs ∷ r) π ∷ π) (drop_tail (length π) L vs r e) c.1)

truth_plan : (q : Qbf) (w : Side) → For w (truth q) → CanWin q w
truth_plan q w h =
    backward_readable q w (best q.clauses w q.levels)
    (best_wins q.clauses w q.levels q.first q.levels [] refl (subst (For w) (truth_value q.clauses q.first q.levels) h))

pub plan_truth : (q : Qbf) (w : Side) → CanWin q w → For w (truth q)
plan_truth q w p =
    subst (For w) (sym (truth_value q.clauses q.first q.levels))
    (plan_value q.clauses w (λ π. p.0.choose (turned π)) q.first q.levels [] (readable_backward q w p.0 p.1))

pub truth_is_a_winning_plan : TruthIsAWinningPlan
truth_is_a_winning_plan q = (
  (λ e. truth_plan q Ours (subst T (sym e) tt), λ p. is_true (truth q) (plan_truth q Ours p)),
  (λ e. truth_plan q Device (subst (λ b. T (not b)) (sym e) tt), λ p. is_false (truth q) (plan_truth q Device p)),
)
