-- The recorded plan wins as specs/RecordedPlan says it just when it wins over plays with the newest level first; and then it is a plan that wins.
use Rattle.std.proofs.Common.{◌≡◌, ℕ, List, [], ◌∷◌, ◌++◌, sym, refl, ap, ◌∙◌, subst}
use mathlib.Core.Option.{some}
use Rattle.formula.specs.Lists.{find, In}
use Rattle.formula.specs.Game.{other, Qbf, Values, choices, Clauses, Play, PlayOf}
use Rattle.formula.specs.Plans.{Plan, Wins}
use Rattle.formula.specs.Backward.{turned, WinsFrom, or_first, level_after}
use Rattle.formula.proofs.Values.{or_first_same}
use Rattle.formula.proofs.Turned.{turned-turned, no_split, same_head, same_tail, ours_not_device, won_winner, winner_won}
use Rattle.formula.proofs.Readable.{plan_of, plan_of_wins}
use Rattle.strategy.specs.Entries.{Entry, fits, LevelState, choices_at, variables_of, all_entries}
use Rattle.strategy.specs.RecordedPlan.{move, RecordedPlanWins}
use Rattle.strategy.proofs.ByMeaning.{RecordedWins}
use Rattle.strategy.proofs.RecordedPlans.{values_or, there_move, EntriesLeft, HasMoveOn, WonOn, move_turned, none_yet, moves_one, moves_rest, has_move_now, next_wins}
use Rattle.formula.specs.declared.side.Side.{Side}
use Rattle.formula.specs.declared.side.Side.TheVariants.{Ours, Device}

module _ (C : Clauses) (w : Side) (E : List (List Entry)) where
  -- newest first, to level 1 on
  has_move_on : (σ : Side) (π : Play) (rest : List LevelState) → EntriesLeft C w E π rest → RecordedWins C w σ rest π → HasMoveOn C w E σ π rest
  has_move_on σ π [] le h b level a ρ e s p fo = absurd (no_split b level a e)
  has_move_on σ π (st ∷ r) le h [] level a [] e s p fo =
      let c : (x : Values) × (move C w E (turned π) ≡ some x) × In x (choices_at st) = has_move_now C w E σ st r π le h s in
      (c.0, c.1, subst (λ vs. In c.0 (choices vs)) (same_head st.variables level (variables_of r) a e) c.2)
  has_move_on σ π (st ∷ r) le h [] level a (x ∷ ρ) e s p fo = absurd p
  has_move_on σ π (st ∷ r) le h (vs ∷ b) level a [] e s p fo = absurd p
  has_move_on σ π (st ∷ r) le h (vs ∷ b) level a (x ∷ ρ) e s p fo =
      has_move_on (other σ) (x ∷ π) r (λ τ. le (x ∷ τ))
      (next_wins C w E σ st r π x le h (subst (λ l. In x (choices l)) (sym (same_head st.variables vs (variables_of r) (b ++ (level ∷ a)) e)) p.0)
      (λ q. fo [] x ρ refl q))
      b level a ρ (same_tail st.variables vs (variables_of r) (b ++ (level ∷ a)) e) s p.1 (moves_rest C w E σ π x ρ fo)

  won_on : (σ : Side) (π : Play) (rest : List LevelState) → EntriesLeft C w E π rest → RecordedWins C w σ rest π → WonOn C w E σ π rest
  won_on σ π [] le h [] p fo = won_winner C w π h
  won_on σ π [] le h (x ∷ ρ) p fo = absurd p
  won_on σ π (st ∷ r) le h [] p fo = absurd p
  won_on σ π (st ∷ r) le h (x ∷ ρ) p fo =
      won_on (other σ) (x ∷ π) r (λ τ. le (x ∷ τ)) (next_wins C w E σ st r π x le h p.0 (λ q. fo [] x ρ refl q)) ρ p.1 (moves_rest C w E σ π x ρ fo)

  -- level 1 on, to newest first: what is left after the values x at the level st
  has_move_rest : (σ : Side) (π : Play) (st : LevelState) (r : List LevelState) (x : Values) → In x (choices_at st) → (σ ≡ w → move C w E (turned π) ≡ some x)
      → HasMoveOn C w E σ π (st ∷ r) → HasMoveOn C w E (other σ) (x ∷ π) r
  has_move_rest σ π st r x m now hm b level a ρ e s p fo =
      hm (st.variables ∷ b) level a (x ∷ ρ) (ap {B = List (List ℕ)} (λ l. st.variables ∷ l) e) s (m, p) (moves_one C w E σ π x ρ now fo)

  won_rest : (σ : Side) (π : Play) (st : LevelState) (r : List LevelState) (x : Values) → In x (choices_at st) → (σ ≡ w → move C w E (turned π) ≡ some x)
      → WonOn C w E σ π (st ∷ r) → WonOn C w E (other σ) (x ∷ π) r
  won_rest σ π st r x m now wo ρ p fo = wo (x ∷ ρ) (m, p) (moves_one C w E σ π x ρ now fo)

from_readable : (C : Clauses) (w : Side) (E : List (List Entry)) (σ : Side) (π : Play) (rest : List LevelState) → EntriesLeft C w E π rest
    → HasMoveOn C w E σ π rest → WonOn C w E σ π rest → RecordedWins C w σ rest π
from_readable C w E σ π [] le hm wo = winner_won C w π (wo [] tt (none_yet C w E σ π))
from_readable C Ours E Ours π (st ∷ r) le hm wo =
    let c : (x : Values) × (move C Ours E (turned π) ≡ some x) × In x (choices_at st) = hm [] st.variables (variables_of r) [] refl refl tt (none_yet C Ours E Ours π) in
    there_move st (find (fits C Ours π) st.entries) (λ x. RecordedWins C Ours Device r (x ∷ π)) c.0 (sym (move_turned C Ours E π st r le) ∙ c.1) c.2
    (from_readable C Ours E Device (c.0 ∷ π) r (λ τ. le (c.0 ∷ τ)) (has_move_rest C Ours E Ours π st r c.0 c.2 (λ e. c.1) hm)
    (won_rest C Ours E Ours π st r c.0 c.2 (λ e. c.1) wo))
from_readable C Ours E Device π (st ∷ r) le hm wo =
    λ y m. from_readable C Ours E Ours (y ∷ π) r (λ τ. le (y ∷ τ)) (has_move_rest C Ours E Device π st r y m (λ e. absurd (ours_not_device (sym e))) hm)
    (won_rest C Ours E Device π st r y m (λ e. absurd (ours_not_device (sym e))) wo)
from_readable C Device E Ours π (st ∷ r) le hm wo =
    λ y m. from_readable C Device E Device (y ∷ π) r (λ τ. le (y ∷ τ)) (has_move_rest C Device E Ours π st r y m (λ e. absurd (ours_not_device e)) hm)
    (won_rest C Device E Ours π st r y m (λ e. absurd (ours_not_device e)) wo)
from_readable C Device E Device π (st ∷ r) le hm wo =
    let c : (x : Values) × (move C Device E (turned π) ≡ some x) × In x (choices_at st) = hm [] st.variables (variables_of r) [] refl refl tt (none_yet C Device E Device π) in
    there_move st (find (fits C Device π) st.entries) (λ x. RecordedWins C Device Ours r (x ∷ π)) c.0 (sym (move_turned C Device E π st r le) ∙ c.1) c.2
    (from_readable C Device E Ours (c.0 ∷ π) r (λ τ. le (c.0 ∷ τ)) (has_move_rest C Device E Device π st r c.0 c.2 (λ e. c.1) hm)
    (won_rest C Device E Device π st r c.0 c.2 (λ e. c.1) wo))

-- both, of a formula with these levels
pub recorded_readable : (q : Qbf) (w : Side) (states : List LevelState) → variables_of states ≡ q.levels → RecordedWins q.clauses w q.first states []
    → RecordedPlanWins q w (all_entries states)
recorded_readable q w states e h =
    record {
      has_move = λ b level a π s side p fo. has_move_on q.clauses w (all_entries states) q.first [] states (λ ρ. refl) h b level a π (e ∙ s) side p fo;
      wins = λ π p fo. won_on q.clauses w (all_entries states) q.first [] states (λ ρ. refl) h π (subst (λ l. PlayOf l π) (sym e) p) fo;
    }

pub readable_recorded : (q : Qbf) (w : Side) (states : List LevelState) → variables_of states ≡ q.levels → RecordedPlanWins q w (all_entries states)
    → RecordedWins q.clauses w q.first states []
readable_recorded q w states e h =
    from_readable q.clauses w (all_entries states) q.first [] states (λ ρ. refl)
    (λ b level a π s side p fo. h.has_move b level a π (sym e ∙ s) side p fo) (λ π p fo. h.wins π (subst (λ l. PlayOf l π) e p) fo)

-- the recorded moves as a plan
abbrev pub recorded_plan : (q : Qbf) (w : Side) → List (List Entry) → Plan q w
recorded_plan q w E = plan_of q w (λ π. values_or (move q.clauses w E (turned π)))

wins_from : (C : Clauses) (w : Side) (E : List (List Entry)) (σ : Side) (π : Play) (rest : List LevelState) → EntriesLeft C w E π rest → RecordedWins C w σ rest π
    → WinsFrom C w (λ p. values_or (move C w E (turned p))) σ (variables_of rest) π
wins_from C w E σ π [] le h = h
wins_from C Ours E Ours π (st ∷ r) le h =
    let c : (x : Values) × (move C Ours E (turned π) ≡ some x) × In x (choices_at st) = has_move_now C Ours E Ours st r π le h refl in
    subst (λ y. In y (choices_at st) × WinsFrom C Ours (λ p. values_or (move C Ours E (turned p))) Device (variables_of r) (y ∷ π)) (sym (ap values_or c.1))
    (c.2, wins_from C Ours E Device (c.0 ∷ π) r (λ τ. le (c.0 ∷ τ)) (next_wins C Ours E Ours st r π c.0 le h c.2 (λ e. c.1)))
wins_from C Ours E Device π (st ∷ r) le h = λ y m. wins_from C Ours E Ours (y ∷ π) r (λ τ. le (y ∷ τ)) (h y m)
wins_from C Device E Ours π (st ∷ r) le h = λ y m. wins_from C Device E Device (y ∷ π) r (λ τ. le (y ∷ τ)) (h y m)
wins_from C Device E Device π (st ∷ r) le h =
    let c : (x : Values) × (move C Device E (turned π) ≡ some x) × In x (choices_at st) = has_move_now C Device E Device st r π le h refl in
    subst (λ y. In y (choices_at st) × WinsFrom C Device (λ p. values_or (move C Device E (turned p))) Ours (variables_of r) (y ∷ π)) (sym (ap values_or c.1))
    (c.2, wins_from C Device E Ours (c.0 ∷ π) r (λ τ. le (c.0 ∷ τ)) (next_wins C Device E Device st r π c.0 le h c.2 (λ e. c.1)))

pub recorded_plan_wins : (q : Qbf) (w : Side) (states : List LevelState) → variables_of states ≡ q.levels → RecordedWins q.clauses w q.first states []
    → Wins q w (recorded_plan q w (all_entries states))
recorded_plan_wins q w states e h =
    plan_of_wins q w (λ π. values_or (move q.clauses w (all_entries states) (turned π)))
    (subst (λ l. WinsFrom q.clauses w (λ π. values_or (move q.clauses w (all_entries states) (turned π))) q.first l []) e
    (wins_from q.clauses w (all_entries states) q.first [] states (λ ρ. refl) h))

-- and it makes the recorded moves
pub recorded_plan_moves : (q : Qbf) (w : Side) (E : List (List Entry)) (π : Play) (x : Values) → move q.clauses w E π ≡ some x
    → In x (choices (level_after q.levels π)) → (recorded_plan q w E).choose π ≡ x
recorded_plan_moves q w E π x e m =
    ap (λ p. or_first (level_after q.levels π) (values_or (move q.clauses w E p))) (turned-turned π)
    ∙ ap (λ o. or_first (level_after q.levels π) (values_or o)) e ∙ or_first_same (level_after q.levels π) x m
