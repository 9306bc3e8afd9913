-- What a view of a reached state says of the verdict and of the steps made.
use Rattle.std.proofs.Common.{◌≡◌, ℕ, true, ◌↔◌, List, [], ◌∷◌, sym, refl, ap, ◌∙◌, subst}
use mathlib.Core.Option.{Option, none, some}
use Rattle.formula.specs.Game.{other, Qbf, Clauses}
use Rattle.formula.specs.Plans.{CanWin}
use Rattle.formula.specs.Truth.{truth}
use Rattle.strategy.specs.Entries.{Entry, LevelState, all_entries}
use Rattle.strategy.specs.WellFormed.{WellFormed}
use Rattle.strategy.specs.RecordedPlan.{RecordedPlanWins}
use Rattle.strategy.specs.Steps.{playing, decided, Reached}
use Rattle.strategy.specs.Check.{LevelRecords, Check, level_entries, records_of}
use Rattle.strategy.specs.View.{GameView, shown_records}
use Rattle.strategy.specs.Connections.{ViewDecided, ViewUndecided}
use Rattle.strategy.proofs.Proved.{verdict_is_right, verdict_in_time}
use Rattle.strategy.proofs.ViewGames.{view_records}
use Rattle.formula.specs.declared.side.Side.{Side}
use Rattle.formula.specs.declared.side.Side.TheVariants.{Ours}

abbrev IsSome : Option Side → Type 0
IsSome none = ⊥
IsSome (some w) = Unit {0}

abbrev side_or : Side → Option Side → Side
side_or d none = d
side_or d (some w) = w

record_entries : (C : Clauses) (n : ℕ) (σ : Side) (states : List LevelState) → level_entries (records_of C n σ states) ≡ all_entries states
record_entries C n σ [] = refl
record_entries C n σ (s ∷ r) = ap {B = List (List Entry)} (λ l. s.entries ∷ l) (record_entries C n (other σ) r)

-- what a verdict brings, over any levels
abbrev Brings : Qbf → Side → List LevelRecords → Type 0
Brings q w levels =
    Check q.clauses q.variables w q.first levels × RecordedPlanWins q w (level_entries levels) × CanWin q w × ((w ≡ Ours) ↔ (truth q ≡ true))

state_brings : (q : Qbf) → WellFormed q → (m : ℕ) (w σ : Side) (states : List LevelState) → Reached q m (decided w σ states)
    → Brings q w (records_of q.clauses q.variables q.first states)
state_brings q well m w σ states ss =
    let v : _ = verdict_is_right q well m w σ states ss in (
      subst (λ τ. Check q.clauses q.variables w τ (records_of q.clauses q.variables τ states)) v.0 v.2,
      subst (RecordedPlanWins q w) (sym (record_entries q.clauses q.variables q.first states)) v.3,
      v.4,
      v.5,
    )

pub view_decided : ViewDecided
view_decided q well m (playing σ back f) g w ss sh e = absurd (subst IsSome (sym (sym (ap (λ (u : GameView). u.verdict) sh.2) ∙ e)) tt)
view_decided q well m (decided w' σ states) g w ss sh e =
    subst (λ u. Brings q u (shown_records g.levels)) (ap (side_or w) (sym sh.0 ∙ e))
    (subst (Brings q w') (sym (view_records q well m (decided w' σ states) g ss sh)) (state_brings q well m w' σ states ss))

pub view_undecided : ViewUndecided
view_undecided q well m (playing σ back f) g ss sh e = verdict_in_time q well m σ back f ss
view_undecided q well m (decided w σ states) g ss sh e = absurd (subst IsSome (sym sh.0 ∙ e) tt)
