-- The law of all runs: what is true of each game, whatever was called before and in between.
use Rattle.std.specs.Prelude.{◌≡◌, ℕ, suc, ◌-◌, ◌^◌, ◌<◌, ◌≤◌, Bool, true, ◌↔◌, List, length, take, Some, Ok, Result, slice_index_or}
use Rattle.std.proofs.Math.Option.{some}
use Rattle.formula.specs.Game.{Qbf, Play, PlayOf}
use Rattle.formula.specs.Backward.{onto}
use Rattle.formula.specs.Plans.{CanWin}
use Rattle.formula.specs.Truth.{truth}
use Rattle.formula.specs.declared.side.Side.{Side}
use Rattle.formula.specs.declared.side.Side.TheVariants.{Ours}
use Rattle.strategy.specs.RecordedPlan.{move, RecordedPlanWins, flat}
use Rattle.strategy.specs.WellFormed.{bound}
use Rattle.layout.specs.Viewed.{signals_of}
use Rattle.plan.specs.NextMove.{is_level_of, next_move}
use Rattle.plan.specs.MoveLaws.{all_entries_in}
use Rattle.plan_check.specs.declared.faults.CheckFault.{CheckFault}
use Rattle.plan_check.specs.Checked.{Checked}
use Rattle.calls.specs.Places.{Place, nowhere}
use Rattle.calls.specs.Runs.{Event, Run, formula_held, steps_made}

-- a verdict stands at the table, and is of the side w
abbrev pub Won : Place → Side → Type 0
Won p w = p.game.verdict ≡ Some w

-- The recorded plan of w wins, and it is what a move at a level of w gives after a play of the levels before: so that move is always there where w has
-- played its moves so far, whatever the other side has played, and w wins every play so made.
pub record MovesWin (q : Qbf) (p : Place) (w : Side) : Type 0 where
  pub wins : RecordedPlanWins q w (all_entries_in p.game p.words)
  pub moves : (level : ℕ) (π : Play) → is_level_of p.game w level ≡ true → PlayOf (take (level - 1) q.levels) π
      → next_move p.game p.words w level (flat π) ≡ move q.clauses w (all_entries_in p.game p.words) π

-- the law of one game, of the formula q, after m steps that were not refused
pub record GameLaw (q : Qbf) (m : ℕ) (p : Place) : Type 0 where
  -- (a) it ends in time, and its verdict is right
  pub few_steps : m ≤ 2 ^ suc (bound q)
  pub in_time : 2 ^ suc (bound q) ≤ m → (w : Side) × Won p w
  pub plan : (w : Side) → Won p w → (w ≡ Ours) ↔ CanWin q Ours
  pub true_formula : (w : Side) → Won p w → (w ≡ Ours) ↔ (truth q ≡ true)
  -- (b) the moves of the winner win
  pub moves_win : (w : Side) → Won p w → MovesWin q p w
  -- (c) check accepts the winner, over every engine that is large enough; and whomever it accepts wins by the recorded plan
  pub accepted : (w : Side) → Won p w → (most : ℕ) (r : Result Bool CheckFault) → signals_of p.game ≤ most → Checked most p.holds p.game p.words w r → r ≡ Ok true
  pub accepts_winners : (w : Side) (most : ℕ) → Checked most p.holds p.game p.words w (Ok true) → RecordedPlanWins q w (all_entries_in p.game p.words)

-- At each table that holds a game, after any run.
abbrev pub Law : List Event → List Place → Type 0
Law events places = (j : ℕ) (q : Qbf) → j < length places → formula_held events j ≡ some q → GameLaw q (steps_made events j) (slice_index_or places j nowhere)

abbrev pub LawOfAllRuns : Type 0
LawOfAllRuns = (events : List Event) (places : List Place) → Run events places → Law events places

-- Whatever run has led to the tables before: the calls, the oldest first, with what they were told, go on from it, and the law holds then.
abbrev pub Continues : List Event → List Place → List Place → Type 0
Continues new before after = (events : List Event) → Run events before → Run (onto new events) after × Law (onto new events) after
