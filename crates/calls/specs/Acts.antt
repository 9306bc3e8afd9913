-- A call and its outcome, without the memory that their words lie in.
use Rattle.std.specs.Prelude.{ℕ, Bool, List, ℤ, vec_items, Option, Result}
use Rattle.formula.specs.declared.side.Side.{Side}
use Rattle.engine.specs.declared.question.Answer.{Answer}
use Rattle.engine.specs.declared.question.Refusal.{Refusal}
use Rattle.game.specs.declared.faults.GameFault.{GameFault}
use Rattle.game.specs.declared.refusals.StepFault.{StepFault}
use Rattle.game.specs.declared.moves.MoveFault.{MoveFault}
use Rattle.plan_check.specs.declared.faults.CheckFault.{CheckFault}
use Rattle.calls.specs.declared.call.Action.{Action}
use Rattle.calls.specs.declared.call.Action.TheVariants.{Open, Step, Move, Check, Retire, Ask}
use Rattle.calls.specs.declared.call.Outcome.{Outcome}
use Rattle.calls.specs.declared.call.Outcome.TheVariants.{NoTable, NoVerdict, Opened, Stepped, Moved, Checked, Retired, Answered}

pub data Act : Type 0 where
  open_text : (text : List ℕ) (number : ℕ) → Act
  step : Act
  move_at : (level : ℕ) (play : List ℤ) → Act
  check_for : Side → Act
  retire : Act
  ask : (signals used head room : ℕ) (assumptions : List ℤ) → Act

abbrev pub act_of : Action → Act
act_of (Open t n) = open_text t.now n
act_of Step = step
act_of (Move level play) = move_at level play.now
act_of (Check w) = check_for w
act_of Retire = retire
act_of (Ask s used head room assumed) = ask s used head room assumed.now

pub data Told : Type 0 where
  no_table : Told
  no_verdict : Told
  opened : Result (Unit {0}) GameFault → Told
  stepped : Result (Option Side) StepFault → Told
  moved : Result (Option ℕ) MoveFault → List ℤ → Told
  checked : Result Bool CheckFault → Told
  retired : Bool → Told
  answered : Result Answer Refusal → List ℤ → Told

abbrev pub told_by : Outcome → Told
told_by NoTable = no_table
told_by NoVerdict = no_verdict
told_by (Opened r) = opened r
told_by (Stepped r) = stepped r
told_by (Moved r words) = moved r (vec_items words)
told_by (Checked r) = checked r
told_by (Retired b) = retired b
told_by (Answered r words) = answered r (vec_items words)
