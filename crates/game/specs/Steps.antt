-- What a step does: it is refused, or it follows the rule for an answer that an engine may give to the question about the present level.
use Rattle.std.specs.Prelude.{◌≡◌, ℕ, Bool, true, List, ℤ, Some, None, Ok, Err, Option, Result}
use Rattle.formula.specs.declared.side.Side.{Side}
use Rattle.strategy.specs.Next.{Answer}
use Rattle.strategy.specs.View.{AnswersView}
use Rattle.strategy.specs.View.{stepped as stepped_view}
use Rattle.layout.specs.declared.game.Game.{Game}
use Rattle.layout.specs.Table.{Limits, Filled}
use Rattle.layout.specs.Viewed.{view_of, clauses_of}
use Rattle.soundness.specs.Soundness.{SoundPool}
use Rattle.rules.specs.Changes.{held, stepped}
use Rattle.game.specs.declared.refusals.StepFault.{StepFault}
use Rattle.game.specs.declared.verdict.Verdict.{Verdict}
use Rattle.game.specs.Refusals.{MayStep, StepRefused}
use Rattle.game.specs.Verdicts.{verdict_of}

-- There is an answer, within the meaning of an engine's answers, to exactly the present level's question, such that table and pool are then those of
-- the rule for it, word for word; and so what they show is what the step of the theory leads to, of the same variables and clauses, the pool is sound,
-- and the table within its limits.
pub record Played (g : Game) (pool : List ℤ) (g' : Game) (pool' : List ℤ) : Type 0 where
  pub answer : Answer
  pub answers : AnswersView g.variables g.clauses (view_of g pool) answer
  pub rule : held g' pool' ≡ stepped g pool answer
  pub shows : view_of g' pool' ≡ stepped_view (clauses_of g pool) g.variables (view_of g pool) answer
  pub clauses : clauses_of g' pool' ≡ clauses_of g pool
  pub variables : g'.variables ≡ g.variables
  pub sound : SoundPool g' pool'
  pub limits : Limits g'
  pub filled : Filled g'

-- what a step says: the verdict of the game, or none where it goes on
abbrev pub progress : ℕ → Option Side → Option Verdict
progress number None = None
progress number (Some w) = Some (verdict_of number w)

-- Over an engine that takes up to `most` signals: table and pool before, and after.
abbrev pub StepGives : ℕ → Bool → Game → List ℤ → Bool → Game → List ℤ → Result (Option Verdict) StepFault → Type 0
StepGives most holds g pool holds' g' pool' (Ok said) = MayStep most holds g pool × (holds' ≡ true) × Played g pool g' pool' × (said ≡ progress g'.number g'.verdict)
StepGives most holds g pool holds' g' pool' (Err fault) = StepRefused most holds g pool fault × (holds' ≡ holds) × (g' ≡ g) × (pool' ≡ pool)
