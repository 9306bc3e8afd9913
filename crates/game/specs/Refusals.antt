-- Why a step is refused, in the order in which it is looked at.
use Rattle.std.specs.Prelude.{◌≡◌, ℕ, ◌+◌, ◌<◌, ◌≤◌, Bool, true, false, List, ℤ, None, ◌≢◌}
use Rattle.layout.specs.declared.game.Game.{Game}
use Rattle.game.specs.declared.refusals.StepFault.{StepFault}
use Rattle.game.specs.declared.refusals.StepFault.TheVariants.{EmptyTable, AlreadyDecided, UnsoundPool, TooManySignals, PoolFull}
use Rattle.layout.specs.Viewed.{signals_of}
use Rattle.soundness.specs.Soundness.{SoundPool}
use Rattle.rules.specs.Spare.{step_words}

abbrev pub step_number : StepFault → ℕ
step_number EmptyTable = 31
step_number AlreadyDecided = 32
step_number UnsoundPool = 35
step_number TooManySignals = 34
step_number PoolFull = 33

-- a game that goes on, with a sound pool
pub record Playing (holds : Bool) (g : Game) (pool : List ℤ) : Type 0 where
  pub held : holds ≡ true
  pub undecided : g.verdict ≡ None
  pub sound : SoundPool g pool

-- a step may be made over an engine that takes up to `most` signals
pub record MayStep (most : ℕ) (holds : Bool) (g : Game) (pool : List ℤ) : Type 0 where
  pub playing : Playing holds g pool
  pub small : signals_of g ≤ most
  pub room : g.used + step_words g ≤ g.words

abbrev pub StepRefused : ℕ → Bool → Game → List ℤ → StepFault → Type 0
StepRefused most holds g pool EmptyTable = holds ≡ false
StepRefused most holds g pool AlreadyDecided = (holds ≡ true) × (g.verdict ≢ None)
StepRefused most holds g pool UnsoundPool = (holds ≡ true) × (g.verdict ≡ None) × (SoundPool g pool → ⊥)
StepRefused most holds g pool TooManySignals = Playing holds g pool × (most < signals_of g)
StepRefused most holds g pool PoolFull = Playing holds g pool × (signals_of g ≤ most) × (g.words < g.used + step_words g)
