-- What check answers, and why it is refused.
use Rattle.std.specs.Prelude.{◌≡◌, ℕ, ◌<◌, ◌≤◌, Bool, true, false, List, ℤ, Ok, Err, Decides, Result}
use Rattle.formula.specs.declared.side.Side.{Side}
use Rattle.strategy.specs.Check.{LevelRecords, Check}
use Rattle.strategy.specs.View.{shown_records}
use Rattle.layout.specs.declared.game.Game.{Game}
use Rattle.layout.specs.Table.{level_of}
use Rattle.layout.specs.Viewed.{view_of, clauses_of, signals_of}
use Rattle.soundness.specs.Soundness.{SoundPool}
use Rattle.plan_check.specs.declared.faults.CheckFault.{CheckFault}
use Rattle.plan_check.specs.declared.faults.CheckFault.TheVariants.{EmptyTable, UnsoundPool, TooManySignals}

abbrev pub check_number : CheckFault → ℕ
check_number EmptyTable = 31
check_number UnsoundPool = 35
check_number TooManySignals = 34

-- the chains and entries of the levels, as table and pool show them
abbrev pub levels_shown : Game → List ℤ → List LevelRecords
levels_shown g pool = shown_records (view_of g pool).levels

-- all that check asks of the side w holds of the game
abbrev pub Accepts : Game → List ℤ → Side → Type 0
Accepts g pool w = Check (clauses_of g pool) g.variables w (level_of g 0).side (levels_shown g pool)

-- refused for this, and for nothing that is looked at before, over an engine that takes up to `most` signals
abbrev pub CheckRefused : ℕ → Bool → Game → List ℤ → CheckFault → Type 0
CheckRefused most holds g pool EmptyTable = holds ≡ false
CheckRefused most holds g pool UnsoundPool = (holds ≡ true) × (SoundPool g pool → ⊥)
CheckRefused most holds g pool TooManySignals = (holds ≡ true) × SoundPool g pool × (most < signals_of g)

-- The answer is true exactly when check's condition holds, whatever the engine's answers were.
abbrev pub Checked : ℕ → Bool → Game → List ℤ → Side → Result Bool CheckFault → Type 0
Checked most holds g pool w (Ok b) = (holds ≡ true) × SoundPool g pool × (signals_of g ≤ most) × Decides b (Accepts g pool w)
Checked most holds g pool w (Err fault) = CheckRefused most holds g pool fault
