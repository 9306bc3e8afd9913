-- The theorems about formulas, each the contract of a function in src/theorems.
use Rattle.std.specs.Prelude.{◌≡◌, true, false, ◌↔◌}
use Rattle.formula.specs.Game.{Qbf}
use Rattle.formula.specs.Plans.{CanWin}
use Rattle.formula.specs.Truth.{truth}
use Rattle.formula.specs.declared.side.Side.TheVariants.{Ours, Device}

-- A formula is true exactly when some plan of ours wins, and false exactly when some plan of the device wins.
abbrev pub TruthIsAWinningPlan : Type 0
TruthIsAWinningPlan = (q : Qbf) → ((truth q ≡ true) ↔ CanWin q Ours) × ((truth q ≡ false) ↔ CanWin q Device)
