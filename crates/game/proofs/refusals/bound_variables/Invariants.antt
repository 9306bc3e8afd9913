use Rattle.std.proofs.Common.{◌≡◌, ◌+◌, ◌*◌, ◌≤◌, take, drop}
use Rattle.formula.specs.Lists.{each}
use Rattle.formula.specs.Model.{bound_in}
use Rattle.layout.specs.Viewed.{variables_in}
use Rattle.rules.specs.Spare.{bound_by}
use Rattle.game.proofs.refusals.bound_variables.Given as goal

abbrev pub invariant-loop-level : goal.invariant-loop-level
invariant-loop-level l = (l.total + bound_in (each (variables_in l.game.variables) (drop l.level-index (take l.game.depth l.game.levels))) ≡ bound_by l.game) × (l.total ≤ 256 * l.level-index)
