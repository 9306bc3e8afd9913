use Rattle.std.proofs.Common.{◌≡◌, ◌+◌, ◌-◌}
use Rattle.formula.specs.Lists.{keep, from}
use Rattle.formula.specs.Backward.{is_choice}
use Rattle.layout.specs.Shown.{binds_in, variables_at}
use Rattle.layout.proofs.levels.is_choice.Given as goal

abbrev pub invariant-loop-v : goal.invariant-loop-v
invariant-loop-v l = is_choice l.numbers (variables_at l.game l.m) ≡ is_choice l.rest (keep (binds_in l.game l.m) (from l.v (l.game.variables + 1 - l.v)))
