use Rattle.std.proofs.Common.{◌≡◌, take, drop}
use Rattle.strategy.specs.RecordedPlan.{is_flat_play}
use Rattle.layout.specs.Shown.{levels_of}
use Rattle.plan.proofs.plays.is_play.Given as goal

abbrev pub invariant-loop-m : goal.invariant-loop-m
invariant-loop-m l = is_flat_play (take l.levels (levels_of l.game)) l.play ≡ is_flat_play (drop l.m (take l.levels (levels_of l.game))) l.rest
