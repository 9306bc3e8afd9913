use Rattle.std.proofs.Common.{◌↔◌}
use Rattle.strategy.specs.Check.{LevelChecks}
use Rattle.layout.specs.Viewed.{clauses_of}
use Rattle.plan_check.specs.Checked.{levels_shown}
use Rattle.plan_check.specs.Places.{shown_from}
use Rattle.plan_check.proofs.levels.levels_hold.Given as goal

-- it is left to ask this of the levels from m on
abbrev pub invariant-loop-m : goal.invariant-loop-m
invariant-loop-m g l =
    LevelChecks (clauses_of l.game l.pool) l.game.variables l.side l.initial.level (levels_shown l.game l.pool)
    ↔ LevelChecks (clauses_of l.game l.pool) l.game.variables l.side l.level (shown_from l.game l.pool l.m)
