use Rattle.std.proofs.Common.{◌+◌, ◌↔◌, length}
use Rattle.formula.specs.Lists.{All, each}
use Rattle.strategy.specs.Records.{entry_of}
use Rattle.strategy.specs.Check.{EntryCheck}
use Rattle.pool.specs.Chains.{records_of}
use Rattle.layout.specs.Table.{level_of}
use Rattle.layout.specs.Shown.{variables_at, entries_in}
use Rattle.layout.specs.Viewed.{clauses_of}
use Rattle.soundness.specs.Soundness.{EntryForm}
use Rattle.plan_check.specs.Places.{shown_from}
use Rattle.plan_check.proofs.entries.entries_hold.Given as goal

-- it is left to ask this of the entries that are left, and these have the form of one
abbrev pub invariant-loop-entry : goal.invariant-loop-entry
invariant-loop-entry g l =
    (All (EntryCheck (clauses_of l.game l.pool) l.game.variables l.side (shown_from l.game l.pool (l.m + 1))) (entries_in l.game l.pool l.m)
    ↔ All (EntryCheck (clauses_of l.game l.pool) l.game.variables l.side (shown_from l.game l.pool (l.m + 1))) (each (entry_of l.game.variables) (records_of l.rest)))
    × All (EntryForm l.game.variables l.game.clauses (level_of l.game l.m).side (variables_at l.game l.m)) (records_of l.rest)

abbrev pub decreases-loop-entry : goal.decreases-loop-entry
decreases-loop-entry g l = length (records_of l.rest)
