use Rattle.std.proofs.Common.{◌≡◌, take}
use Rattle.formula.specs.Lists.{each}
use Rattle.rules.specs.Noting.{signed}
use Rattle.rules.proofs.noting.signals.Given as goal

abbrev pub invariant-loop-clause : goal.invariant-loop-clause
invariant-loop-clause l = l.numbers.items ≡ each (signed l.negative l.base) (take l.clause-index l.clauses)
