use Rattle.std.proofs.Common.{◌≡◌, ◌≤◌, false, length, get_or}
use Rattle.formula.specs.Lists.{keep, below}
use Rattle.strategy.specs.Records.{assumptions}
use Rattle.strategy.specs.Questions.{assumed}
use Rattle.rules.proofs.question.assumptions_of.Given as goal

abbrev pub invariant-loop-clause : goal.invariant-loop-clause
invariant-loop-clause l =
    (l.assumed.items ≡ assumptions l.variables l.clauses l.side (keep (assumed l.side (λ i. get_or l.satisfied i false)) (below l.clause)))
    × (length l.assumed.items ≤ l.clause)
