use Rattle.std.proofs.Common.{◌≡◌, ◌≤◌, false, length, get_or, take}
use Rattle.formula.specs.Lists.{keep, each}
use Rattle.strategy.specs.Questions.{clause_of}
use Rattle.rules.specs.Naming.{wanted}
use Rattle.rules.proofs.sets.named_set.Given as goal

abbrev pub invariant-loop-name : goal.invariant-loop-name
invariant-loop-name l =
    (l.set.items ≡ keep (λ i. wanted l.side (get_or l.marks i false)) (each (clause_of l.game.variables l.game.clauses l.side) (take l.name-index l.names)))
    × (length l.set.items ≤ l.name-index)
