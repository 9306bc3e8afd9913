use Rattle.std.proofs.Common.{◌≡◌, ◌≤◌, false, not, ◌&&◌, length, get_or}
use Rattle.formula.specs.Lists.{keep, below}
use Rattle.rules.proofs.sets.last_set.Given as goal

abbrev pub invariant-loop-i : goal.invariant-loop-i
invariant-loop-i l = (l.set.items ≡ keep (λ j. get_or l.chosen.satisfied j false && not (get_or l.marks j false)) (below l.i)) × (length l.set.items ≤ l.i)
