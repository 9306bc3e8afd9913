use Rattle.std.proofs.Common.{◌≡◌, ◌+◌, ◌-◌, ◌<◌, false, length, get_or}
use Rattle.formula.specs.Lists.{keep, from}
use Rattle.layout.proofs.levels.count_flags.Given as goal

abbrev pub invariant-loop-v : goal.invariant-loop-v
invariant-loop-v l = (l.count + length (keep (λ u. get_or l.flags u false) (from l.v (l.variables + 1 - l.v))) ≡ length (keep (λ u. get_or l.flags u false) (from 1 l.variables))) × (l.count < l.v)
