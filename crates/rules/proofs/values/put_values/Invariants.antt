use Rattle.std.proofs.Common.{◌≡◌, ◌+◌, ◌-◌, ◌≤◌, false, ◌++◌, length, get_or}
use Rattle.formula.specs.Lists.{keep, from}
use Rattle.strategy.specs.Records.{values_of}
use Rattle.layout.specs.Viewed.{values_in}
use Rattle.rules.proofs.values.put_values.Given as goal

abbrev pub invariant-loop-v : goal.invariant-loop-v
invariant-loop-v l =
    (l.numbers.items ++ values_of (λ u. get_or l.level.values u false) (keep (λ u. get_or l.level.variables u false) (from l.v (l.variables + 1 - l.v)))
    ≡ l.initial.numbers.items ++ values_in l.variables l.level)
    × (length l.numbers.items + 1 ≤ length l.initial.numbers.items + l.v)
