use Rattle.std.proofs.Common.{◌≡◌, ℕ, ◌≤◌, length}
use Rattle.std.specs.List.{AllByRecursion}
use Rattle.pool.specs.Chains.{records_of, signals_of}
use Rattle.propagation.specs.Steps.{Silent}
use Rattle.branching.specs.Search.{place_in, From}
use Rattle.branching.proofs.Choosing.{Heard}
use Rattle.branching.proofs.choose.choose.Given as goal

-- the open signals of the records so far lie at `low` or behind
abbrev pub invariant-loop-numbers : goal.invariant-loop-numbers
invariant-loop-numbers l =
    (signals_of l.rest ≡ length l.values)
    × Heard l.values (records_of l.chain) l.low
    × ((m : ℕ) → m ≤ place_in l.values l.low → AllByRecursion (From l.values m) (records_of l.rest) → AllByRecursion (From l.values m) (records_of l.chain))
    × ((j : ℕ) → AllByRecursion (Silent l.values j) (records_of l.chain) → AllByRecursion (Silent l.values j) (records_of l.rest))

abbrev pub decreases-loop-numbers : goal.decreases-loop-numbers
decreases-loop-numbers l = length (records_of l.rest)
