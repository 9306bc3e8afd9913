use Rattle.std.proofs.Common.{◌≡◌, ℕ, ◌-◌, ◌≤◌, Bool, true, List, length, ℤ}
use Rattle.std.specs.List.{AllByRecursion}
use Rattle.pool.specs.Chains.{records_of, signals_of}
use Rattle.engine.specs.Truth.{chain}
use Rattle.propagation.specs.Steps.{Grown, Alive, Silent}
use Rattle.propagation.proofs.units.propagate.Given as goal

abbrev pub invariant-rounds : goal.invariant-rounds
invariant-rounds l = Grown (records_of l.chain) l.initial.values l.initial.trail l.mark l.values l.trail l.top

abbrev pub decreases-rounds : goal.decreases-rounds
decreases-rounds l = length l.initial.values - l.top

-- the row grows on from wherever it grew to before, and a round that changes nothing meets no record that fails
abbrev pub invariant-records : goal.invariant-records
invariant-records l =
    ((row₀ : List ℤ) (trail₀ : List ℕ) → Grown (records_of l.chain) row₀ trail₀ l.mark l.initial.values l.initial.trail l.before → Grown (records_of l.chain) row₀ trail₀ l.mark l.values l.trail l.top)
    × (l.before ≤ l.top)
    × (signals_of l.rest ≡ length l.values)
    × ((a : ℕ → Bool) → chain a (records_of l.chain) ≡ true → chain a (records_of l.rest) ≡ true)
    × (l.top ≡ l.before → AllByRecursion (Alive l.values) (records_of l.rest) → AllByRecursion (Alive l.values) (records_of l.chain))
    × ((row : List ℤ) (j : ℕ) → AllByRecursion (Silent row j) (records_of l.chain) → AllByRecursion (Silent row j) (records_of l.rest))

abbrev pub decreases-records : goal.decreases-records
decreases-records l = length (records_of l.rest)
