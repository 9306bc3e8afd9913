-- An entry's set, read off its signals, and what a side asks of each of its clauses.
use Rattle.std.specs.Prelude.{ℕ, suc, ◌-◌, Bool, not, List, ℤ, unsigned_abs}
use Rattle.formula.specs.Lists.{each}
use Rattle.formula.specs.declared.side.Side.{Side}
use Rattle.formula.specs.declared.side.Side.TheVariants.{Ours, Device}

abbrev pub set_of : ℕ → List ℤ → List ℕ
set_of n xs = each (λ l. unsigned_abs l - suc n) xs

-- ours asks that the clause is satisfied, the device that it is not
abbrev pub wants : Side → Bool → Bool
wants Ours b = b
wants Device b = not b
