-- What always holds of the arrays of a formula, whole or not.
use Rattle.std.specs.Prelude.{◌≡◌, ℕ, ◌+◌, ◌<◌, ◌≤◌, true, length, pos, slice_index, slice_index_or, unsigned_abs}
use Rattle.formula.specs.declared.parts.Parts.{Parts}
use Rattle.formula.specs.Found.{variables_of}
use Rattle.formula.specs.Sides.{side_at, same_side}
use Rattle.formula.specs.declared.side.Side.TheVariants.{Ours}

abbrev pub Limits : Parts → Type 0
Limits p = (p.variables ≤ 256) × (p.levels ≤ 32) × (p.clauses ≤ 512) × (p.count ≤ 4096)

-- the clauses lie one after the other from the start on, before the literals' end
abbrev pub Ordered : Parts → Type 0
Ordered p = (i : ℕ) → i < p.clauses → slice_index p.ends i ≤ slice_index p.ends (i + 1)

abbrev pub Ends : Parts → Type 0
Ends p = (slice_index p.ends 0 ≡ 0) × (slice_index p.ends p.clauses ≤ p.count)

-- only declared variables are bound, each to a level that is there
abbrev pub Declared : Parts → Type 0
Declared p = (v : ℕ) → 0 < slice_index p.bound v → (0 < v) × (v ≤ p.variables)

abbrev pub Leveled : Parts → Type 0
Leveled p = (v : ℕ) → slice_index p.bound v ≤ p.levels

-- each literal's variable is bound
abbrev pub AllBound : Parts → Type 0
AllBound p = (j : ℕ) → j < p.count → 0 < slice_index p.bound (unsigned_abs (slice_index_or p.literals j (pos 0)))

-- only the last level may be empty
abbrev pub Filled : Parts → Type 0
Filled p = (m : ℕ) → 0 < m → m < p.levels → 0 < length (variables_of p.variables p.bound m)

-- in a whole formula the last level is not empty either, and it is ours
abbrev pub LastFilled : Parts → Type 0
LastFilled p = 0 < p.levels → 0 < length (variables_of p.variables p.bound p.levels)

abbrev pub LastOurs : Parts → Type 0
LastOurs p = 0 < p.levels → same_side (side_at p.first p.levels) Ours ≡ true
