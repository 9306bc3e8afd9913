-- The variables of a level, by the level of each variable.
use Rattle.std.specs.Prelude.{ℕ, Bool, List, [], ◌∷◌, Some, None, Option, ◌==◌, slice_index}
use Rattle.formula.specs.Lists.{keep, from}

abbrev pub first_of : List ℕ → Option ℕ
first_of [] = None
first_of (v ∷ vs) = Some v

-- the level m binds the variable v
abbrev pub binds_at : List ℕ → ℕ → ℕ → Bool
binds_at bound m v = slice_index bound v == m

-- the variables of level m among 1 to n, ascending
abbrev pub variables_of : ℕ → List ℕ → ℕ → List ℕ
variables_of n bound m = keep (binds_at bound m) (from 1 n)
