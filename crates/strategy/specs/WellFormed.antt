-- The formulas that are played: the last level is ours, no level is empty, and each level has variables from 1 to n, ascending.
use Rattle.std.specs.Prelude.{ℕ, ◌<◌, ◌≤◌, not, T, List, [], ◌∷◌, length}
use Rattle.formula.specs.Lists.{All, elem}
use Rattle.formula.specs.Game.{Qbf}
use Rattle.formula.specs.Model.{bound_in}
use Rattle.formula.specs.Proper.{LastOurs, Ascending}

pub record WellFormed (q : Qbf) : Type 0 where
  pub last_ours : LastOurs q.first q.levels
  pub none_empty : All (λ vs. 0 < length vs) q.levels
  pub ascending : All (Ascending 0 q.variables) q.levels

-- what the chain of a level needs of its variables: each from 1 to n, and none twice
abbrev pub ProperLevel : ℕ → List ℕ → Type 0
ProperLevel n [] = Unit {0}
ProperLevel n (v ∷ vs) = (0 < v) × (v ≤ n) × T (not (elem v vs)) × ProperLevel n vs

-- how many variables the levels bind
abbrev pub bound : Qbf → ℕ
bound q = bound_in q.levels
