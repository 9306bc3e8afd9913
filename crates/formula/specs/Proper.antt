-- What holds of every formula that is read: its limits, and what the game needs of its levels and literals.
use Rattle.std.specs.Prelude.{◌≡◌, ℕ, ◌+◌, ◌<◌, ◌≤◌, T, List, [], ◌∷◌, length, unsigned_abs}
use Rattle.formula.specs.Lists.{All, Any, elem}
use Rattle.formula.specs.Game.{Qbf, Clauses, other}
use Rattle.formula.specs.declared.side.Side.{Side}
use Rattle.formula.specs.declared.side.Side.TheVariants.{Ours}

-- the literals of all clauses
abbrev pub literals_of : Clauses → ℕ
literals_of [] = 0
literals_of (c ∷ cs) = length c + literals_of cs

-- numbers above low and up to n, ascending
abbrev pub Ascending : ℕ → ℕ → List ℕ → Type 0
Ascending low n [] = Unit {0}
Ascending low n (v ∷ vs) = (low < v) × (v ≤ n) × Ascending v n vs

-- the last of the levels, the first of which is of side σ, is ours
abbrev pub LastOurs : {A : Type 0} → Side → List A → Type 0
LastOurs σ [] = Unit {0}
LastOurs σ (v ∷ []) = σ ≡ Ours
LastOurs σ (v ∷ w ∷ r) = LastOurs (other σ) (w ∷ r)

-- the variable v is bound at one of the levels
abbrev pub Bound : List (List ℕ) → ℕ → Type 0
Bound levels v = Any (λ vs. T (elem v vs)) levels

pub record Proper (q : Qbf) : Type 0 where
  pub few_variables : q.variables ≤ 256
  pub few_levels : length q.levels ≤ 32
  pub few_clauses : length q.clauses ≤ 512
  pub few_literals : literals_of q.clauses ≤ 4096
  pub ascending : All (Ascending 0 q.variables) q.levels
  pub none_empty : All (λ vs. 0 < length vs) q.levels
  pub last_ours : LastOurs q.first q.levels
  pub all_bound : All (λ c. All (λ l. Bound q.levels (unsigned_abs l)) c) q.clauses
