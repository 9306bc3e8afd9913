-- The question of a step about a level's chain, and the two answers that an engine may give.
use Rattle.std.specs.Prelude.{◌≡◌, ℕ, suc, ◌+◌, ◌-◌, Bool, not, T, List, length, ℤ, unsigned_abs}
use Rattle.formula.specs.Lists.{all, keep, each, elem, below}
use Rattle.formula.specs.Game.{Values, Clauses, Play, hit}
use Rattle.strategy.specs.Entries.{LevelState}
use Rattle.strategy.specs.Records.{holds, satisfies, Unsatisfiable, assumptions, chain, values_of}
use Rattle.formula.specs.declared.side.Side.{Side}
use Rattle.formula.specs.declared.side.Side.TheVariants.{Ours, Device}

-- The clauses that a question at a level of side σ assumes something about, ascending; `before` are the clauses satisfied before the level.
-- At our level those not satisfied, of which t is assumed false; at the device's those satisfied, of which b is.
abbrev pub assumed : Side → (ℕ → Bool) → ℕ → Bool
assumed Ours before i = not (before i)
assumed Device before i = before i

abbrev pub assumed_clauses : ℕ → Side → (ℕ → Bool) → List ℕ
assumed_clauses k σ before = keep (assumed σ before) (below k)

-- "Yes" with values x of the variables vs: an assignment that makes the chain and every assumption true has these values.
pub record YesAnswer (n k : ℕ) (σ : Side) (before : ℕ → Bool) (ch : List (List ℤ)) (vs : List ℕ) (x : Values) : Type 0 where
  pub assignment : ℕ → Bool
  pub chain_true : T (satisfies assignment ch)
  pub assumptions_true : T (all (holds assignment) (assumptions n k σ (assumed_clauses k σ before)))
  pub values : x ≡ values_of assignment vs

-- "No" naming the clauses A: they are among those assumed, and no assignment makes the chain and their assumptions true.
pub record NoAnswer (n k : ℕ) (σ : Side) (before : ℕ → Bool) (ch : List (List ℤ)) (A : List ℕ) : Type 0 where
  pub named : (i : ℕ) → T (elem i A) → T (elem i (assumed_clauses k σ before))
  pub unsatisfiable : Unsatisfiable ch (assumptions n k σ A)

-- the clauses of assumptions that an engine names, read off their numbers
abbrev pub clause_of : ℕ → ℕ → Side → ℤ → ℕ
clause_of n k Ours l = unsigned_abs l - suc n
clause_of n k Device l = unsigned_abs l - suc (n + k)

abbrev pub clauses_named : ℕ → ℕ → Side → List ℤ → List ℕ
clauses_named n k σ names = each (clause_of n k σ) names

-- the answers at the level s of a game, with the levels `after` it: what the play π so far hits is what is satisfied before
abbrev pub YesAt : Clauses → ℕ → Side → Play → LevelState → List LevelState → Values → Type 0
YesAt C n σ π s after x = YesAnswer n (length C) σ (hit C π) (chain C n σ s after) s.variables x

abbrev pub NoAt : Clauses → ℕ → Side → Play → LevelState → List LevelState → List ℕ → Type 0
NoAt C n σ π s after A = NoAnswer n (length C) σ (hit C π) (chain C n σ s after) A
