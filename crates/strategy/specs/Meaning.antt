-- What a level's chain says, without records: of the level's values, and of the signals t and b as tests of clauses.
use Rattle.std.specs.Prelude.{ℕ, ◌<◌, Bool, not, T, List, [], ◌∷◌, length}
use Rattle.formula.specs.Lists.{all, In, All}
use Rattle.formula.specs.Game.{Values, Clauses, hits}
use Rattle.strategy.specs.Entries.{LevelState, choices_at}
use Rattle.formula.specs.declared.side.Side.{Side}
use Rattle.formula.specs.declared.side.Side.TheVariants.{Ours, Device}

-- The values y and the signals t and b meet the chain of a level of side σ, with the levels `after` it.
-- Ours: each clause is hit by y, or t has it, or (before the last level) b has it; of each learned set some clause is not in b.
-- The device's: no clause hit by y is in b; of each learned set some clause is in b.
abbrev pub Meets : Clauses → Side → LevelState → List LevelState → Values → (ℕ → Bool) → (ℕ → Bool) → Type 0
Meets C Ours s [] y t b = (i : ℕ) → i < length C → T (not (t i)) → T (hits C y i)
Meets C Ours s (n ∷ after) y t b =
    ((i : ℕ) → i < length C → T (not (t i)) → T (not (b i)) → T (hits C y i)) × All (λ A. T (not (all b A))) s.learned
Meets C Device s after y t b =
    ((i : ℕ) → i < length C → T (hits C y i) → T (not (b i))) × All (λ A. T (not (all (λ i. not (b i)) A))) s.learned

-- of t and b, the one that a question at a level of side σ assumes false
abbrev pub t_or_b : Side → (ℕ → Bool) → (ℕ → Bool) → ℕ → Bool
t_or_b Ours t b = t
t_or_b Device t b = b

-- no values of the level and no signals meet its chain when the assumed signals of the clauses in F are false
abbrev pub NothingMeets : Clauses → Side → LevelState → List LevelState → (ℕ → Bool) → Type 0
NothingMeets C σ s after F =
    (y : Values) → In y (choices_at s) → (t b : ℕ → Bool) → Meets C σ s after y t b
    → ((i : ℕ) → i < length C → T (F i) → T (not (t_or_b σ t b i))) → ⊥
