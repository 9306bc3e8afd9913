-- The potential of a state, which each step lowers: the measure of a loop over steps.
use Rattle.std.specs.Prelude.{ℕ, suc, ◌+◌, ◌*◌, Bool, true, false, not, ◌&&◌, List, [], ◌∷◌, length}
use Rattle.formula.specs.Lists.{all, any, count}
use Rattle.formula.specs.Game.{other, same, Values, choices, Clauses, Play, hit}
use Rattle.strategy.specs.Entries.{LevelState, choices_at, variables_of}
use Rattle.strategy.specs.Steps.{KeptLevel, played, State, playing, decided}
use Rattle.formula.specs.declared.side.Side.{Side}
use Rattle.formula.specs.declared.side.Side.TheVariants.{Ours, Device}

abbrev pub same_values : Values → Values → Bool
same_values [] [] = true
same_values [] (m ∷ y) = false
same_values (l ∷ x) [] = false
same_values (l ∷ x) (m ∷ y) = same l m && same_values x y

-- the most that the levels of these variables can still cost
abbrev pub weight : List (List ℕ) → ℕ
weight [] = 1
weight (v ∷ []) = 1
weight (v ∷ w ∷ r) = suc (length (choices v) * suc (weight (w ∷ r)))

-- the learned set A of a level of side σ excludes the play π up to the level's end: ours, when π hits nothing of A; the device's, when it hits all
abbrev pub excludes : Clauses → Side → Play → List ℕ → Bool
excludes C Ours π A = all (λ i. not (hit C π i)) A
excludes C Device π A = all (hit C π) A

-- the values x of the level s, after the play π, are excluded by some learned set
abbrev pub excluded : Clauses → Side → Play → LevelState → Values → Bool
excluded C σ π s x = any (excludes C σ (x ∷ π)) s.learned

-- how many choices are not excluded; and not counting z
abbrev pub unexcluded : Clauses → Side → Play → LevelState → ℕ
unexcluded C σ π s = count (λ x. not (excluded C σ π s x)) (choices_at s)

abbrev pub unexcluded_but : Clauses → Side → Play → LevelState → Values → ℕ
unexcluded_but C σ π s z = count (λ x. not (excluded C σ π s x) && not (same_values x z)) (choices_at s)

-- what the present level counts, and the levels before it
abbrev pub present_term : Clauses → Side → Play → List LevelState → ℕ
present_term C σ π [] = 1
present_term C σ π (s ∷ []) = 1
present_term C σ π (s ∷ n ∷ r) = suc (unexcluded C σ π s * suc (weight (variables_of (n ∷ r))))

abbrev pub kept_terms : Clauses → Side → List KeptLevel → List LevelState → ℕ
kept_terms C σ [] f = 0
kept_terms C σ (p ∷ back) f =
    suc (unexcluded_but C (other σ) (played back) p.state p.kept * suc (weight (variables_of f))) + kept_terms C (other σ) back (p.state ∷ f)

abbrev pub potential : Clauses → State → ℕ
potential C (playing σ back f) = kept_terms C σ back f + present_term C σ (played back) f
potential C (decided w σ states) = 0
