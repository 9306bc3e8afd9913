-- The theorems about games, each the contract of a function in src/theorems. What ties them to numbers and places is in specs/Connections.
use Rattle.std.specs.Prelude.{◌≡◌, ℕ, suc, ◌+◌, ◌^◌, ◌<◌, ◌≤◌, Bool, true, T, ◌↔◌, List, length, ℤ}
use Rattle.std.proofs.Math.Option.{some}
use Rattle.formula.specs.Lists.{In, All}
use Rattle.formula.specs.Game.{Qbf, Values, choices, Clauses, Play}
use Rattle.formula.specs.Plans.{Plan, Wins, CanWin}
use Rattle.formula.specs.Truth.{truth}
use Rattle.formula.specs.Backward.{level_after}
use Rattle.strategy.specs.Entries.{LevelState, variables_of, all_entries}
use Rattle.strategy.specs.RecordedPlan.{move, RecordedPlanWins}
use Rattle.strategy.specs.Signals.{t_signal, b_signal}
use Rattle.strategy.specs.Records.{satisfies, chain, values_of}
use Rattle.formula.specs.Proper.{Ascending}
use Rattle.strategy.specs.WellFormed.{ProperLevel, WellFormed, bound}
use Rattle.strategy.specs.Steps.{KeptLevel, State, playing, decided, states_of, Step, Reached}
use Rattle.strategy.specs.Next.{Answer, next, Answers}
use Rattle.strategy.specs.Check.{LevelRecords, UnsatisfiableWhen, Check, EntriesOfLevel, level_variables, level_entries, records_of}
use Rattle.strategy.specs.Meaning.{Meets, NothingMeets}
use Rattle.strategy.specs.Potential.{potential}
use Rattle.strategy.specs.Counts.{FewEntries, LearnedAreEntries, FewLearned}
use Rattle.formula.specs.declared.side.Side.{Side}
use Rattle.formula.specs.declared.side.Side.TheVariants.{Ours}

-- 1. What check asks of a side implies that its recorded plan wins, whatever the levels' chains and entries came from.
abbrev pub CheckImpliesWins : Type 0
CheckImpliesWins = (q : Qbf) (w : Side) (levels : List LevelRecords) → level_variables levels ≡ q.levels → All (Ascending 0 q.variables) q.levels
    → EntriesOfLevel levels → Check q.clauses q.variables w q.first levels → RecordedPlanWins q w (level_entries levels)

-- 2. A recorded plan that wins is a plan that wins: there is one that makes the recorded move wherever there is one of the level's choices.
abbrev pub RecordedPlanIsAPlan : Type 0
RecordedPlanIsAPlan = (q : Qbf) (w : Side) (levels : List LevelRecords) → level_variables levels ≡ q.levels → RecordedPlanWins q w (level_entries levels)
    → (plan : Plan q w) × Wins q w plan
    × ((π : Play) (x : Values) → move q.clauses w (level_entries levels) π ≡ some x → In x (choices (level_after q.levels π)) → plan.choose π ≡ x)

-- So ours wins by its recorded plan only a true formula, and the device only a false one.
abbrev pub RecordedPlanDecides : Type 0
RecordedPlanDecides = (q : Qbf) (w : Side) (levels : List LevelRecords) → level_variables levels ≡ q.levels → RecordedPlanWins q w (level_entries levels)
    → (w ≡ Ours) ↔ (truth q ≡ true)

-- 3. In every state that is reached from open, a verdict is of a side of which check's condition holds and whose recorded plan wins;
-- and it is ours exactly when the formula is true. The levels are those of the formula.
abbrev pub VerdictIsRight : Type 0
VerdictIsRight = (q : Qbf) → WellFormed q → (m : ℕ) (w σ : Side) (states : List LevelState) → Reached q m (decided w σ states)
    → (σ ≡ q.first) × (variables_of states ≡ q.levels)
    × Check q.clauses q.variables w σ (records_of q.clauses q.variables σ states)
    × RecordedPlanWins q w (all_entries states) × CanWin q w × ((w ≡ Ours) ↔ (truth q ≡ true))

-- In every state that is reached, decided or not, the levels have the formula's variables, and the entries values of their levels.
abbrev pub LevelsStay : Type 0
LevelsStay = (q : Qbf) → WellFormed q → (m : ℕ) (σ : Side) (b : State) → Reached q m b
    → (variables_of (states_of b) ≡ q.levels) × EntriesOfLevel (records_of q.clauses q.variables σ (states_of b))

-- 4. The steps made and the potential are together at most 2 ^ (q + 1), q the bound variables; so many steps lead to a verdict; each step lowers the
-- potential; each answer that an engine may give makes a step, some answer is always there, and so every game comes to a verdict.
abbrev pub StepsAreBounded : Type 0
StepsAreBounded = (q : Qbf) → WellFormed q → (m : ℕ) (b : State) → Reached q m b → m + potential q.clauses b ≤ 2 ^ suc (bound q)

abbrev pub VerdictInTime : Type 0
VerdictInTime = (q : Qbf) → WellFormed q → (m : ℕ) (σ : Side) (back : List KeptLevel) (front : List LevelState) → Reached q m (playing σ back front)
    → m < 2 ^ suc (bound q)

abbrev pub StepLowersPotential : Type 0
StepLowersPotential = (q : Qbf) → WellFormed q → (m : ℕ) (a b : State) → Reached q m a → Step q a b → potential q.clauses b < potential q.clauses a

abbrev pub AnswerMakesAStep : Type 0
AnswerMakesAStep = (q : Qbf) → WellFormed q → (m : ℕ) (a : State) (x : Answer) → Reached q m a → Answers q a x
    → Step q a (next q.clauses a x) × Reached q (suc m) (next q.clauses a x)

abbrev pub AnswerExists : Type 0
AnswerExists = (q : Qbf) → WellFormed q → (m : ℕ) (σ : Side) (back : List KeptLevel) (front : List LevelState) → Reached q m (playing σ back front)
    → (x : Answer) × Answers q (playing σ back front) x

abbrev pub GameEnds : Type 0
GameEnds = (q : Qbf) → WellFormed q → (m : ℕ) × (w : Side) × (σ : Side) × (states : List LevelState) × Reached q m (decided w σ states)

-- 5. At each level no entry's set contains the set of an older entry, and level m has at most 2 ^ r entries, r the variables bound before it.
-- What a level has learned are the sets of the next level's entries, in their order; so a level learns at most 2 ^ r sets, r the variables up to its end.
abbrev pub EntriesAreFew : Type 0
EntriesAreFew = (q : Qbf) → WellFormed q → (m : ℕ) (b : State) → Reached q m b → FewEntries 0 (states_of b)

abbrev pub LearnedSetsAreEntries : Type 0
LearnedSetsAreEntries = (q : Qbf) → WellFormed q → (m : ℕ) (b : State) → Reached q m b → LearnedAreEntries (states_of b)

abbrev pub LearnedSetsAreFew : Type 0
LearnedSetsAreFew = (q : Qbf) → WellFormed q → (m : ℕ) (b : State) → Reached q m b → FewLearned 0 (states_of b)

-- 6. An assignment satisfies a level's chain exactly when its values and signals meet it; and a chain is unsatisfiable under assumptions exactly when
-- no values of the level and no signals meet it.
abbrev pub ChainSatisfied : Type 0
ChainSatisfied = (C : Clauses) (n : ℕ) (σ : Side) (s : LevelState) (after : List LevelState) (α : ℕ → Bool) → ProperLevel n s.variables
    → T (satisfies α (chain C n σ s after)) ↔ Meets C σ s after (values_of α s.variables) (λ i. α (t_signal n i)) (λ i. α (b_signal n (length C) i))

abbrev pub ChainUnsatisfiable : Type 0
ChainUnsatisfiable = (C : Clauses) (n : ℕ) (σ : Side) (s : LevelState) (after : List LevelState) (F : ℕ → Bool) → ProperLevel n s.variables
    → UnsatisfiableWhen C n σ (chain C n σ s after) F ↔ NothingMeets C σ s after F

-- the order of a chain's records does not matter, nor how often one stands there
abbrev pub OrderDoesNotMatter : Type 0
OrderDoesNotMatter = (α : ℕ → Bool) (ch ch' : List (List ℤ)) → ((rec : List ℤ) → In rec ch → In rec ch') → T (satisfies α ch') → T (satisfies α ch)
