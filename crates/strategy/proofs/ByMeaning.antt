-- Answers, steps and the check by what chains say (specs/Meaning), as the proofs use them; proofs/AnswerMeaning ties them to records.
use Rattle.std.proofs.Common.{◌≡◌, ℕ, ◌<◌, Bool, true, false, not, ◌||◌, T, List, [], ◌∷◌, length}
use mathlib.Core.Option.{Option, none, some}
use Rattle.formula.specs.Lists.{all, find, In, All, Any, elem}
use Rattle.formula.specs.Game.{other, Values, Clauses, Play, hits, hit}
use Rattle.formula.specs.Backward.{Won}
use Rattle.strategy.specs.Entries.{Entry, fits, LevelState, choices_at, entries_of}
use Rattle.strategy.specs.Questions.{assumed}
use Rattle.strategy.specs.Meaning.{Meets, t_or_b, NothingMeets}
use Rattle.strategy.specs.Steps.{State, StepBy, StepsBy}
use Rattle.strategy.specs.Next.{Answer, AnswerBy}
use Rattle.formula.specs.declared.side.Side.{Side}
use Rattle.formula.specs.declared.side.Side.TheVariants.{Ours, Device}

-- the two answers
pub record YesMeaning (C : Clauses) (σ : Side) (π : Play) (s : LevelState) (r : List LevelState) (x : Values) : Type 0 where
  pub t : ℕ → Bool
  pub b : ℕ → Bool
  pub among : In x (choices_at s)
  pub meets : Meets C σ s r x t b
  pub agrees : (i : ℕ) → i < length C → T (assumed σ (hit C π) i) → T (not (t_or_b σ t b i))

pub record NoMeaning (C : Clauses) (σ : Side) (π : Play) (s : LevelState) (r : List LevelState) (A : List ℕ) : Type 0 where
  pub small : (i : ℕ) → T (elem i A) → i < length C
  pub named : (i : ℕ) → T (elem i A) → T (assumed σ (hit C π) i)
  pub nothing_meets : NothingMeets C σ s r (λ i. elem i A)

abbrev pub MeaningStep : Clauses → State → State → Type 0
MeaningStep C = StepBy C (YesMeaning C) (NoMeaning C)

abbrev pub MeaningSteps : Clauses → ℕ → State → State → Type 0
MeaningSteps C = StepsBy C (YesMeaning C) (NoMeaning C)

abbrev pub MeaningAnswer : Clauses → State → Answer → Type 0
MeaningAnswer C = AnswerBy (YesMeaning C) (NoMeaning C)

-- the check: each learned set contains the set of an entry at the next level
abbrev pub MeaningLearned : LevelState → List LevelState → Type 0
MeaningLearned s r = All (λ A. Any (λ e. T (all (λ i. elem i A) e.set)) (entries_of r)) s.learned

-- the entry e of a level of side σ, with the levels r after it, leaves the next level without values
abbrev pub MeaningEntry : Clauses → Side → List LevelState → Entry → Type 0
MeaningEntry C Ours [] e = (i : ℕ) → i < length C → T (elem i e.set || hits C e.values i)
MeaningEntry C Ours (n ∷ r) e = NothingMeets C Device n r (λ i. elem i e.set || hits C e.values i)
MeaningEntry C Device [] e = ⊥
MeaningEntry C Device (n ∷ r) e =
    ((i : ℕ) → T (elem i e.set) → T (not (hits C e.values i))) × NothingMeets C Ours n r (λ i. elem i e.set)

abbrev pub MeaningEntries : Clauses → Side → LevelState → List LevelState → Type 0
MeaningEntries C σ s r = All (λ e. In e.values (choices_at s) × MeaningEntry C σ r e) s.entries

-- what the winner w has to show of a level of side σ
abbrev pub MeaningRule : Clauses → Side → Side → LevelState → List LevelState → Type 0
MeaningRule C Ours Ours s r = MeaningEntries C Ours s r
MeaningRule C Ours Device s r = MeaningLearned s r
MeaningRule C Device Ours s r = MeaningLearned s r
MeaningRule C Device Device s r = MeaningEntries C Device s r

abbrev pub MeaningRules : Clauses → Side → Side → List LevelState → Type 0
MeaningRules C w σ [] = Unit {0}
MeaningRules C w σ (s ∷ r) = MeaningRule C w σ s r × MeaningRules C w (other σ) r

abbrev pub MeaningStart : Clauses → Side → Side → List LevelState → Type 0
MeaningStart C Ours σ [] = length C ≡ 0
MeaningStart C Device σ [] = 0 < length C
MeaningStart C Ours Ours (s ∷ r) = Any (λ e. e.set ≡ []) s.entries
MeaningStart C Ours Device (s ∷ r) = NothingMeets C Device s r (λ i. false)
MeaningStart C Device Ours (s ∷ r) = NothingMeets C Ours s r (λ i. true)
MeaningStart C Device Device (s ∷ r) = Any (λ e. Unit {0}) s.entries

pub record MeaningCheck (C : Clauses) (w σ : Side) (states : List LevelState) : Type 0 where
  pub starts : MeaningStart C w σ states
  pub rules : MeaningRules C w σ states

-- the recorded plan over plays with the newest level first: w, who plays at each of its levels the newest entry that fits, wins from the play π on,
-- whatever the other side plays
abbrev pub HasMove : LevelState → Option Entry → (Values → Type 0) → Type 0
HasMove s none K = ⊥
HasMove s (some e) K = In e.values (choices_at s) × K e.values

abbrev pub RecordedWins : Clauses → Side → Side → List LevelState → Play → Type 0
RecordedWins C w σ [] π = Won C w π
RecordedWins C Ours Ours (s ∷ r) π = HasMove s (find (fits C Ours π) s.entries) (λ x. RecordedWins C Ours Device r (x ∷ π))
RecordedWins C Ours Device (s ∷ r) π = (y : Values) → In y (choices_at s) → RecordedWins C Ours Ours r (y ∷ π)
RecordedWins C Device Ours (s ∷ r) π = (y : Values) → In y (choices_at s) → RecordedWins C Device Device r (y ∷ π)
RecordedWins C Device Device (s ∷ r) π = HasMove s (find (fits C Device π) s.entries) (λ x. RecordedWins C Device Ours r (x ∷ π))
