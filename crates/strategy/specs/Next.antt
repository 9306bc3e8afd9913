-- The step as a function of the answer, for code to follow.
use Rattle.std.specs.Prelude.{◌≡◌, ℕ, List, [], ◌∷◌}
use Rattle.formula.specs.Game.{other, Qbf, Values, Clauses, hit}
use Rattle.strategy.specs.Questions.{YesAt, NoAt}
use Rattle.strategy.specs.Steps.{played, State, playing, decided, learn, enter, last_entry_set, entry_set, YesMeans, NoMeans}
use Rattle.formula.specs.declared.side.Side.{Side}
use Rattle.formula.specs.declared.side.Side.TheVariants.{Ours, Device}

-- an answer: values, or the clauses whose assumptions the no names
pub data Answer : Type 0 where
  satisfied : Values → Answer
  refused : List ℕ → Answer

-- with no level, ours wins when there is no clause
abbrev pub no_level_winner : Clauses → Side
no_level_winner [] = Ours
no_level_winner (c ∷ C) = Device

abbrev pub next : Clauses → State → Answer → State
next C (decided w σ states) a = decided w σ states
next C (playing σ [] []) a = decided (no_level_winner C) σ []
next C (playing σ (p ∷ back) []) a = playing σ (p ∷ back) []
next C (playing σ back (s ∷ n ∷ r)) (satisfied x) = playing (other σ) (record { state = s; kept = x } ∷ back) (n ∷ r)
next C (playing Ours [] (s ∷ [])) (satisfied x) = decided Ours Ours (enter (last_entry_set C (hit C []) x) x s ∷ [])
next C (playing Ours (p ∷ back) (s ∷ [])) (satisfied x) =
    playing Device back (learn (last_entry_set C (hit C (played (p ∷ back))) x) p.state ∷ enter (last_entry_set C (hit C (played (p ∷ back))) x) x s ∷ [])
next C (playing Device back (s ∷ [])) (satisfied x) = playing Device back (s ∷ [])
next C (playing σ [] (s ∷ r)) (refused A) = decided (other σ) σ (s ∷ r)
next C (playing σ (p ∷ []) (s ∷ r)) (refused A) = decided (other σ) (other σ) (enter (entry_set C σ A p.kept) p.kept p.state ∷ s ∷ r)
next C (playing σ (p ∷ q ∷ back) (s ∷ r)) (refused A) =
    playing σ back (learn (entry_set C σ A p.kept) q.state ∷ enter (entry_set C σ A p.kept) p.kept p.state ∷ s ∷ r)

-- the answer is within its meaning in this state
abbrev pub AnswerBy : YesMeans → NoMeans → State → Answer → Type 0
AnswerBy Yes No (decided w σ states) a = ⊥
AnswerBy Yes No (playing σ back []) a = back ≡ []
AnswerBy Yes No (playing σ back (s ∷ r)) (satisfied x) = Yes σ (played back) s r x
AnswerBy Yes No (playing σ back (s ∷ r)) (refused A) = No σ (played back) s r A

-- an engine may give this answer in a game of q
abbrev pub Answers : Qbf → State → Answer → Type 0
Answers q = AnswerBy (YesAt q.clauses q.variables) (NoAt q.clauses q.variables)
