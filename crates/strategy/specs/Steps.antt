-- The state of a game, and its steps: one case for each rule.
use Rattle.std.specs.Prelude.{◌≡◌, ℕ, suc, ◌<◌, Bool, not, ◌&&◌, List, [], ◌∷◌, length}
use Rattle.formula.specs.Lists.{keep, each, below}
use Rattle.formula.specs.Game.{other, Qbf, Values, Clauses, Play, hits, hit}
use Rattle.strategy.specs.Entries.{LevelState}
use Rattle.strategy.specs.Questions.{YesAt, NoAt}
use Rattle.formula.specs.declared.side.Side.{Side}
use Rattle.formula.specs.declared.side.Side.TheVariants.{Ours, Device}

-- a level before the present one, with the values kept there
pub record KeptLevel : Type 0 where
  pub state : LevelState
  pub kept : Values

-- the play so far, the newest level first: what it hits are the clauses satisfied before the present level
abbrev pub played : List KeptLevel → Play
played [] = []
played (p ∷ ps) = p.kept ∷ played ps

-- A game is being played: the present level is of side σ; the levels before it, the nearest first, and the levels from it on.
-- Or it is decided: the verdict is w; all levels, of which the first is of side σ.
pub data State : Type 0 where
  playing : (σ : Side) (back : List KeptLevel) (front : List LevelState) → State
  decided : (w σ : Side) (states : List LevelState) → State

-- all levels, level 1 first
abbrev pub all_levels : List KeptLevel → List LevelState → List LevelState
all_levels [] f = f
all_levels (p ∷ back) f = all_levels back (p.state ∷ f)

abbrev pub states_of : State → List LevelState
states_of (playing σ back f) = all_levels back f
states_of (decided w σ states) = states

-- a level learns the set A; a level gets the entry of A and x
abbrev pub learn : List ℕ → LevelState → LevelState
learn A s = record { variables = s.variables; learned = A ∷ s.learned; entries = s.entries }

abbrev pub enter : List ℕ → Values → LevelState → LevelState
enter A x s = record { variables = s.variables; learned = s.learned; entries = record { set = A; values = x } ∷ s.entries }

-- the set of the entry that a yes at the last level leaves there: the clauses satisfied before and not by x
abbrev pub last_entry_set : Clauses → (ℕ → Bool) → Values → List ℕ
last_entry_set C before x = keep (λ i. before i && not (hits C x i)) (below (length C))

-- the set of the entry that a no at a level of side σ, naming A, leaves at the level before, which has kept x
abbrev pub entry_set : Clauses → Side → List ℕ → Values → List ℕ
entry_set C Ours A x = A
entry_set C Device A x = keep (λ i. not (hits C x i)) A

-- what an answer means: yes with values, or no naming clauses, at a level of a side, after a play, with the levels after it
abbrev pub YesMeans : Type 1
YesMeans = Side → Play → LevelState → List LevelState → Values → Type 0

abbrev pub NoMeans : Type 1
NoMeans = Side → Play → LevelState → List LevelState → List ℕ → Type 0

pub data StepBy (C : Clauses) (Yes : YesMeans) (No : NoMeans) : State → State → Type 0 where
  -- no level: ours wins when there is no clause, else the device
  no_level_ours : {σ : Side} → length C ≡ 0 → StepBy C Yes No (playing σ [] []) (decided Ours σ [])
  no_level_device : {σ : Side} → 0 < length C → StepBy C Yes No (playing σ [] []) (decided Device σ [])
  -- yes below the last level: keep x, and the next level is present
  yes_below_last : {σ : Side} {back : List KeptLevel} {s n : LevelState} {r : List LevelState} (x : Values) → Yes σ (played back) s (n ∷ r) x
      → StepBy C Yes No (playing σ back (s ∷ n ∷ r)) (playing (other σ) (record { state = s; kept = x } ∷ back) (n ∷ r))
  -- yes at the last level, which is the only one: enter, and the verdict is ours
  yes_only_level : {s : LevelState} (x : Values) → Yes Ours [] s [] x
      → StepBy C Yes No (playing Ours [] (s ∷ [])) (decided Ours Ours (enter (last_entry_set C (hit C []) x) x s ∷ []))
  -- yes at the last level: enter; the level before learns the entry's set and is present
  yes_at_last : {p : KeptLevel} {back : List KeptLevel} {s : LevelState} (x : Values) → Yes Ours (played (p ∷ back)) s [] x
      → StepBy C Yes No (playing Ours (p ∷ back) (s ∷ []))
      (playing Device back (learn (last_entry_set C (hit C (played (p ∷ back))) x) p.state ∷ enter (last_entry_set C (hit C (played (p ∷ back))) x) x s ∷ []))
  -- no at level 1: the other side has won
  no_first : {σ : Side} {s : LevelState} {r : List LevelState} (A : List ℕ) → No σ [] s r A
      → StepBy C Yes No (playing σ [] (s ∷ r)) (decided (other σ) σ (s ∷ r))
  -- no at level 2: enter at level 1, and the other side has won
  no_second : {σ : Side} {p : KeptLevel} {s : LevelState} {r : List LevelState} (A : List ℕ) → No σ (played (p ∷ [])) s r A
      → StepBy C Yes No (playing σ (p ∷ []) (s ∷ r)) (decided (other σ) (other σ) (enter (entry_set C σ A p.kept) p.kept p.state ∷ s ∷ r))
  -- no at a later level: enter at the level before; the one before that learns the entry's set and is present
  no_later : {σ : Side} {p q : KeptLevel} {back : List KeptLevel} {s : LevelState} {r : List LevelState} (A : List ℕ)
      → No σ (played (p ∷ q ∷ back)) s r A
      → StepBy C Yes No (playing σ (p ∷ q ∷ back) (s ∷ r))
      (playing σ back (learn (entry_set C σ A p.kept) q.state ∷ enter (entry_set C σ A p.kept) p.kept p.state ∷ s ∷ r))

-- m steps
pub data StepsBy (C : Clauses) (Yes : YesMeans) (No : NoMeans) : ℕ → State → State → Type 0 where
  here : {a : State} → StepsBy C Yes No 0 a a
  more : {m : ℕ} {a b c : State} → StepsBy C Yes No m a b → StepBy C Yes No b c → StepsBy C Yes No (suc m) a c

-- the state at open, of the levels with these variables, the first of side σ
abbrev pub new_level : List ℕ → LevelState
new_level vs = record { variables = vs; learned = []; entries = [] }

abbrev pub opened : Side → List (List ℕ) → State
opened σ levels = playing σ [] (each new_level levels)

-- A step of a game of the formula q, with any answer that an engine may give; and the state b is reached from open by m steps.
abbrev pub Step : Qbf → State → State → Type 0
Step q = StepBy q.clauses (YesAt q.clauses q.variables) (NoAt q.clauses q.variables)

abbrev pub Reached : Qbf → ℕ → State → Type 0
Reached q m b = StepsBy q.clauses (YesAt q.clauses q.variables) (NoAt q.clauses q.variables) m (opened q.first q.levels) b
