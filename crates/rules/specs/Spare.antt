-- The words that a step may write, and what is known where an entry is noted.
use Rattle.std.specs.Prelude.{◌≡◌, ℕ, suc, ◌+◌, ◌*◌, ◌<◌, ◌≤◌, Bool, List, length, take, ℤ, slice_index}
use Rattle.formula.specs.Lists.{each}
use Rattle.formula.specs.Model.{bound_in}
use Rattle.formula.specs.Proper.{Ascending}
use Rattle.strategy.specs.Records.{values_of}
use Rattle.strategy.specs.Next.{Answer as Said, satisfied, refused}
use Rattle.layout.specs.declared.game.Game.{Game}
use Rattle.layout.specs.Table.{Limits, Filled, level_of}
use Rattle.layout.specs.Viewed.{variables_in}
use Rattle.layout.specs.Shown.{variables_at}
use Rattle.soundness.specs.Soundness.{SoundPool}
use Rattle.engine.specs.declared.question.Answer.{Answer}
use Rattle.engine.specs.declared.question.Answer.TheVariants.{Yes, No}
use Rattle.rules.specs.Naming.{Names}

-- how many variables the levels bind
abbrev pub bound_by : Game → ℕ
bound_by g = bound_in (each (variables_in g.variables) (take g.depth g.levels))

-- the words that a step may write: an entry and a learned record
abbrev pub step_words : Game → ℕ
step_words g = 2 * g.clauses + bound_by g + 4

-- a sound pool with so many words free
pub record Spare (g : Game) (pool : List ℤ) : Type 0 where
  pub limits : Limits g
  pub filled : Filled g
  pub sound : SoundPool g pool
  pub room : g.used + step_words g ≤ g.words

-- a set of the game's clauses
pub record SetOf (g : Game) (A : List ℕ) : Type 0 where
  pub few : length A ≤ g.clauses
  pub clauses : (i : ℕ) → i < length A → slice_index A i < g.clauses

-- An answer's words can be read: values for all variables, or names of signals that the present level's question assumes something of.
abbrev pub Readable : Game → Answer → List ℤ → Type 0
Readable g Yes words = g.variables ≤ length words
Readable g (No c) words = (c ≤ length words) × (c ≤ g.clauses) × Names g.variables g.clauses (level_of g g.present).side (take c words)

-- An answer is one of the present level: values of its variables, or clauses of the game in ascending order.
abbrev pub OfLevel : Game → Said → Type 0
OfLevel g (satisfied x) = (α : ℕ → Bool) × (x ≡ values_of α (variables_at g g.present))
OfLevel g (refused A) = Ascending 0 g.clauses (each (λ i. suc i) A)
