-- What the next move has to do with the recorded plan, and entries with the choices of their level.
use Rattle.std.specs.Prelude.{◌≡◌, ℕ, ◌-◌, ◌<◌, true, ◌↔◌, List, take, ℤ}
use Rattle.formula.specs.Lists.{All, In, each, below}
use Rattle.formula.specs.Game.{choices, Play, PlayOf}
use Rattle.formula.specs.declared.side.Side.{Side}
use Rattle.strategy.specs.Entries.{Entry}
use Rattle.strategy.specs.RecordedPlan.{move, flat}
use Rattle.layout.specs.Shown.{variables_at, levels_of, entries_in}
use Rattle.layout.specs.Viewed.{clauses_of}
use Rattle.soundness.specs.Soundness.{SoundPool}
use Rattle.plan.specs.NextMove.{is_level_of, is_play_before, next_move}
use Rattle.layout.specs.declared.game.Game.{Game}

-- the entries of each level
abbrev pub all_entries_in : Game → List ℤ → List (List Entry)
all_entries_in g pool = each (entries_in g pool) (below g.depth)

-- A list of literals is taken exactly when it is a play of the levels before, put in one list.
abbrev pub PlaysAreTaken : Type 0
PlaysAreTaken = (g : Game) (level : ℕ) (ρ : List ℤ)
    → (is_play_before g level ρ ≡ true) ↔ ((π : Play) × PlayOf (take (level - 1) (levels_of g)) π × (flat π ≡ ρ))

-- After a play of the levels before, the next move is the one that the recorded plan makes.
abbrev pub MoveIsRecorded : Type 0
MoveIsRecorded = (g : Game) (pool : List ℤ) (w : Side) (level : ℕ) (π : Play) → is_level_of g w level ≡ true → PlayOf (take (level - 1) (levels_of g)) π
    → next_move g pool w level (flat π) ≡ move (clauses_of g pool) w (all_entries_in g pool) π

-- In a sound pool each entry has values of its level.
abbrev pub EntriesHaveValues : Type 0
EntriesHaveValues = (g : Game) (pool : List ℤ) → SoundPool g pool → (m : ℕ) → m < g.depth → All (λ e. In e.values (choices (variables_at g m))) (entries_in g pool m)
