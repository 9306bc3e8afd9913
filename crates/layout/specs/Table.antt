-- What a table keeps, what always holds of it, and the empty one.
use Rattle.std.specs.Prelude.{◌≡◌, ℕ, ◌<◌, ◌≤◌, false, [], length, replicate, None, slice_index_or}
use Rattle.formula.specs.declared.side.Side.TheVariants.{Ours}
use Rattle.layout.specs.declared.game.Level.{Level}
use Rattle.layout.specs.declared.game.Game.{Game}

-- what a read past the last level would give
abbrev pub nought : Level
nought = record { side = Ours; variables = []; chain = 0; entries = 0; satisfied = []; values = [] }

abbrev pub blank : Level
blank = record { side = Ours; variables = replicate 257 false; chain = 0; entries = 0; satisfied = replicate 512 false; values = replicate 257 false }

abbrev pub level_of : Game → ℕ → Level
level_of g m = slice_index_or g.levels m nought

abbrev pub blank_game : Game
blank_game = record {
  variables = 0;
  clauses = 0;
  depth = 0;
  levels = replicate 32 blank;
  formula = 0;
  present = 0;
  number = 0;
  used = 0;
  words = 0;
  verdict = None;
}

abbrev pub Limits : Game → Type 0
Limits g = (g.variables ≤ 256) × (g.clauses ≤ 512) × (g.depth ≤ 32) × (g.present ≤ g.depth)

-- word 0 is always in use, no pool is longer than this, and the levels are an array
abbrev pub Filled : Game → Type 0
Filled g = (0 < g.used) × (g.words ≤ 1048576) × (length g.levels ≡ 32)
