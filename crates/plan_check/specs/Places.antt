-- The levels of a game by their places, as check is asked about them.
use Rattle.std.specs.Prelude.{ℕ, List, drop, ℤ}
use Rattle.pool.specs.Records.{records}
use Rattle.strategy.specs.Check.{LevelRecords}
use Rattle.layout.specs.declared.game.Game.{Game}
use Rattle.layout.specs.Table.{level_of}
use Rattle.layout.specs.Shown.{variables_at, entries_in}
use Rattle.plan_check.specs.Checked.{levels_shown}

-- the level m, and the levels from the place m on
abbrev pub level_shown : Game → List ℤ → ℕ → LevelRecords
level_shown g pool m = record { variables = variables_at g m; chain = records pool (level_of g m).chain; entries = entries_in g pool m }

abbrev pub shown_from : Game → List ℤ → ℕ → List LevelRecords
shown_from g pool m = drop m (levels_shown g pool)
