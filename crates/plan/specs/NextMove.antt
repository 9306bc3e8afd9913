-- The next move at a level of a game: the values of the newest entry that fits.
use Rattle.std.specs.Prelude.{ℕ, ◌-◌, Bool, ◌&&◌, List, take, ℤ, nat_le, nat_lt}
use Rattle.std.proofs.Math.Option as M
use Rattle.formula.specs.Game.{Values}
use Rattle.formula.specs.Sides.{same_side}
use Rattle.formula.specs.declared.side.Side.{Side}
use Rattle.strategy.specs.RecordedPlan.{is_flat_play, flat_move}
use Rattle.layout.specs.declared.game.Game.{Game}
use Rattle.layout.specs.Table.{level_of}
use Rattle.layout.specs.Shown.{levels_of, entries_in}
use Rattle.layout.specs.Viewed.{clauses_of}

-- Levels count from 1 here, as callers count them: the level is there, and is of the side w.
abbrev pub is_level_of : Game → Side → ℕ → Bool
is_level_of g w level = (nat_lt 0 level && nat_le level g.depth) && same_side (level_of g (level - 1)).side w

-- one literal for each variable of the levels before, by level and ascending variable
abbrev pub is_play_before : Game → ℕ → List ℤ → Bool
is_play_before g level play = is_flat_play (take (level - 1) (levels_of g)) play

-- The values of the newest entry of the level that fits the clauses which the play hits.
abbrev pub next_move : Game → List ℤ → Side → ℕ → List ℤ → M.Option Values
next_move g pool w level play = flat_move (clauses_of g pool) w (entries_in g pool (level - 1)) play
