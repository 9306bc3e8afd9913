-- A table with its pool, and the verdict that is kept for it.
use Rattle.std.specs.Prelude.{Bool, false, List, [], ℤ, None, vec_items, Option}
use Rattle.layout.specs.declared.game.Game.{Game}
use Rattle.layout.specs.Table.{blank_game}
use Rattle.game.specs.Tables.{is_held, game_in}
use Rattle.game.specs.declared.table.Table.{Table}
use Rattle.game.specs.declared.verdict.Verdict.{Verdict}
use Rattle.calls.specs.declared.seat.Seat.{Seat}

pub record Place : Type 0 where
  pub holds : Bool
  pub game : Game
  pub words : List ℤ
  pub verdict : Option Verdict

abbrev pub place_with : Table → List ℤ → Option Verdict → Place
place_with t pool v = record { holds = is_held t.game; game = game_in t.game; words = pool; verdict = v }

abbrev pub place_of : Seat → Place
place_of s = place_with s.table (vec_items s.pool) s.verdict

-- what a read past the last table would give
abbrev pub nowhere : Place
nowhere = record { holds = false; game = blank_game; words = []; verdict = None }
