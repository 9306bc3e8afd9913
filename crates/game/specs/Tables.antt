-- What a table shows: whether it holds a game, and which; an empty one shows the blank game.
use Rattle.std.specs.Prelude.{Bool, true, false, Some, None, Option}
use Rattle.layout.specs.Table.{blank_game}
use Rattle.layout.specs.declared.game.Game.{Game}

abbrev pub is_held : Option Game → Bool
is_held None = false
is_held (Some g) = true

abbrev pub game_in : Option Game → Game
game_in None = blank_game
game_in (Some g) = g
