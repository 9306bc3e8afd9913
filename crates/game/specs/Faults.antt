-- The number, the offset and the layer of each fault of open.
use Rattle.std.specs.Prelude.{ℕ}
use Rattle.reader.specs.declared.faults.Layer.{Layer}
use Rattle.reader.specs.declared.faults.Layer.TheVariants.{Game}
use Rattle.reader.specs.Faults.{text_number, text_offset, text_layer}
use Rattle.game.specs.declared.faults.GameFault.{GameFault}
use Rattle.game.specs.declared.faults.GameFault.TheVariants.{Text, PoolTooLong, PoolTooShort}

abbrev pub game_number : GameFault → ℕ
game_number (Text e) = text_number e
game_number PoolTooLong = 16
game_number PoolTooShort = 17

abbrev pub game_offset : GameFault → ℕ
game_offset (Text e) = text_offset e
game_offset PoolTooLong = 0
game_offset PoolTooShort = 0

-- a fault of the text keeps its layer
abbrev pub game_layer : GameFault → Layer
game_layer (Text e) = text_layer e
game_layer PoolTooLong = Game
game_layer PoolTooShort = Game
