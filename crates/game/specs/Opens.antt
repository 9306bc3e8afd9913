-- What open gives and writes: the first fault, or the game of the formula that the text reads as.
use Rattle.std.specs.Prelude.{ℕ, Bool, true, cond, List, ℤ, Ok, Err, Result, nat_lt}
use Rattle.formula.specs.Game.{Qbf}
use Rattle.reader.specs.declared.faults.TextFault.{TextFault}
use Rattle.layout.specs.declared.game.Game.{Game}
use Rattle.layout.specs.Opening.{words_needed}
use Rattle.layout.specs.Opened.{opened_pool, opened_game}
use Rattle.game.specs.declared.faults.GameFault.{GameFault}
use Rattle.game.specs.declared.faults.GameFault.TheVariants.{Text, PoolTooLong, PoolTooShort}

-- What open makes of a text that reads so, and of a pool of so many words.
abbrev pub fitting : ℕ → Result Qbf TextFault → Result Qbf GameFault
fitting size (Ok q) = cond (nat_lt size (words_needed q)) (Err PoolTooShort) (Ok q)
fitting size (Err e) = Err (Text e)

abbrev pub opening : ℕ → Result Qbf TextFault → Result Qbf GameFault
opening size read = cond (nat_lt 1048576 size) (Err PoolTooLong) (fitting size read)

-- what it gives, and the pool, the game and the table after it: a refusal changes nothing
abbrev pub open_gives : Result Qbf GameFault → Result (Unit {0}) GameFault
open_gives (Ok q) = Ok tt
open_gives (Err e) = Err e

abbrev pub pool_after : List ℤ → Result Qbf GameFault → List ℤ
pool_after pool (Ok q) = opened_pool q pool
pool_after pool (Err e) = pool

abbrev pub game_after : Game → ℕ → List ℤ → Result Qbf GameFault → Game
game_after g number pool (Ok q) = opened_game q number pool
game_after g number pool (Err e) = g

abbrev pub holds_after : Bool → Result Qbf GameFault → Bool
holds_after holds (Ok q) = true
holds_after holds (Err e) = holds
