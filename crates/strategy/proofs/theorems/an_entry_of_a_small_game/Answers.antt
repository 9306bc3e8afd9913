use Rattle.std.proofs.Common.{refl}
use Rattle.strategy.proofs.theorems.an_entry_of_a_small_game.Goals as goal

pub returns : goal.returns
returns c = (refl, refl, refl)
