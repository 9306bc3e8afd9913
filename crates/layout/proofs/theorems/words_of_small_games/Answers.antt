use Rattle.std.proofs.Common.{refl}
use Rattle.layout.proofs.theorems.words_of_small_games.Goals as goal

pub returns : goal.returns
returns c = (refl, refl)
