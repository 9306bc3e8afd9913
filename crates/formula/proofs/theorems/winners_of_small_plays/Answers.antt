use Rattle.std.proofs.Common.{refl}
use Rattle.formula.proofs.theorems.winners_of_small_plays.Goals as goal

pub returns : goal.returns
returns c = (refl, refl, refl)
