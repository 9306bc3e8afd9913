use Rattle.std.proofs.Common.{refl}
use Rattle.strategy.proofs.theorems.chains_of_a_small_formula.Goals as goal

pub returns : goal.returns
returns c = (refl, refl, refl)
