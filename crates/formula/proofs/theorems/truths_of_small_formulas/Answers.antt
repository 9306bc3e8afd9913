use Rattle.std.proofs.Common.{refl}
use Rattle.formula.proofs.theorems.truths_of_small_formulas.Goals as goal

pub returns : goal.returns
returns c = (refl, refl, refl, refl, refl)
