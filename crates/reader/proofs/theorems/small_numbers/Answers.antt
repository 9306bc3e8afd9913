use Rattle.std.proofs.Common.{refl}
use Rattle.reader.proofs.theorems.small_numbers.Goals as goal

pub returns : goal.returns
returns c = (refl, refl, refl)
