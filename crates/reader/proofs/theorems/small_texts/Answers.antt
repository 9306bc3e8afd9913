use Rattle.std.proofs.Common.{refl}
use Rattle.reader.proofs.theorems.small_texts.Goals as goal

pub returns : goal.returns
returns c = (refl, refl, refl, refl, refl, refl)
