use Rattle.std.proofs.Common.{refl}
use Rattle.reader.proofs.theorems.a_false_text.Goals as goal

pub returns : goal.returns
returns c = (refl, refl)
