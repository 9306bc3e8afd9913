use Rattle.reader.proofs.Writings.{long_texts_refused}
use Rattle.reader.proofs.theorems.long_texts_are_refused.Goals as goal

pub returns : goal.returns
returns c = long_texts_refused
