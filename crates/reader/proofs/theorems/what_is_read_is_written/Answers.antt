use Rattle.reader.proofs.Writings.{reading_is_writing}
use Rattle.reader.proofs.theorems.what_is_read_is_written.Goals as goal

pub returns : goal.returns
returns c = reading_is_writing
