use Rattle.std.proofs.Common.{◌≡◌, rules}
use Rattle.reader.specs.Text.{reads}
use Rattle.reader.specs.Left.{formula_in}
use Rattle.reader.proofs.ReadWrites.{written_or_not}
use Rattle.reader.proofs.text.read.Goals as goal

pub returns : goal.returns
returns c =
    let is : formula_in c.read_words.result ≡ reads c.args.text.now = search rules in
    record { result = is; writes = written_or_not c.args.text.now c.read_words.result is }
