use Rattle.std.proofs.Common.{◌≡◌, ◌^◌, ◌<◌, drop}
use Rattle.reader.specs.Bytes.{read_on}
use Rattle.reader.proofs.bytes.digits.Given as goal

abbrev pub invariant-loop-b : goal.invariant-loop-b
invariant-loop-b l = (l.n < 10 ^ l.b-index) × (read_on l.n (drop l.b-index l.word) ≡ read_on 0 l.word)
