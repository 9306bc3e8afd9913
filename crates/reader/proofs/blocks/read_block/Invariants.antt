use Rattle.std.proofs.Common.{◌≡◌, ◌≤◌, length}
use Rattle.reader.specs.Text.{in_block}
use Rattle.reader.specs.Left.{left, size, drawn}
use Rattle.reader.specs.Continues.{Goes}
use Rattle.reader.proofs.blocks.read_block.Given as goal

abbrev pub invariant-loop-numeral : goal.invariant-loop-numeral
invariant-loop-numeral l = (size l.words ≡ size l.initial.words) × ((drawn l.draft).clauses ≡ (drawn l.initial.draft).clauses) × Goes (size l.initial.words) in_block (drawn l.initial.draft) (left l.initial.words) in_block (drawn l.draft) (left l.words) × (length (left l.words) ≤ length (left l.initial.words))

abbrev pub decreases-loop-numeral : goal.decreases-loop-numeral
decreases-loop-numeral l = length (left l.words)
