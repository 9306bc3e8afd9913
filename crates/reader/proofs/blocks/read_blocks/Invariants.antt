use Rattle.std.proofs.Common.{◌≡◌, length}
use Rattle.reader.specs.Text.{between}
use Rattle.reader.specs.Left.{left, size, drawn}
use Rattle.reader.specs.Continues.{Goes}
use Rattle.reader.proofs.blocks.read_blocks.Given as goal

abbrev pub invariant-loop-side : goal.invariant-loop-side
invariant-loop-side l = (size l.words ≡ size l.initial.words) × ((drawn l.draft).clauses ≡ (drawn l.initial.draft).clauses) × Goes (size l.initial.words) between (drawn l.initial.draft) (left l.initial.words) between (drawn l.draft) (left l.words)

abbrev pub decreases-loop-side : goal.decreases-loop-side
decreases-loop-side l = length (left l.words)
