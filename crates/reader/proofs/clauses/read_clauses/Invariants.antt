use Rattle.std.proofs.Common.{◌≡◌, ◌+◌, ◌-◌, length}
use Rattle.reader.specs.Text.{clauses}
use Rattle.reader.specs.Left.{left, size, drawn}
use Rattle.reader.specs.Continues.{Goes}
use Rattle.reader.proofs.clauses.read_clauses.Given as goal

abbrev pub invariant-loop-i : goal.invariant-loop-i
invariant-loop-i l = (size l.words ≡ size l.initial.words) × (length (drawn l.draft).clauses ≡ length (drawn l.initial.draft).clauses + l._i) × Goes (size l.initial.words) (clauses l.count) (drawn l.initial.draft) (left l.initial.words) (clauses (l.count - l._i)) (drawn l.draft) (left l.words)
