use Rattle.std.proofs.Common.{◌≡◌, ℕ, suc, length}
use Rattle.reader.specs.Text.{clauses}
use Rattle.reader.specs.Left.{left, size, drawn}
use Rattle.reader.specs.Continues.{Goes}
use Rattle.reader.proofs.clauses.read_clause.Given as goal

abbrev pub invariant-loop-numeral : goal.invariant-loop-numeral
invariant-loop-numeral l = (size l.words ≡ size l.initial.words) × ((drawn l.draft).clauses ≡ (drawn l.initial.draft).clauses) × ((c : ℕ) → Goes (size l.initial.words) (clauses (suc c)) (drawn l.initial.draft) (left l.initial.words) (clauses (suc c)) (drawn l.draft) (left l.words))

abbrev pub decreases-loop-numeral : goal.decreases-loop-numeral
decreases-loop-numeral l = length (left l.words)
