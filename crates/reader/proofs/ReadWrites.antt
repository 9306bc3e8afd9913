-- The grammar, of what the call of the reader returns.
use Rattle.std.proofs.Common.{◌≡◌, ℕ, List, Ok, Err, Result, sym, ◌∙◌, MatchResult}
use Rattle.formula.specs.declared.formula.Formula.{Formula}
use Rattle.formula.specs.Game.{Qbf}
use Rattle.formula.specs.Model.{qbf}
use Rattle.reader.specs.declared.faults.TextFault.{TextFault}
use Rattle.reader.specs.Text.{reads}
use Rattle.reader.specs.Left.{formula_in}
use Rattle.reader.specs.Grammar.{Writes}
use Rattle.reader.proofs.Traced.{no_fault}
use Rattle.reader.proofs.Writings.{read_is_written, written_is_read}

pub written_or_not : (t : List ℕ) (r : Result Formula TextFault) → formula_in r ≡ reads t → MatchResult r (λ f. Writes t (qbf f.parts)) (λ _. (q : Qbf) → Writes t q → ⊥)
written_or_not t (Ok f) e = read_is_written t (qbf f.parts) (sym e)
written_or_not t (Err x) e = λ q w. no_fault x q (e ∙ written_is_read t q w)
