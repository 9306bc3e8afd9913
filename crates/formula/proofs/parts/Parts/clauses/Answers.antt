use Rattle.std.proofs.Common.{sym}
use Rattle.formula.proofs.Arrays.{count_clauses}
use Rattle.formula.proofs.parts.Parts.clauses.Goals as goal

pub returns-clause-count : goal.returns-clause-count
returns-clause-count c = sym (count_clauses _ c.args.self.now.clauses)
