use Rattle.std.proofs.Common.{arith}
use Rattle.formula.proofs.ProperFormula.{proper}
use Rattle.layout.proofs.chains.Block.put_record.Goals as goal

pub t_signal-requires : goal.t_signal-requires
t_signal-requires c = let few = (proper c.args.self.now.formula.now).few_clauses in (c.variables-variables.ensures.few, omega arith)
