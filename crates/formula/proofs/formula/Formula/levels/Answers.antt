use Rattle.std.proofs.Common.{sym}
use Rattle.formula.specs.Found.{variables_of}
use Rattle.formula.proofs.Looked.{count_levels}
use Rattle.formula.proofs.formula.Formula.levels.Goals as goal

pub returns : goal.returns
returns c = record {
  value = sym (count_levels (variables_of c.args.self.now.parts.variables c.args.self.now.parts.bound) c.args.self.now.parts.levels);
  few = c.args.self.now.limits.1;
}
