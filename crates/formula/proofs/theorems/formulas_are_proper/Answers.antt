use Rattle.formula.proofs.ProperFormula.{proper}
use Rattle.formula.proofs.theorems.formulas_are_proper.Goals as goal

pub returns : goal.returns
returns c = proper c.args.formula.now
