use Rattle.strategy.proofs.Proved.{step_lowers_potential}
use Rattle.strategy.proofs.theorems.a_step_lowers_the_potential.Goals as goal

pub returns : goal.returns
returns c = step_lowers_potential
