use Rattle.strategy.proofs.Proved.{recorded_plan_decides}
use Rattle.strategy.proofs.theorems.a_winning_recorded_plan_decides_the_truth.Goals as goal

pub returns : goal.returns
returns c = recorded_plan_decides
