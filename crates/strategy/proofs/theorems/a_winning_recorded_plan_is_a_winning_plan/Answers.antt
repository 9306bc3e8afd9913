use Rattle.strategy.proofs.Proved.{recorded_plan_is_a_plan}
use Rattle.strategy.proofs.theorems.a_winning_recorded_plan_is_a_winning_plan.Goals as goal

pub returns : goal.returns
returns c = recorded_plan_is_a_plan
