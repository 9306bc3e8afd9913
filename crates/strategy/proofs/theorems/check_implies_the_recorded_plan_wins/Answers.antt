use Rattle.strategy.proofs.Proved.{check_implies_wins}
use Rattle.strategy.proofs.theorems.check_implies_the_recorded_plan_wins.Goals as goal

pub returns : goal.returns
returns c = check_implies_wins
