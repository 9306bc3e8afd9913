use Rattle.strategy.proofs.Proved.{steps_are_bounded}
use Rattle.strategy.proofs.theorems.steps_are_bounded.Goals as goal

pub returns : goal.returns
returns c = steps_are_bounded
