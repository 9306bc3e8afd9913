use Rattle.strategy.proofs.Proved.{learned_sets_are_few}
use Rattle.strategy.proofs.theorems.learned_sets_are_few.Goals as goal

pub returns : goal.returns
returns c = learned_sets_are_few
