use Rattle.strategy.proofs.Proved.{levels_stay}
use Rattle.strategy.proofs.theorems.levels_stay.Goals as goal

pub returns : goal.returns
returns c = levels_stay
