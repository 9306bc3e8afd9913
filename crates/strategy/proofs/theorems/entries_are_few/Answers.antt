use Rattle.strategy.proofs.Proved.{entries_are_few}
use Rattle.strategy.proofs.theorems.entries_are_few.Goals as goal

pub returns : goal.returns
returns c = entries_are_few
