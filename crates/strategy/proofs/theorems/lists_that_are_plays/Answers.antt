use Rattle.strategy.proofs.Flats.{flat_plays}
use Rattle.strategy.proofs.theorems.lists_that_are_plays.Goals as goal

pub returns : goal.returns
returns c = flat_plays
