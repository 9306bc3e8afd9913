use Rattle.strategy.proofs.Proved.{game_ends}
use Rattle.strategy.proofs.theorems.every_game_ends.Goals as goal

pub returns : goal.returns
returns c = game_ends
