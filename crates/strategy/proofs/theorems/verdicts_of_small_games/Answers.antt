use Rattle.strategy.proofs.SmallGames.{example_games}
use Rattle.strategy.proofs.theorems.verdicts_of_small_games.Goals as goal

pub returns : goal.returns
returns c = example_games
