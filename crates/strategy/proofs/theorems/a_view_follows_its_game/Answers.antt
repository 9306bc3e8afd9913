use Rattle.strategy.proofs.ViewGames.{view_follows}
use Rattle.strategy.proofs.theorems.a_view_follows_its_game.Goals as goal

pub returns : goal.returns
returns c = view_follows
