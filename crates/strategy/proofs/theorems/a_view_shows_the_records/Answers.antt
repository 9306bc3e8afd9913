use Rattle.strategy.proofs.ViewGames.{view_records}
use Rattle.strategy.proofs.theorems.a_view_shows_the_records.Goals as goal

pub returns : goal.returns
returns c = view_records
