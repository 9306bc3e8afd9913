use Rattle.strategy.proofs.Flats.{flat_moves}
use Rattle.strategy.proofs.theorems.a_move_after_one_list.Goals as goal

pub returns : goal.returns
returns c = flat_moves
