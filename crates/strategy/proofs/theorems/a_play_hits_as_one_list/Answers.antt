use Rattle.strategy.proofs.Places.{flat_hit}
use Rattle.strategy.proofs.theorems.a_play_hits_as_one_list.Goals as goal

pub returns : goal.returns
returns c = flat_hit
