use Rattle.strategy.proofs.Places.{sat_among}
use Rattle.strategy.proofs.theorems.the_order_of_records_does_not_matter.Goals as goal

pub returns : goal.returns
returns c = sat_among
