use Rattle.strategy.proofs.Numbers.{no_by_names}
use Rattle.strategy.proofs.theorems.a_no_is_read_off_its_names.Goals as goal

pub returns : goal.returns
returns c = no_by_names
