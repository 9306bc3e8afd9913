use Rattle.strategy.proofs.Numbers.{entry_read_back}
use Rattle.strategy.proofs.theorems.an_entry_is_read_back.Goals as goal

pub returns : goal.returns
returns c = entry_read_back
