use Rattle.strategy.proofs.Proved.{answer_exists}
use Rattle.strategy.proofs.theorems.an_answer_exists.Goals as goal

pub returns : goal.returns
returns c = answer_exists
