use Rattle.strategy.proofs.Proved.{verdict_is_right}
use Rattle.strategy.proofs.theorems.a_verdict_is_right.Goals as goal

pub returns : goal.returns
returns c = verdict_is_right
