use Rattle.strategy.proofs.Proved.{verdict_in_time}
use Rattle.strategy.proofs.theorems.a_verdict_comes_in_time.Goals as goal

pub returns : goal.returns
returns c = verdict_in_time
