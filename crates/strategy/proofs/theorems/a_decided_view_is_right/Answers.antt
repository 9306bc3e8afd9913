use Rattle.strategy.proofs.ViewVerdicts.{view_decided}
use Rattle.strategy.proofs.theorems.a_decided_view_is_right.Goals as goal

pub returns : goal.returns
returns c = view_decided
