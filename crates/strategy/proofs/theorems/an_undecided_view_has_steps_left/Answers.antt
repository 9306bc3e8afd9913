use Rattle.strategy.proofs.ViewVerdicts.{view_undecided}
use Rattle.strategy.proofs.theorems.an_undecided_view_has_steps_left.Goals as goal

pub returns : goal.returns
returns c = view_undecided
