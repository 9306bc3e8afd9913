use Rattle.strategy.proofs.Proved.{chain_unsatisfiable}
use Rattle.strategy.proofs.theorems.a_chain_is_unsatisfiable_as_nothing_meets_it.Goals as goal

pub returns : goal.returns
returns c = chain_unsatisfiable
