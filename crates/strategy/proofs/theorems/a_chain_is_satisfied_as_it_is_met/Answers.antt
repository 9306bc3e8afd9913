use Rattle.strategy.proofs.Proved.{chain_satisfied}
use Rattle.strategy.proofs.theorems.a_chain_is_satisfied_as_it_is_met.Goals as goal

pub returns : goal.returns
returns c = chain_satisfied
