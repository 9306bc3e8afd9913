use Rattle.strategy.proofs.Proved.{answer_makes_a_step}
use Rattle.strategy.proofs.theorems.an_answer_makes_a_step.Goals as goal

pub returns : goal.returns
returns c = answer_makes_a_step
