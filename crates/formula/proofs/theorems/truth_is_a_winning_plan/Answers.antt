use Rattle.formula.proofs.theorems.truth_is_a_winning_plan.Goals as goal
use Rattle.formula.proofs.Decides.{truth_is_a_winning_plan}

pub returns : goal.returns
returns c = truth_is_a_winning_plan
