use Rattle.calls.proofs.Kept.{law_of_all_runs}
use Rattle.calls.proofs.theorems.law_of_all_runs.Goals as goal

pub returns : goal.returns
returns c = law_of_all_runs
