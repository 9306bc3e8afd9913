use Rattle.plan.proofs.Moving.{plays_taken}
use Rattle.plan.proofs.move_laws.plays_are_taken.Goals as goal

pub returns : goal.returns
returns c = plays_taken
