use Rattle.plan.proofs.Moving.{recorded}
use Rattle.plan.proofs.move_laws.a_move_is_recorded.Goals as goal

pub returns : goal.returns
returns c = recorded
