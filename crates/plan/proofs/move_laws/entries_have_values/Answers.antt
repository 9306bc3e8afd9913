use Rattle.plan.proofs.Moving.{values_of_entries}
use Rattle.plan.proofs.move_laws.entries_have_values.Goals as goal

pub returns : goal.returns
returns c = values_of_entries
