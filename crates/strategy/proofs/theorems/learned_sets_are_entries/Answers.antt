use Rattle.strategy.proofs.Proved.{learned_sets_are_entries}
use Rattle.strategy.proofs.theorems.learned_sets_are_entries.Goals as goal

pub returns : goal.returns
returns c = learned_sets_are_entries
