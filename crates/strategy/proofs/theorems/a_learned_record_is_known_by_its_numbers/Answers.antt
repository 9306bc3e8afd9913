use Rattle.strategy.proofs.Flats.{learned_by_numbers}
use Rattle.strategy.proofs.theorems.a_learned_record_is_known_by_its_numbers.Goals as goal

pub returns : goal.returns
returns c = learned_by_numbers
