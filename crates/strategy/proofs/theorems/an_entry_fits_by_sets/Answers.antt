use Rattle.strategy.proofs.Places.{fits_by_sets}
use Rattle.strategy.proofs.theorems.an_entry_fits_by_sets.Goals as goal

pub returns : goal.returns
returns c = fits_by_sets
