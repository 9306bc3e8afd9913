use Rattle.std.proofs.Common.{◌-◌, length}
use Rattle.branching.proofs.search.+search.Given as goal

abbrev pub decreases-search : goal.decreases-search
decreases-search l = length l.values.now - l.mark
