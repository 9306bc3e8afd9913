use Rattle.std.proofs.Common.{◌≡◌, length, take}
use Rattle.formula.specs.Lists.{each, elem, below}
use Rattle.formula.specs.Model.{qbf, level_at}
use Rattle.layout.proofs.begin.level_flags.Given as goal

abbrev pub invariant-loop-v : goal.invariant-loop-v
invariant-loop-v l = (take l.v l.flag-items ≡ each (λ u. elem u (level_at (qbf l.formula.parts) l.level)) (below l.v)) × (length l.flag-items ≡ 257)
