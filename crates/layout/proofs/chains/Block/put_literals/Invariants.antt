use Rattle.std.proofs.Common.{◌≡◌, ◌≤◌, length, take, nat_abs}
use Rattle.formula.specs.Lists.{keep, elem}
use Rattle.formula.specs.Model.{qbf, level_at}
use Rattle.layout.proofs.chains.Block.put_literals.Given as goal

abbrev pub invariant-loop-l : goal.invariant-loop-l
invariant-loop-l l = (l.buffer.items ≡ keep (λ x. elem (nat_abs x) (level_at (qbf l.self.formula.now.parts) l.self.level)) (take l.l-index l.literals)) × (length l.buffer.items ≤ l.l-index)
