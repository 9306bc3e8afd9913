use Rattle.propagation.proofs.Weighing.{Seen}
use Rattle.propagation.proofs.status.weigh.Given as goal

abbrev pub invariant-loop-x : goal.invariant-loop-x
invariant-loop-x l = Seen l.values l.numbers l.x-index l.open
