use Rattle.std.proofs.Common.{◌≡◌, drop}
use Rattle.soundness.specs.Forms.{are_signals}
use Rattle.soundness.proofs.entries.are_signals.Given as goal

abbrev pub invariant-loop-x : goal.invariant-loop-x
invariant-loop-x l = are_signals l.side l.low l.top l.numbers ≡ are_signals l.side l.last l.top (drop l.x-index l.numbers)
