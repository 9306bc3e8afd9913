use Rattle.std.proofs.Common.{◌≡◌, ◌++◌, drop}
use Rattle.engine.specs.Meaning.{values}
use Rattle.engine.specs.Count.{numbered}
use Rattle.engine.proofs.counting.write_values.Given as goal

abbrev pub invariant-loop-k : goal.invariant-loop-k
invariant-loop-k l = l.word-items ≡ values (numbered l.s l.n) l.k ++ drop l.k l.initial.word-items
