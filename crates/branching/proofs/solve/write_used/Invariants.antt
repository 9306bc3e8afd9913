use Rattle.std.proofs.Common.{◌≡◌, ◌≤◌, ◌++◌, length, take, drop}
use Rattle.branching.specs.Search.{used}
use Rattle.branching.proofs.solve.write_used.Given as goal

abbrev pub invariant-loop-x : goal.invariant-loop-x
invariant-loop-x l =
    (l.n ≡ length (used l.marks (take l.x-index l.assumptions))) × (l.n ≤ l.x-index)
    × (l.out ≡ used l.marks (take l.x-index l.assumptions) ++ drop l.n l.initial.out)
