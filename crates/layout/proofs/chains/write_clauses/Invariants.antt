use Rattle.std.proofs.Common.{◌≡◌, length, drop}
use Rattle.formula.specs.Model.{qbf}
use Rattle.layout.specs.Laying.{laid, Enough}
use Rattle.layout.specs.Places.{laid_as}
use Rattle.layout.proofs.chains.write_clauses.Given as goal

abbrev pub invariant-loop-i : goal.invariant-loop-i
invariant-loop-i l =
    (laid (laid_as l.pool l.place) (drop l.i (qbf l.formula.parts).clauses) ≡ laid (laid_as l.initial.pool l.initial.place) (qbf l.formula.parts).clauses)
    × Enough (length l.initial.pool) (laid_as l.pool l.place) (drop l.i (qbf l.formula.parts).clauses)
