use Rattle.std.proofs.Common.{◌≡◌, length, drop}
use Rattle.formula.specs.Lists.{below}
use Rattle.formula.specs.Model.{qbf, level_at}
use Rattle.strategy.specs.Records.{gather}
use Rattle.layout.specs.Laying.{laid, Enough}
use Rattle.layout.specs.Places.{laid_as}
use Rattle.layout.specs.Opening.{clause_records, level_records}
use Rattle.layout.proofs.chains.Block.write.Given as goal

abbrev pub invariant-loop-clause : goal.invariant-loop-clause
invariant-loop-clause l =
    (laid (laid_as l.pool l.place) (gather (clause_records (qbf l.self.formula.now.parts).clauses (qbf l.self.formula.now.parts).variables l.self.side (level_at (qbf l.self.formula.now.parts) l.self.level) l.self.last) (drop l.clause (below (length (qbf l.self.formula.now.parts).clauses))))
    ≡ laid (laid_as l.initial.pool l.initial.place) (level_records (qbf l.self.formula.now.parts).clauses (qbf l.self.formula.now.parts).variables l.self.side (level_at (qbf l.self.formula.now.parts) l.self.level) l.self.last))
    × Enough (length l.initial.pool) (laid_as l.pool l.place) (gather (clause_records (qbf l.self.formula.now.parts).clauses (qbf l.self.formula.now.parts).variables l.self.side (level_at (qbf l.self.formula.now.parts) l.self.level) l.self.last) (drop l.clause (below (length (qbf l.self.formula.now.parts).clauses))))
