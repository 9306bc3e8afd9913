use Rattle.std.proofs.Common.{◌≡◌, length, drop, nat_abs}
use Rattle.formula.specs.Lists.{keep, elem, each}
use Rattle.formula.specs.Model.{qbf, level_at}
use Rattle.layout.specs.Laying.{laid, Enough}
use Rattle.layout.specs.Places.{laid_as}
use Rattle.layout.specs.Opening.{device_record}
use Rattle.layout.proofs.chains.Block.write_device.Given as goal

abbrev pub invariant-loop-l : goal.invariant-loop-l
invariant-loop-l l =
    (laid (laid_as l.pool l.place) (each (device_record (qbf l.self.formula.now.parts).clauses (qbf l.self.formula.now.parts).variables l.clause) (keep (λ x. elem (nat_abs x) (level_at (qbf l.self.formula.now.parts) l.self.level)) (drop l.l-index l.literals)))
    ≡ laid (laid_as l.initial.pool l.initial.place) (each (device_record (qbf l.self.formula.now.parts).clauses (qbf l.self.formula.now.parts).variables l.clause) (keep (λ x. elem (nat_abs x) (level_at (qbf l.self.formula.now.parts) l.self.level)) l.literals)))
    × Enough (length l.initial.pool) (laid_as l.pool l.place) (each (device_record (qbf l.self.formula.now.parts).clauses (qbf l.self.formula.now.parts).variables l.clause) (keep (λ x. elem (nat_abs x) (level_at (qbf l.self.formula.now.parts) l.self.level)) (drop l.l-index l.literals)))
