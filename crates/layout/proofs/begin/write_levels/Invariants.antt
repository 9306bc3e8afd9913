use Rattle.std.proofs.Common.{◌≡◌, length, drop}
use Rattle.formula.specs.Model.{qbf}
use Rattle.layout.specs.Laying.{laid_chains, EnoughChains}
use Rattle.layout.specs.Places.{laid_as}
use Rattle.layout.specs.Opening.{level_chains}
use Rattle.layout.specs.Opened.{new_levels, put_from}
use Rattle.layout.proofs.begin.write_levels.Given as goal

abbrev pub invariant-loop-m : goal.invariant-loop-m
invariant-loop-m l =
    (laid_chains (laid_as l.pool l.place) (level_chains (qbf l.formula.parts).clauses (qbf l.formula.parts).variables l.side (drop l.m (qbf l.formula.parts).levels))
    ≡ laid_chains (laid_as l.initial.pool l.initial.place) (level_chains (qbf l.formula.parts).clauses (qbf l.formula.parts).variables l.initial.side (qbf l.formula.parts).levels))
    × (put_from l.m (new_levels (qbf l.formula.parts).clauses (qbf l.formula.parts).variables (laid_as l.pool l.place) l.side (drop l.m (qbf l.formula.parts).levels)) l.levels
    ≡ put_from 0 (new_levels (qbf l.formula.parts).clauses (qbf l.formula.parts).variables (laid_as l.initial.pool l.initial.place) l.initial.side (qbf l.formula.parts).levels) l.initial.levels)
    × EnoughChains (length l.initial.pool) (laid_as l.pool l.place) (level_chains (qbf l.formula.parts).clauses (qbf l.formula.parts).variables l.side (drop l.m (qbf l.formula.parts).levels))
    × (length l.levels ≡ 32)
