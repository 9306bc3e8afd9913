use Rattle.std.proofs.Common.{◌≡◌, ◌+◌, ◌*◌, ◌≤◌, drop}
use Rattle.formula.specs.Model.{qbf}
use Rattle.layout.specs.Laying.{words_for_chains}
use Rattle.layout.specs.Opening.{level_chains, words_needed}
use Rattle.layout.proofs.sizes.words_needed.Given as goal

abbrev pub invariant-loop-m : goal.invariant-loop-m
invariant-loop-m l =
    (l.total + words_for_chains (level_chains (qbf l.formula.parts).clauses (qbf l.formula.parts).variables l.side (drop l.m (qbf l.formula.parts).levels)) ≡ words_needed (qbf l.formula.parts))
    × (l.total ≤ 10240001 * (l.m + 1))
