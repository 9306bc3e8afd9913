use Rattle.std.proofs.Common.{◌≡◌, ◌+◌, ◌*◌, ◌≤◌, drop}
use Rattle.formula.specs.Model.{qbf}
use Rattle.layout.specs.Laying.{words_for}
use Rattle.layout.proofs.sizes.formula_words.Given as goal

abbrev pub invariant-loop-i : goal.invariant-loop-i
invariant-loop-i l = (l.total + words_for (drop l.i (qbf l.formula.parts).clauses) ≡ words_for (qbf l.formula.parts).clauses) × (l.total ≤ 20000 * l.i)
