use Rattle.std.proofs.Common.{◌≡◌, ◌+◌, ◌≤◌, ◌↔◌, length, nat_abs}
use Rattle.formula.specs.Lists.{All}
use Rattle.formula.specs.Proper.{literals_of, Bound}
use Rattle.pool.specs.Records.{records}
use Rattle.pool.specs.Chains.{records_of}
use Rattle.layout.specs.Shown.{levels_of}
use Rattle.soundness.proofs.soundness.is_formula_sound.Given as goal

abbrev pub invariant-loop-clause : goal.invariant-loop-clause
invariant-loop-clause l =
    (l.clauses + length (records_of l.rest) ≡ length (records l.pool l.game.formula))
    × (l.literals + literals_of (records_of l.rest) ≡ literals_of (records l.pool l.game.formula))
    × (All (λ c. All (λ x. Bound (levels_of l.game) (nat_abs x)) c) (records l.pool l.game.formula) ↔ All (λ c. All (λ x. Bound (levels_of l.game) (nat_abs x)) c) (records_of l.rest))
    × (l.clauses ≤ l.game.clauses) × (l.literals ≤ 4096)

abbrev pub decreases-loop-clause : goal.decreases-loop-clause
decreases-loop-clause l = length (records_of l.rest)
