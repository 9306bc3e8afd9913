use Rattle.std.proofs.Common.{◌≡◌, ℕ, ◌<◌, ◌≤◌, false, [], length, get_or}
use Rattle.formula.specs.Game.{hits}
use Rattle.formula.specs.Backward.{turned}
use Rattle.pool.specs.Chains.{records_of}
use Rattle.layout.specs.Viewed.{clauses_of}
use Rattle.plan.proofs.plays.satisfied.Given as goal

-- the clauses that are left are the first so many, and those behind are marked
abbrev pub invariant-loop-i : goal.invariant-loop-i
invariant-loop-i l =
    (l.i-iterator.a.iter.start ≡ 0)
    × (l.i-iterator.a.iter.end ≡ length (records_of l.i-iterator.b))
    × ((j : ℕ) → j < length (records_of l.i-iterator.b) → get_or (turned (records_of l.i-iterator.b)) j [] ≡ get_or (clauses_of l.game l.pool) j [])
    × ((j : ℕ) → l.i-iterator.a.iter.end ≤ j → j < l.game.clauses → get_or l.hit j false ≡ hits (clauses_of l.game l.pool) l.play j)
    × (length l.hit ≡ 512) × (l.i-iterator.a.iter.end ≤ l.game.clauses)
