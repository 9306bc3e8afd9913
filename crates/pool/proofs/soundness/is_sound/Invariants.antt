use Rattle.std.proofs.Common.{◌≤◌, ◌↔◌, length}
use Rattle.pool.specs.Records.{Linked}
use Rattle.pool.proofs.soundness.is_sound.Given as goal

abbrev pub invariant-loop-p : goal.invariant-loop-p
invariant-loop-p l = (l.used ≤ length l.pool) × (Linked l.head l.s l.pool l.used l.head ↔ Linked l.p l.s l.pool l.used l.p)

abbrev pub decreases-loop-p : goal.decreases-loop-p
decreases-loop-p l = l.p
