use Rattle.std.proofs.Common.{arith}
use Rattle.reader.proofs.Readings.{ten_top}
use Rattle.reader.proofs.bytes.digits.Goals as goal

pub overflow_mul-n : goal.overflow_mul-n
overflow_mul-n c = omega (arith, ten_top c.loop-b.n c.loop-b.b-index 8 c.loop-b.invariant.0 (omega arith))

pub overflow_add-n : goal.overflow_add-n
overflow_add-n c = omega (arith, ten_top c.loop-b.n c.loop-b.b-index 8 c.loop-b.invariant.0 (omega arith))
