use Rattle.std.proofs.Common.{ℕ, Bool, false, get_or, arith}
use Rattle.formula.proofs.Looked.{count_here, count_past}
use Rattle.layout.proofs.levels.count_flags.Goals as goal

pub loop-v-preserved-then-not-flags-v : goal.loop-v-preserved-then-not-flags-v
loop-v-preserved-then-not-flags-v c =
    let p : ℕ → Bool = λ u. get_or c.args.flags.now u false in
    (count_past p c.loop-v.v c.args.variables c.loop-v.count _ (omega arith) c.if-not-flags-v.true c.loop-v.invariant.0, omega (arith, c.loop-v.invariant.1))

pub loop-v-preserved : goal.loop-v-preserved
loop-v-preserved c =
    let p : ℕ → Bool = λ u. get_or c.args.flags.now u false in
    (count_here p c.loop-v.v c.args.variables c.loop-v.count _ (omega arith) c.if-not-flags-v.false c.loop-v.invariant.0, omega (arith, c.loop-v.invariant.1))
