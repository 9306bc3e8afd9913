use Rattle.std.proofs.Common.{refl, arith}
use Rattle.pool.proofs.Chains.{linked_step}
use Rattle.pool.proofs.soundness.is_sound.Goals as goal

pub loop-p-preserved : goal.loop-p-preserved
loop-p-preserved c =
    let pool = c.args.pool.now in
    let step = linked_step c.args.s pool c.args.used c.loop-p.p (omega arith) in
    let whole = c.if-not-is_whole.ensures.0 refl in
    rw c.next-p.ensures
    (c.loop-p.invariant.0, ((λ l. (step.0 (c.loop-p.invariant.1.0 l)).1), (λ l. c.loop-p.invariant.1.1 (step.1 (whole, l)))))
