use Rattle.std.proofs.Common.{◌-◌, get_or, set, pos, refl, ◌∙◌, inl, inr, ⊎_elim, arith, w32, SFits, rules}
use Rattle.std.proofs.lemmas.List.{length-set}
use Rattle.std.proofs.lemmas.Int.{to_z-of_z}
use Rattle.pool.specs.Chains.{records_of}
use Rattle.propagation.specs.Rows.{at}
use Rattle.propagation.specs.Steps.{Forced}
use Rattle.propagation.proofs.Growing.{back_less}
use Rattle.propagation.proofs.Blocks.{shaped_unset, blocked_forced}
use Rattle.propagation.proofs.conflict.explain.Goals as goal

-- the signal was marked, and a record that forced it is found
pub loop-t-preserved-in-Some : goal.loop-t-preserved-in-Some
loop-t-preserved-in-Some c =
    let cs = records_of c.args.chain in
    let row = c.loop-t.values in
    let marks = c.loop-t.marks in
    let i = get_or c.args.trail.now (c.loop-t.t - 1) 0 in
    let long = length-set row i (pos 0) in
    let fits : SFits w32 (get_or row i (pos 0)) = search rules in
    let found = c.in-Some.ensures in
    let forced : Forced (set row i (pos 0)) c.in-Some.numbers.now (at row i) = simp to_z-of_z at found.1 in
    let grows = c.mark_signals.ensures.grows in (
      omega arith,
      omega arith,
      shaped_unset row i c.loop-t.invariant.2,
      back_less c.loop-t.t c.args.mark c.args.trail.now row (omega arith) ∙ c.loop-t.invariant.3,
      ⊎_elim
          (λ blocked. inl (blocked_forced cs marks c.mark_signals.new.marks row i (at row i) c.in-Some.numbers.now refl grows c.mark_signals.ensures.marked c.loop-t.invariant.2 found.0 forced found.2 blocked))
          (λ all. inr (λ k h. grows k (all k (omega arith))))
          c.loop-t.invariant.4,
    )
