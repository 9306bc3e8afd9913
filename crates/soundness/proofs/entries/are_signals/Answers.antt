use Rattle.std.proofs.Common.{◌≡◌, ◌+◌, false, get_or, drop, pos, nat_abs, sym, ap, ◌∙◌, arith, w32, SFits, rules}
use Rattle.std.proofs.lemmas.Int.{to_z-of_z}
use Rattle.soundness.specs.Forms.{are_signals}
use Rattle.soundness.proofs.Forming.{signals_more, signals_sign, signals_low, signals_high}
use Rattle.soundness.proofs.entries.are_signals.Goals as goal
use Rattle.soundness.proofs.entries.are_signals.Goals.{then-not-is_signed-via-then-not-is_signed, then-not-is_signed-via-else-not-is_signed+then-signal-last, then-not-is_signed-via-else-not-is_signed+else-signal-last+then-signal-top}

pub returns-then-not-is_signed : goal.returns-then-not-is_signed
returns-then-not-is_signed c =
    let xs = c.args.numbers.now in
    let i = c.loop-x.x-index in
    let fits : SFits w32 (get_or c.args.numbers.now c.loop-x.x-index (pos 0)) = search rules in
    let is : c.unsigned_abs-signal.result ≡ nat_abs (get_or xs i (pos 0)) = simp to_z-of_z at c.unsigned_abs-signal.ensures.value in
    let fails : are_signals c.args.side c.loop-x.last c.args.top (drop i xs) ≡ false =
    elim c.then-not-is_signed.branch [
      | then-not-is_signed-via-then-not-is_signed w ↦ signals_sign c.args.side c.loop-x.last c.args.top xs i c.loop-x-test.true (sym (simp to_z-of_z at w.if-not-is_signed.ensures))
      | then-not-is_signed-via-else-not-is_signed+then-signal-last w ↦ signals_low c.args.side c.loop-x.last c.args.top xs i c.loop-x-test.true (omega arith)
      | then-not-is_signed-via-else-not-is_signed+else-signal-last+then-signal-top w ↦ signals_high c.args.side c.loop-x.last c.args.top xs i c.loop-x-test.true (omega arith)
    ] in
    sym (c.loop-x.invariant ∙ fails)

pub loop-x-preserved : goal.loop-x-preserved
loop-x-preserved c =
    let xs = c.args.numbers.now in
    let i = c.loop-x.x-index in
    let fits : SFits w32 (get_or c.args.numbers.now c.loop-x.x-index (pos 0)) = search rules in
    let is : c.unsigned_abs-signal.result ≡ nat_abs (get_or xs i (pos 0)) = simp to_z-of_z at c.unsigned_abs-signal.ensures.value in
    c.loop-x.invariant
    ∙ signals_more c.args.side c.loop-x.last c.args.top xs i c.loop-x-test.true (sym (simp to_z-of_z at c.if-not-is_signed.ensures)) (omega arith) (omega arith)
    ∙ ap (λ l. are_signals c.args.side l c.args.top (drop (i + 1) xs)) (sym is)
