use Rattle.std.proofs.Common.{◌≡◌, ◌+◌, ◌-◌, true, false, ◌++◌, length, get_or, take, drop, set, pos, nat_abs, sym, ap, ◌∙◌, arith, w32, SFits, rules}
use Rattle.std.proofs.lemmas.List.{length_push}
use Rattle.std.proofs.lemmas.Int.{to_z-of_z}
use Rattle.branching.specs.Search.{used}
use Rattle.branching.proofs.Uses.{used_skip, used_take, push_word}
use Rattle.branching.proofs.solve.write_used.Goals as goal
use Rattle.branching.proofs.solve.write_used.Goals.{then-marks-place_of, else-marks-place_of}

pub loop-x-preserved : goal.loop-x-preserved
loop-x-preserved c =
    let marks = c.args.marks.now in
    let xs = c.args.assumptions.now in
    let i = c.loop-x.x-index in
    let x = get_or xs i (pos 0) in
    let n = c.loop-x.n in
    let fits : SFits w32 (get_or xs i (pos 0)) = search rules in
    let place : c.place_of.result ≡ nat_abs x - 1 = simp to_z-of_z at c.place_of.ensures in
    let inv = c.loop-x.invariant in
    elim c.if-marks-place_of.branch [
      | then-marks-place_of w ↦
          let m : get_or marks (nat_abs x - 1) false ≡ true = ap (λ j. get_or marks j false) (sym place) ∙ w.if-marks-place_of.true in
          let more = used_take marks xs i c.loop-x-test.true m in
          let push = length_push (used marks (take i xs)) x in
          let long = ap length more in
          let n' = w.n-is in
          let first = inv.0 in
          let out' : c.if-marks-place_of.out ≡ set c.loop-x.out n x = w.out-is ∙ ap (set c.loop-x.out n) (to_z-of_z w32 x fits) in
          let word = push_word (used marks (take i xs)) c.args.out.now c.loop-x.out x n (sym inv.0) (omega arith) inv.2 in
          (omega arith, omega arith, out' ∙ word ∙ ap (λ l. l ++ drop (n + 1) c.args.out.now) (sym more) ∙ ap (λ k. used marks (take (i + 1) xs) ++ drop k c.args.out.now) (sym n'))
      | else-marks-place_of w ↦
          let m : get_or marks (nat_abs x - 1) false ≡ false = ap (λ j. get_or marks j false) (sym place) ∙ w.if-marks-place_of.false in
          let same = used_skip marks xs i c.loop-x-test.true m in
          let long = ap length same in
          let n' = w.n-is in
          let first = inv.0 in
          (omega arith, omega arith, w.out-is ∙ inv.2 ∙ ap (λ l. l ++ drop n c.args.out.now) (sym same) ∙ ap (λ k. used marks (take (i + 1) xs) ++ drop k c.args.out.now) (sym n'))
    ]
