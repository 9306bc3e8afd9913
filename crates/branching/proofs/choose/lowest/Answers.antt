use Rattle.std.proofs.Common.{◌≡◌, ◌-◌, length, get_or, pos, nat_abs, sym, ap, ◌∙◌, le_trans, arith, w32, SFits, of_z, rules, below_more}
use Rattle.std.proofs.ByRecursion.{All-get_or}
use Rattle.std.proofs.lemmas.Int.{to_z-of_z}
use Rattle.pool.specs.Records.{Literal}
use Rattle.propagation.specs.Rows.{word_of}
use Rattle.propagation.proofs.Signs.{abs_from_bits, bits_from_abs}
use Rattle.branching.proofs.Choosing.{Lower, lower_place, found_more, found_lower}
use Rattle.branching.proofs.choose.lowest.Goals as goal
use Rattle.branching.proofs.choose.lowest.Goals.{then-value-eq0, else-value-eq0}

pub loop-x-preserved : goal.loop-x-preserved
loop-x-preserved c =
    let row = c.args.values.now in
    let xs = c.args.numbers.now in
    let i = c.loop-x.x-index in
    let x = get_or xs i (pos 0) in
    let fits : SFits w32 (get_or xs i (pos 0)) = search rules in
    let fits' : SFits w32 c.value_of-value.result = search rules in
    let named : Literal (length row) x = All-get_or (Literal (length row)) xs i (pos 0) c.loop-x-test.true c.requires in
    let first = named.0 in
    let last = named.1 in
    let is : c.value_of-value.result ≡ word_of row x = simp to_z-of_z at c.value_of-value.ensures in
    let other : word_of row x ≡ x → ⊥ = λ e. c.if-value-x.false (ap (of_z w32) (is ∙ e)) in
    elim c.if-value-eq0.branch [
      | then-value-eq0 w ↦
          let open' : nat_abs (word_of row x) ≡ 0 = ap nat_abs (sym is) ∙ abs_from_bits c.value_of-value.result fits' w.if-value-eq0.true in
          let place : w.place_of-place.result ≡ nat_abs x - 1 = simp to_z-of_z at w.place_of-place.ensures in
          let new' : Lower c.loop-x.low w.place_of-place.result w.map_or.result = search rules in
          let new : Lower c.loop-x.low (nat_abs x - 1) w.map_or.result = rw place at new' in
          let lower = lower_place row c.loop-x.low (nat_abs x - 1) w.map_or.result (omega arith) new in
          let found = found_lower row xs c.args.best c.loop-x.low i w.map_or.result (omega arith) open' new c.loop-x.invariant.1 in
          rw w.low-is (
            le_trans lower.0 c.loop-x.invariant.0,
            found,
            below_more _ _ (λ k h e. le_trans lower.0 (c.loop-x.invariant.2 k h e)) (λ e. lower.1),
            below_more _ _ c.loop-x.invariant.3 other,
          )
      | else-value-eq0 w ↦
          let shut : nat_abs (word_of row x) ≡ 0 → ⊥ = λ e. w.if-value-eq0.false (bits_from_abs c.value_of-value.result (ap nat_abs is ∙ e)) in
          rw w.low-is (c.loop-x.invariant.0, found_more row xs c.args.best c.loop-x.low i c.loop-x.invariant.1, below_more _ _ c.loop-x.invariant.2 (λ e. absurd (shut e)), below_more _ _ c.loop-x.invariant.3 other)
    ]
