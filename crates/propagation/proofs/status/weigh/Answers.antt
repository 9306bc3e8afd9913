use Rattle.std.proofs.Common.{◌≡◌, length, get_or, pos, nat_abs, Some, sym, ap, ◌∙◌, w32, SFits, of_z, rules}
use Rattle.std.proofs.ByRecursion.{All-get_or}
use Rattle.std.proofs.lemmas.Int.{to_z-of_z}
use Rattle.pool.specs.Records.{Literal}
use Rattle.propagation.specs.Rows.{word_of}
use Rattle.propagation.proofs.Signs.{abs_from_bits, bits_from_abs}
use Rattle.propagation.proofs.Weighing.{seen_false, seen_open}
use Rattle.propagation.proofs.status.weigh.Goals as goal
use Rattle.propagation.proofs.status.weigh.Goals.{then-value-eq0+else-is_some, else-value-eq0}

pub loop-x-preserved : goal.loop-x-preserved
loop-x-preserved c =
    let row = c.args.values.now in
    let xs = c.args.numbers.now in
    let i = c.loop-x.x-index in
    let x = get_or xs i (pos 0) in
    let fits : SFits w32 (get_or xs i (pos 0)) = search rules in
    let fits' : SFits w32 c.value_of-value.result = search rules in
    let named : Literal (length row) x = All-get_or (Literal (length row)) xs i (pos 0) c.loop-x-test.true c.requires in
    let is : c.value_of-value.result ≡ word_of row x = simp to_z-of_z at c.value_of-value.ensures in
    elim c.if-value-eq0.branch [
      | then-value-eq0+else-is_some w ↦
          let open' : nat_abs (word_of row x) ≡ 0 = ap nat_abs (sym is) ∙ abs_from_bits c.value_of-value.result fits' w.if-value-eq0.true in
          let held : c.if-value-eq0.open ≡ Some x = w.open-is ∙ ap Some (to_z-of_z w32 x fits) in
          rw held (seen_open row xs i c.loop-x.open (sym w.is_some.ensures ∙ w.if-is_some.false) named open' c.loop-x.invariant)
      | else-value-eq0 w ↦
          let shut : nat_abs (word_of row x) ≡ 0 → ⊥ = λ e. w.if-value-eq0.false (bits_from_abs c.value_of-value.result (ap nat_abs is ∙ e)) in
          let other : word_of row x ≡ x → ⊥ = λ e. c.if-value-x.false (ap (of_z w32) (is ∙ e)) in
          rw w.open-is (seen_false row xs i c.loop-x.open (other, shut) c.loop-x.invariant)
    ]
