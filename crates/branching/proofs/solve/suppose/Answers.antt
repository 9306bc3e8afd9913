use Rattle.std.proofs.Common.{◌≡◌, ℕ, ◌-◌, ◌≤◌, Bool, true, length, get_or, set, pos, nat_abs, sym, refl, ap, ◌∙◌, subst, inl, arith, w32, SFits, of_z, rules, below_more}
use Rattle.std.proofs.ByRecursion.{All-get_or}
use Rattle.std.proofs.lemmas.Int.{to_z-of_z}
use Rattle.std.proofs.lemmas.List.{length-set, get_or-set_same}
use Rattle.std.proofs.lemmas.List.Recursion.{and_from_places}
use Rattle.pool.specs.Records.{Literal}
use Rattle.engine.specs.Truth.{literal, each}
use Rattle.propagation.specs.Rows.{at, word_of, opens}
use Rattle.branching.specs.Search.{used}
use Rattle.propagation.proofs.Signs.{same_from_bits, abs_from_bits, bits_from_abs}
use Rattle.propagation.proofs.Growing.{shaped_set, opens_set, opens_pos, agrees_unset}
use Rattle.branching.proofs.Supposing.{opens_zeros, zeros_at, agrees_true, source_set, source_more, apart_used}
use Rattle.branching.proofs.solve.suppose.Goals as goal
use Rattle.branching.proofs.solve.suppose.Goals.{then-value-eq0, else-value-eq0+else-value-x}

pub loop-x-init : goal.loop-x-init
loop-x-init c =
    let row = c.args.values.now in
    let zeros = zeros_at row c.requires.1.0 in
    let all : opens row ≡ length row = ap opens c.requires.1.0 ∙ opens_zeros (length row) in (
      (λ i h. inl (zeros i h)),
      omega arith,
      (λ i h e. let z = zeros i h in absurd (omega arith)),
      (λ a agrees k h. absurd (omega arith)),
    )

pub assign-requires : goal.assign-requires
assign-requires c =
    let row = c.loop-x.values in
    let x = get_or c.args.assumptions.now c.loop-x.x-index (pos 0) in
    let fits : SFits w32 (get_or c.args.assumptions.now c.loop-x.x-index (pos 0)) = search rules in
    let fits' : SFits w32 c.value_of-value.result = search rules in
    let named = All-get_or (Literal (length c.args.values.now)) c.args.assumptions.now c.loop-x.x-index (pos 0) c.loop-x-test.true c.requires.0 in
    let low = named.0 in
    let high = named.1 in
    let is : c.value_of-value.result ≡ word_of row x = simp to_z-of_z at c.value_of-value.ensures in
    let open' : nat_abs (at row (nat_abs x - 1)) ≡ 0 = ap nat_abs (sym is) ∙ abs_from_bits c.value_of-value.result fits' c.if-value-eq0.true in
    let some = opens_pos row (nat_abs x - 1) (omega arith) open' in
    let counted = c.loop-x.invariant.1 in
    simp to_z-of_z ((low, omega arith), omega arith)

pub returns-then-value-x : goal.returns-then-value-x
returns-then-value-x c =
    let row = c.loop-x.values in
    let xs = c.args.assumptions.now in
    let i = c.loop-x.x-index in
    let x = get_or xs i (pos 0) in
    let fits : SFits w32 (get_or xs i (pos 0)) = search rules in
    let fits' : SFits w32 c.value_of-value.result = search rules in
    let named = All-get_or (Literal (length c.args.values.now)) xs i (pos 0) c.loop-x-test.true c.requires.0 in
    let low = named.0 in
    let high = named.1 in
    let named' : Literal (length row) x = (low, omega arith) in
    let is : c.value_of-value.result ≡ word_of row x = simp to_z-of_z at c.value_of-value.ensures in
    let shut : nat_abs (word_of row x) ≡ 0 → ⊥ = λ e. c.if-value-eq0.false (bits_from_abs c.value_of-value.result (ap nat_abs is ∙ e)) in
    let other : word_of row x ≡ x → ⊥ = λ e. c.if-value-x.true (ap (of_z w32) (is ∙ e)) in
    let place : c.place_of.result ≡ nat_abs x - 1 = simp to_z-of_z at c.place_of.ensures in
    subst (λ (j : ℕ). (a : ℕ → Bool) → each a (used (set c.loop-x.marks j true) xs) ≡ true → ⊥) (sym place)
    (apart_used c.loop-x.marks row xs i c.loop-x-test.true (omega arith) c.loop-x.invariant.0 named' (other, shut) c.loop-x.invariant.2)

pub loop-x-preserved : goal.loop-x-preserved
loop-x-preserved c =
    let row = c.loop-x.values in
    let xs = c.args.assumptions.now in
    let i = c.loop-x.x-index in
    let x = get_or xs i (pos 0) in
    let fits : SFits w32 (get_or xs i (pos 0)) = search rules in
    let fits' : SFits w32 c.value_of-value.result = search rules in
    let named = All-get_or (Literal (length c.args.values.now)) xs i (pos 0) c.loop-x-test.true c.requires.0 in
    let low = named.0 in
    let high : nat_abs x ≤ length row = omega (arith, named.1) in
    let counted = c.loop-x.invariant.1 in
    let is : c.value_of-value.result ≡ word_of row x = simp to_z-of_z at c.value_of-value.ensures in
    elim c.if-value-eq0.branch [
      | then-value-eq0 w ↦
          let open' : nat_abs (word_of row x) ≡ 0 = ap nat_abs (sym is) ∙ abs_from_bits c.value_of-value.result fits' w.if-value-eq0.true in
          let now' : c.if-value-eq0.values ≡ set row (nat_abs x - 1) x = w.values-is ∙ (simp to_z-of_z at w.assign.ensures.row) in
          let top' = w.top-is in
          let long = length-set row (nat_abs x - 1) x in
          let fewer = opens_set row (nat_abs x - 1) x (omega arith) open' (λ bad. omega arith) in
          rw now' (
            shaped_set row (nat_abs x - 1) x (omega arith) (omega arith) c.loop-x.invariant.0,
            omega arith,
            source_set row xs i x (omega arith) refl c.loop-x.invariant.2,
            (λ a agrees.
                let before = agrees_unset row a (nat_abs x - 1) x open' agrees in
                below_more _ _ (c.loop-x.invariant.3 a before)
                (agrees_true (set row (nat_abs x - 1) x) a x (low, omega arith) agrees (get_or-set_same row (nat_abs x - 1) x (pos 0) (omega arith)))),
          )
      | else-value-eq0+else-value-x w ↦
          let same : word_of row x ≡ x = sym is ∙ same_from_bits c.value_of-value.result x fits' fits w.if-value-x.false in
          let top' = w.top-is in
          rw w.values-is (
            c.loop-x.invariant.0,
            omega arith,
            source_more row xs i c.loop-x.invariant.2,
            (λ a agrees. below_more _ _ (c.loop-x.invariant.3 a agrees) (agrees_true row a x (low, high) agrees same)),
          )
    ]

pub returns : goal.returns
returns c =
    let xs = c.args.assumptions.now in (
      c.loop-x.invariant.0,
      c.loop-x.invariant.1,
      (λ i h e. let from = c.loop-x.invariant.2 i h e in let below = from.1 in (from.0, omega arith, from.2)),
      (λ a agrees. and_from_places (each a) (literal a) refl (λ _ _. refl) xs (pos 0) (λ k h. c.loop-x.invariant.3 a agrees k (omega arith))),
    )
