use Rattle.std.proofs.Common.{◌≡◌, ◌-◌, ◌<◌, true, false, ◌&&◌, length, get_or, set, pos, sym, refl, ap, ◌∙◌, ⊎_elim, arith, w32, SFits, rules}
use lib.Signed.{lt_z}
use Rattle.std.proofs.lemmas.List.{length-set, get_or-set_same, get_or-set_other}
use Rattle.std.proofs.lemmas.Int.{to_z-of_z}
use Rattle.std.proofs.lemmas.Bool.{cases_lt}
use Rattle.rules.proofs.Chosen.{none_set, same_flags}
use Rattle.rules.proofs.values.read_level_values.Goals as goal

pub loop-v-init : goal.loop-v-init
loop-v-init c = (λ u low high. absurd (omega arith), λ u low. none_set 257 u, λ u high. none_set 257 u, refl)

pub loop-v-preserved-then-not-flags-v : goal.loop-v-preserved-then-not-flags-v
loop-v-preserved-then-not-flags-v c =
    let v = c.loop-v.v in
    let past : get_or c.args.flags.now v false ≡ false = c.if-not-flags-v.true in (
      (λ u low high. ⊎_elim (c.loop-v.invariant.0 u low)
          (λ k. let e : u ≡ v = omega arith in
          c.loop-v.invariant.2 u (omega arith) ∙ sym (ap (λ b. b && lt_z (pos 0) (get_or c.args.words.now (v - 1) (pos 0))) past)
          ∙ ap (λ w. get_or c.args.flags.now w false && lt_z (pos 0) (get_or c.args.words.now (w - 1) (pos 0))) (sym e))
          (cases_lt u v)),
      c.loop-v.invariant.1,
      (λ u high. c.loop-v.invariant.2 u (omega arith)),
      c.loop-v.invariant.3,
    )

pub loop-v-preserved : goal.loop-v-preserved
loop-v-preserved c =
    let v = c.loop-v.v in
    let r = c.is_positive.result in
    let fits : SFits w32 (get_or c.args.words.now (c.loop-v.v - 1) (pos 0)) = search rules in
    let is : r ≡ lt_z (pos 0) (get_or c.args.words.now (v - 1) (pos 0)) = c.is_positive.ensures ∙ ap (lt_z (pos 0)) (to_z-of_z w32 (get_or c.args.words.now (v - 1) (pos 0)) fits) in
    let room : v < length c.loop-v.values = omega (arith, c.loop-v.invariant.3, c.requires.0) in
    let flagged : get_or c.args.flags.now v false ≡ true = c.if-not-flags-v.false in (
      (λ u low high. ⊎_elim
          (λ k. get_or-set_other c.loop-v.values v u r false (λ e. omega arith) ∙ c.loop-v.invariant.0 u low k)
          (λ k. let e : u ≡ v = omega arith in
          ap (λ w. get_or (set c.loop-v.values v r) w false) e ∙ get_or-set_same c.loop-v.values v r false room ∙ is
          ∙ sym (ap (λ b. b && lt_z (pos 0) (get_or c.args.words.now (v - 1) (pos 0))) flagged)
          ∙ ap (λ w. get_or c.args.flags.now w false && lt_z (pos 0) (get_or c.args.words.now (w - 1) (pos 0))) (sym e))
          (cases_lt u v)),
      (λ u low. get_or-set_other c.loop-v.values v u r false (λ e. omega arith) ∙ c.loop-v.invariant.1 u low),
      (λ u high. get_or-set_other c.loop-v.values v u r false (λ e. omega arith) ∙ c.loop-v.invariant.2 u (omega arith)),
      length-set c.loop-v.values v r ∙ c.loop-v.invariant.3,
    )

pub returns : goal.returns
returns c =
    same_flags (λ v. lt_z (pos 0) (get_or c.args.words.now (v - 1) (pos 0))) (λ v. get_or c.args.flags.now v false) c.args.variables c.loop-v.values c.loop-v.invariant.3
    c.loop-v.invariant.1 (λ v low high. c.loop-v.invariant.0 v low (omega arith)) (λ v high. c.loop-v.invariant.2 v (omega arith))
