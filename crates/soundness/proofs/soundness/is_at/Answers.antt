use Rattle.std.proofs.Common.{◌≡◌, nat_abs, sym, ap, ◌∙◌, inl, inr, arith, w32}
use Rattle.std.proofs.lemmas.Int.{to_z-of_z}
use Rattle.formula.specs.Lists.{elem}
use Rattle.formula.proofs.Looked.{elem_kept}
use Rattle.layout.specs.Shown.{binds_in, variables_at}
use Rattle.soundness.proofs.Rows.{elem_outside}
use Rattle.soundness.proofs.soundness.is_at.Goals as goal
use Rattle.soundness.proofs.soundness.is_at.Goals.{then-v-lt1-via-then-v-lt1, then-v-lt1-via-else-v-lt1+then-v-game}

pub returns-then-v-lt1 : goal.returns-then-v-lt1
returns-then-v-lt1 c =
    let g = c.args.game.now in
    let is : c.magnitude-v.result ≡ nat_abs c.args.literal = c.magnitude-v.ensures ∙ ap nat_abs (to_z-of_z w32 c.args.literal c.ranges.literal) in
    sym (elem_outside (binds_in g c.args.m) g.variables (nat_abs c.args.literal)
    (elim c.then-v-lt1.branch [ then-v-lt1-via-then-v-lt1 w ↦ inl (omega arith) | then-v-lt1-via-else-v-lt1+then-v-game w ↦ inr (omega arith) ]))

pub returns : goal.returns
returns c =
    let g = c.args.game.now in
    let is : c.magnitude-v.result ≡ nat_abs c.args.literal = c.magnitude-v.ensures ∙ ap nat_abs (to_z-of_z w32 c.args.literal c.ranges.literal) in
    sym (ap (λ v. elem v (variables_at g c.args.m)) (sym is) ∙ elem_kept (binds_in g c.args.m) 1 g.variables c.magnitude-v.result (omega arith) (omega arith))
