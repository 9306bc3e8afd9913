use Rattle.std.proofs.Common.{◌≡◌, suc, ◌-◌, length, take, sym, ap, ◌∙◌, subst, arith}
use native.Mathlib.Nat.{sub-zero}
use Rattle.std.proofs.lemmas.List.{length-take-le}
use Rattle.std.proofs.lemmas.Bool.{cond-false, le-ltb}
use Rattle.layout.specs.Table.{level_of}
use Rattle.rules.specs.Naming.{Names}
use Rattle.rules.specs.Changes.{changed, said, values_said, Marked}
use Rattle.rules.specs.Spare.{Readable}
use Rattle.rules.proofs.answers.apply.Goals as goal

pub give_back-requires : goal.give_back-requires
give_back-requires c =
    let g = c.args.game.now in
    let words = c.args.words.now in
    let n = c.in_default-default-No.field-0-2 in
    let later = c.if-m-eq0.false in
    let readable = subst (λ a. Readable g a words) c.in_default-default-No.is-2 c.requires.1.1 in
    let long : length (take (n - 0) words) ≡ n = ap (λ m. length (take m words)) (sub-zero n) ∙ length-take-le n words readable.0 in
    let all = readable.1 in (
      c.requires.0,
      (omega arith, (c.requires.1.0, (omega arith, subst (λ m. Names g.variables g.clauses (level_of g g.present).side (take m words)) (sym (sub-zero n)) readable.2))),
    )

pub returns-in_default-default-Yes-2 : goal.returns-in_default-default-Yes-2
returns-in_default-default-Yes-2 c =
    let g = c.args.game.now in
    let pool = c.args.pool.now in
    let words = c.args.words.now in
    let last = c.if-m-game.false in
    let x = values_said g.variables (level_of g g.present).variables words in
    record {
      marked = subst (λ a. Marked g pool (said g a words)) (sym c.in_default-default-Yes.is-2) (λ below. absurd (omega arith));
      changed = c.finish.ensures ∙ sym (cond-false _ _ _ (le-ltb (suc g.present) g.depth (omega arith))) ∙ ap (λ a. changed g pool (said g a words)) (sym c.in_default-default-Yes.is-2);
    }
