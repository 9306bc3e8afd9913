use Rattle.std.proofs.Common.{◌≡◌, ℕ, ◌<◌, Bool, [], ◌∷◌, ◌++◌, length, sym, refl, ap, ◌∙◌, arith}
use Rattle.std.proofs.lemmas.List.{take_more_set, take_all, length-set}
use Rattle.formula.specs.Lists.{each, elem, below}
use Rattle.formula.specs.Model.{qbf, level_at}
use Rattle.formula.proofs.Maps.{each-below-push}
use Rattle.layout.proofs.begin.level_flags.Goals as goal

pub loop-v-preserved : goal.loop-v-preserved
loop-v-preserved c =
    let f : ℕ → Bool = λ u. elem u (level_at (qbf c.args.formula.now.parts) c.args.level) in
    let v = c.loop-v.v in
    let flags = c.loop-v.flag-items in
    let room : v < length c.loop-v.flag-items = omega (arith, c.loop-v-test.true, c.loop-v.invariant.1) in (
      take_more_set flags v c.binds.result room ∙ ap (λ l. l ++ (c.binds.result ∷ [])) c.loop-v.invariant.0 ∙ ap (λ b. each f (below v) ++ (b ∷ [])) c.binds.ensures
          ∙ sym (each-below-push f f v (λ j h. refl)),
      length-set flags v c.binds.result ∙ c.loop-v.invariant.1,
    )

pub returns : goal.returns
returns c =
    let f : ℕ → Bool = λ u. elem u (level_at (qbf c.args.formula.now.parts) c.args.level) in
    let end = c.loop-v.auto.v-end in
    let v : c.loop-v.v ≡ 257 = omega (arith, c.loop-v-test.false, c.loop-v.invariant.1) in
    sym (take_all c.loop-v.v c.loop-v.flag-items (omega (arith, c.loop-v.invariant.1))) ∙ c.loop-v.invariant.0 ∙ ap (λ n. each f (below n)) v
