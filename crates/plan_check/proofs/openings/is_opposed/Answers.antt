use Rattle.std.proofs.Common.{◌≡◌, ℤ, neg_ℤ, Bool, nat_abs, refl, rules}
use Rattle.std.proofs.lemmas.Bool.Decides.{Decides-like}
use Rattle.std.proofs.lemmas.Iterator.{cases_from_any, YieldsList-from_slice}
use Rattle.std.proofs.lemmas.Iterator.Consumers.{YieldsList-from_filter}
use Rattle.formula.specs.Lists.{elem, keep}
use Rattle.layout.specs.Shown.{variables_at}
use Rattle.soundness.proofs.Chained.{any_told}
use Rattle.plan_check.proofs.Fronts.{opposed_in, opposed_some}
use Rattle.plan_check.proofs.openings.is_opposed.Goals as goal

pub returns : goal.returns
returns c =
    let p : ℤ → Bool = λ l. elem (nat_abs l) (variables_at c.args.game.now c.args.m) in
    let x = c.args.x in
    let these = keep p c.args.clause.now in
    Decides-like c.any.result (opposed_in x these) (opposed_some x these)
    (any_told (λ l. x ≡ neg_ℤ l) these c.any.result
    (cases_from_any c.any.new.self _ c.any.result (λ l. x ≡ neg_ℤ l) (λ l. x ≡ neg_ℤ l → ⊥) c.any.ensures.ran
    (YieldsList-from_filter _ p (YieldsList-from_slice c.args.clause.now cc) refl (λ x b q k. search rules))
    (λ x q k. search rules) (λ x q k. search rules)))
