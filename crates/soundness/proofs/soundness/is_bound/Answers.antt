use Rattle.std.proofs.Common.{◌≡◌, true, nat_abs, arith, rules}
use Rattle.std.proofs.lemmas.Bool.Decides.{Decides-like}
use Rattle.std.proofs.lemmas.Iterator.{cases_from_any, YieldsList-from_range}
use Rattle.formula.specs.Lists.{elem}
use Rattle.layout.specs.Shown.{variables_at}
use Rattle.soundness.proofs.Chained.{any_told}
use Rattle.soundness.proofs.Rows.{bound_in, bound_some}
use Rattle.soundness.proofs.soundness.is_bound.Goals as goal

pub returns : goal.returns
returns c =
    let g = c.args.game.now in
    let v = nat_abs c.args.x in
    Decides-like c.any.result (bound_in (variables_at g) v 0 g.depth) (bound_some (variables_at g) v 0 g.depth)
    (any_told (λ m. elem v (variables_at g m) ≡ true) _ c.any.result
    (cases_from_any c.any.new.self _ c.any.result (λ m. elem v (variables_at g m) ≡ true) (λ m. elem v (variables_at g m) ≡ true → ⊥) c.any.ensures.ran (YieldsList-from_range 0 g.depth g.depth (search rules) (omega arith))
    (λ x q k. search rules) (λ x q k. search rules)))
