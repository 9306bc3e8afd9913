use Rattle.std.proofs.Common.{ℕ, Bool, false, [], ◌∷◌, ◌++◌, get_or, ℤ, pos, neg_ℤ, sym, refl, ap, ◌∙◌, arith, w32, SFits, rules}
use Rattle.std.proofs.lemmas.List.{map-append}
use Rattle.std.proofs.lemmas.Int.{to_z-of_z}
use Rattle.formula.specs.Lists.{keep, each, below}
use Rattle.strategy.specs.Signals.{signal}
use Rattle.strategy.specs.Questions.{assumed}
use Rattle.rules.proofs.Picked.{kept_below, left_below}
use Rattle.rules.proofs.question.assumptions_of.Goals as goal

pub loop-clause-preserved-then-not-is_assumed : goal.loop-clause-preserved-then-not-is_assumed
loop-clause-preserved-then-not-is_assumed c =
    let before : ℕ → Bool = λ i. get_or c.args.satisfied.now i false in
    let g : ℕ → ℤ = λ i. neg_ℤ (pos (signal c.args.variables c.args.clauses c.args.side i)) in
    let i = c.loop-clause.clause in
    let e = left_below (assumed c.args.side before) i (sym (c.if-not-is_assumed.ensures before i refl)) in
    (c.loop-clause.invariant.0 ∙ sym (ap (each g) e), omega (arith, c.loop-clause.invariant.1))

pub loop-clause-preserved : goal.loop-clause-preserved
loop-clause-preserved c =
    let before : ℕ → Bool = λ i. get_or c.args.satisfied.now i false in
    let p = assumed c.args.side before in
    let g : ℕ → ℤ = λ i. neg_ℤ (pos (signal c.args.variables c.args.clauses c.args.side i)) in
    let i = c.loop-clause.clause in
    let fits : SFits w32 c.assumption.result = search rules in
    let e = kept_below p i (sym (c.if-not-is_assumed.ensures before i refl)) in (
      c.push.ensures.items ∙ ap (λ x. c.loop-clause.assumed.items ++ x ∷ []) (to_z-of_z w32 c.assumption.result fits ∙ c.assumption.ensures) ∙ ap (λ l. l ++ g i ∷ []) c.loop-clause.invariant.0
          ∙ sym (map-append g (keep p (below i)) (i ∷ [])) ∙ sym (ap (each g) e),
      omega (arith, c.loop-clause.invariant.1, c.push.ensures.len),
    )
