use Rattle.std.proofs.Common.{◌≡◌, get_or, pos, neg_ℤ, sym, ap, ◌∙◌, subst, w32, SFits, to_z, of_z, arith, rules}
use Rattle.std.proofs.lemmas.Int.{to_z-of_z}
use Rattle.std.proofs.lemmas.Bool.{false≢true, both_ways}
use Rattle.std.proofs.lemmas.Bool.Decides.{Decides-like}
use Rattle.formula.specs.Lists.{In, each}
use Rattle.strategy.specs.Signals.{b_signal}
use Rattle.layout.specs.Shown.{variables_at}
use Rattle.plan_check.specs.Made.{literals_at}
use Rattle.plan_check.proofs.Fronts.{pair_parts, pair_in}
use Rattle.plan_check.proofs.openings.is_device_record.Goals as goal

pub returns-in_default : goal.returns-in_default
returns-in_default c =
    let g = c.args.game.now in
    let L = literals_at (variables_at g c.args.m) c.args.clause.now in
    let b = neg_ℤ (pos (b_signal g.variables g.clauses c.args.i)) in
    (λ f. absurd (false≢true f), λ w. absurd (let r = pair_parts b L c.args.numbers.now w in omega (arith, r.0, c.in_default.len_below)))

pub returns-in_default-2 : goal.returns-in_default-2
returns-in_default-2 c =
    let g = c.args.game.now in
    let L = literals_at (variables_at g c.args.m) c.args.clause.now in
    let b = neg_ℤ (pos (b_signal g.variables g.clauses c.args.i)) in
    (λ f. absurd (false≢true f), λ w. absurd (let r = pair_parts b L c.args.numbers.now w in omega (arith, r.0, c.in_default.len_at_least)))

pub returns-else-is_opposite : goal.returns-else-is_opposite
returns-else-is_opposite c =
    let g = c.args.game.now in
    let ys = c.args.numbers.now in
    let L = literals_at (variables_at g c.args.m) c.args.clause.now in
    let b = neg_ℤ (pos (b_signal g.variables g.clauses c.args.i)) in
    let fits : SFits w32 (get_or c.args.numbers.now 1 (pos 0)) = search rules in
    let fits-b : SFits w32 c.b_signal.result = search rules in
    let opposite : neg_ℤ (to_z w32 (of_z w32 c.b_signal.result)) ≡ b = ap neg_ℤ (to_z-of_z w32 c.b_signal.result fits-b ∙ c.b_signal.ensures) in
    (λ e. absurd (both_ways _ c.if-is_opposite.false e), λ w. c.is_opposite.ensures.1 (to_z-of_z w32 (get_or ys 1 (pos 0)) fits ∙ (pair_parts b L ys w).1 ∙ sym opposite))

pub returns-then-is_opposite : goal.returns-then-is_opposite
returns-then-is_opposite c =
    let g = c.args.game.now in
    let ys = c.args.numbers.now in
    let L = literals_at (variables_at g c.args.m) c.args.clause.now in
    let b = neg_ℤ (pos (b_signal g.variables g.clauses c.args.i)) in
    let fits : SFits w32 (get_or c.args.numbers.now 1 (pos 0)) = search rules in
    let fits-a : SFits w32 (get_or c.args.numbers.now 0 (pos 0)) = search rules in
    let fits-b : SFits w32 c.b_signal.result = search rules in
    let opposite : neg_ℤ (to_z w32 (of_z w32 c.b_signal.result)) ≡ b = ap neg_ℤ (to_z-of_z w32 c.b_signal.result fits-b ∙ c.b_signal.ensures) in
    let second : get_or ys 1 (pos 0) ≡ b = sym (to_z-of_z w32 (get_or ys 1 (pos 0)) fits) ∙ c.is_opposite.ensures.0 c.if-is_opposite.true ∙ opposite in
    let first = to_z-of_z w32 (get_or ys 0 (pos 0)) fits-a in
    Decides-like c.is_opposed.result
    (λ h. pair_in b L ys (omega (arith, c.in-len2.len_at_least, c.in-len2.len_below)) second (subst (λ z. In z (each neg_ℤ L)) first h))
    (λ w. subst (λ z. In z (each neg_ℤ L)) (sym first) (pair_parts b L ys w).2) c.is_opposed.ensures
