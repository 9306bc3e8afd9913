use Rattle.std.proofs.Common.{◌≡◌, ◌+◌, ◌-◌, length, take, drop, sym, ap, ◌∙◌, arith}
use Rattle.std.proofs.lemmas.Bool.{false≢true, both_ways}
use Rattle.formula.specs.Backward.{is_choice}
use Rattle.soundness.specs.Forms.{are_signals}
use Rattle.layout.specs.Table.{level_of}
use Rattle.layout.specs.Shown.{variables_at}
use Rattle.soundness.proofs.Forming.{form_from_tests, form_long, tests_from_form}
use Rattle.soundness.proofs.entries.is_entry.Goals as goal

pub returns-then-numbers-count : goal.returns-then-numbers-count
returns-then-numbers-count c =
    let g = c.args.game.now in (
      λ e. absurd (false≢true e),
      λ f. absurd (let enough = form_long g.variables g.clauses (level_of g c.args.m).side (variables_at g c.args.m) c.args.numbers.now f in omega arith),
    )

pub returns-then-are_signals : goal.returns-then-are_signals
returns-then-are_signals c =
    let g = c.args.game.now in
    let n = g.variables in
    let k = g.clauses in
    let σ = (level_of g c.args.m).side in
    let vs = variables_at g c.args.m in
    let xs = c.args.numbers.now in
    let p = length xs - c.count_variables-count.result in
    let front : c.in-Some.signals.now ≡ take p xs = c.in-Some.ensures.cases.1 in
    let back : c.in-Some.values.now ≡ drop p xs = c.in-Some.ensures.cases.2 in
    let chosen : c.is_choice.result ≡ is_choice (drop p xs) vs = c.is_choice.ensures ∙ ap (λ l. is_choice l vs) back in (
      λ e. form_from_tests n k σ vs xs p (ap (are_signals σ n (n + k)) (sym front) ∙ sym c.if-are_signals.ensures) (sym chosen ∙ e),
      λ f. chosen ∙ (tests_from_form n k σ vs xs f p (omega arith)).1,
    )

pub returns-else-are_signals : goal.returns-else-are_signals
returns-else-are_signals c =
    let g = c.args.game.now in
    let n = g.variables in
    let k = g.clauses in
    let σ = (level_of g c.args.m).side in
    let vs = variables_at g c.args.m in
    let xs = c.args.numbers.now in
    let p = length xs - c.count_variables-count.result in
    let front : c.in-Some.signals.now ≡ take p xs = c.in-Some.ensures.cases.1 in (
      λ e. absurd (both_ways _ c.if-are_signals.false e),
      λ f. c.are_signals.ensures ∙ ap (are_signals σ n (n + k)) front ∙ (tests_from_form n k σ vs xs f p (omega arith)).0,
    )
