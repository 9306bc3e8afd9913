use Rattle.std.proofs.Common.{◌<◌, length, sym, ◌∙◌, arith}
use Rattle.layout.specs.Shown.{variables_at}
use Rattle.plan.proofs.Playing.{play_short, play_more, play_breaks, play_end}
use Rattle.plan.proofs.plays.is_play.Goals as goal

pub returns-in_default : goal.returns-in_default
returns-in_default c =
    let g = c.args.game.now in
    let few : length c.loop-m.rest.now < length (variables_at g c.loop-m.m) = omega (arith, c.in_default.ensures.cases, c.count_variables.ensures.count) in
    sym (c.loop-m.invariant ∙ play_short (variables_at g) g.depth c.args.levels c.loop-m.m c.requires.1 c.loop-m-test.true c.loop-m.rest.now few)

pub returns-then-not-is_choice : goal.returns-then-not-is_choice
returns-then-not-is_choice c =
    let g = c.args.game.now in
    let e = c.in-Some.ensures.cases in
    sym (c.loop-m.invariant
    ∙ play_breaks (variables_at g) g.depth c.args.levels c.loop-m.m c.requires.1 c.loop-m-test.true c.loop-m.rest.now c.in-Some.values.now c.in-Some.after.now c.count_variables.result
    e.1 e.2 (e.3 ∙ c.count_variables.ensures.count) (sym c.if-not-is_choice.ensures))

pub loop-m-preserved : goal.loop-m-preserved
loop-m-preserved c =
    let g = c.args.game.now in
    let e = c.in-Some.ensures.cases in
    c.loop-m.invariant
    ∙ play_more (variables_at g) g.depth c.args.levels c.loop-m.m c.requires.1 c.loop-m-test.true c.loop-m.rest.now c.in-Some.values.now c.in-Some.after.now c.count_variables.result
    e.1 e.2 (e.3 ∙ c.count_variables.ensures.count) (sym c.if-not-is_choice.ensures)

pub returns : goal.returns
returns c =
    let g = c.args.game.now in
    c.is_empty.ensures ∙ sym (c.loop-m.invariant ∙ play_end (variables_at g) g.depth c.args.levels c.loop-m.m c.requires.1 (omega arith) c.loop-m.rest.now)
