use Rattle.std.proofs.Common.{◌+◌, refl}
use Rattle.std.proofs.lemmas.Bool.{false≢true}
use Rattle.std.proofs.lemmas.Bool.Decides.{not_from_Decides}
use Rattle.layout.specs.Viewed.{clauses_of}
use Rattle.plan_check.specs.Places.{level_shown, shown_from}
use Rattle.plan_check.proofs.Descending.{level_fails, level_next, levels_done}
use Rattle.plan_check.proofs.Placed.{levels_fit, shown_here, shown_end}
use Rattle.plan_check.proofs.levels.levels_hold.Goals as goal

pub returns-then-not-level_holds : goal.returns-then-not-level_holds
returns-then-not-level_holds g c =
    let game = c.args.game.now in
    let pool = c.args.pool.now in
    let m = c.loop-m.m in
    let is = shown_here game pool m c.loop-m-test.true (levels_fit game pool c.requires.0) in
    (λ f. absurd (false≢true f), λ w. absurd (level_fails (clauses_of game pool) game.variables c.args.side c.loop-m.level _ (shown_from game pool m) c.loop-m.invariant (level_shown game pool m) (shown_from game pool (m + 1)) is (not_from_Decides _ c.if-not-level_holds.ensures refl) w))

pub loop-m-preserved : goal.loop-m-preserved
loop-m-preserved g c =
    let game = c.args.game.now in
    let pool = c.args.pool.now in
    let m = c.loop-m.m in
    let is = shown_here game pool m c.loop-m-test.true (levels_fit game pool c.requires.0) in
    level_next (clauses_of game pool) game.variables c.args.side c.loop-m.level _ (shown_from game pool m) c.loop-m.invariant (level_shown game pool m) (shown_from game pool (m + 1)) is c.other-level.result c.other-level.ensures (c.if-not-level_holds.ensures.0 refl)

pub returns : goal.returns
returns g c =
    let game = c.args.game.now in
    let pool = c.args.pool.now in
    (λ _. levels_done (clauses_of game pool) game.variables c.args.side c.loop-m.level _ (shown_from game pool c.loop-m.m) c.loop-m.invariant (shown_end game pool c.loop-m.m c.loop-m-test.false), λ _. refl)
