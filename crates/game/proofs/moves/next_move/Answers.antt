use Rattle.std.proofs.Common.{◌≡◌, ◌-◌, length, None, Ok, Some, sym, ap, ◌∙◌, subst, arith}
use Rattle.layout.specs.Shown.{variables_at}
use Rattle.layout.specs.declared.game.Game.{Game}
use Rattle.plan.proofs.Moving.{level_there, move_found}
use Rattle.game.specs.Tables.{is_held}
use Rattle.game.specs.Moves.{called, count_of, written_over, Taken, Moved}
use Rattle.game.proofs.moves.next_move.Goals as goal

pub write-requires : goal.write-requires
write-requires c =
    let taken = c.in_ok-game.ensures.1 in
    let same = c.in_ok-game.ensures.0 in
    let count = c.in-Some.ensures.count in
    let level = c.args.level - 1 in
    let few : length c.in-Some.x.now ≡ length (variables_at c.in_ok-game.game.now level) = count in
    let move = ap (λ (g : Game). length (variables_at g level)) same in
    omega (arith, taken.room, few, move)

pub returns : goal.returns
returns c =
    let g = c.in_ok-game.game.now in
    let w = c.args.verdict.now.side in
    let call = λ (x : Game). called (is_held c.args.table.now.game) x c.args.verdict.now c.args.pool.now c.args.level c.args.play.now (length c.args.values.now) in
    let same = c.in_ok-game.ensures.0 in
    let taken = subst (λ x. Taken (call x)) (sym same) c.in_ok-game.ensures.1 in
    let there = level_there g w c.args.level taken.level in
    let entries = (taken.sound.levels (c.args.level - 1) (omega (arith, there.0, there.1))).entries in
    let found = move_found g c.args.pool.now w c.args.level c.args.play.now c.satisfied-satisfied.result entries there.2 c.satisfied-satisfied.ensures in
    let is = sym found ∙ c.in-Some.ensures.found in
    let moved : Moved (call g) c.args.values.now c.write.new.values (Ok (Some c.write.result)) =
    (taken, ap Some c.write.ensures.count ∙ ap count_of (sym is), c.write.ensures.written ∙ ap (λ o. written_over o c.args.values.now) (sym is)) in
    subst (λ x. Moved (call x) c.args.values.now c.write.new.values (Ok (Some c.write.result))) same moved

pub returns-in_default : goal.returns-in_default
returns-in_default c =
    let g = c.in_ok-game.game.now in
    let w = c.args.verdict.now.side in
    let call = λ (x : Game). called (is_held c.args.table.now.game) x c.args.verdict.now c.args.pool.now c.args.level c.args.play.now (length c.args.values.now) in
    let same = c.in_ok-game.ensures.0 in
    let taken = subst (λ x. Taken (call x)) (sym same) c.in_ok-game.ensures.1 in
    let there = level_there g w c.args.level taken.level in
    let entries = (taken.sound.levels (c.args.level - 1) (omega (arith, there.0, there.1))).entries in
    let found = move_found g c.args.pool.now w c.args.level c.args.play.now c.satisfied-satisfied.result entries there.2 c.satisfied-satisfied.ensures in
    let is = sym found ∙ c.in_default.ensures.found in
    let moved : Moved (call g) c.args.values.now c.args.values.now (Ok None) = (taken, ap count_of (sym is), ap (λ o. written_over o c.args.values.now) (sym is)) in
    subst (λ x. Moved (call x) c.args.values.now c.args.values.now (Ok None)) same moved
