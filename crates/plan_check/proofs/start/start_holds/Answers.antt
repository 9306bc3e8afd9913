use Rattle.std.proofs.Common.{◌<◌, eqb, ltb, refl, arith}
use Rattle.formula.specs.declared.side.Side.TheVariants.{Ours, Device}
use Rattle.layout.specs.Shown.{entries_in}
use Rattle.layout.specs.Viewed.{clauses_of}
use Rattle.plan_check.specs.Checked.{levels_shown}
use Rattle.plan_check.specs.Places.{level_shown, shown_from}
use Rattle.plan_check.proofs.Placed.{clauses_count, levels_fit, shown_here, shown_end}
use Rattle.plan_check.proofs.Starting.{start_like, no_clause, some_clause, empty_entry, device_first, our_first}
use Rattle.plan_check.proofs.start.start_holds.Goals as goal

pub returns-in-Ours : goal.returns-in-Ours
returns-in-Ours g c =
    let game = c.args.game.now in
    let pool = c.args.pool.now in
    let C = clauses_of game pool in
    start_like C game.variables c.args.side Ours c.args.first c.args.first (levels_shown game pool) _ (eqb game.clauses 0) c.in-Ours.is refl (shown_end game pool 0 (omega arith))
    (no_clause C game.variables game.clauses c.args.first (clauses_count game pool c.requires.0.sound.formula))

pub returns-in-Device : goal.returns-in-Device
returns-in-Device g c =
    let game = c.args.game.now in
    let pool = c.args.pool.now in
    let C = clauses_of game pool in
    start_like C game.variables c.args.side Device c.args.first c.args.first (levels_shown game pool) _ (ltb 0 game.clauses) c.in-Device.is refl (shown_end game pool 0 (omega arith))
    (some_clause C game.variables game.clauses c.args.first (clauses_count game pool c.requires.0.sound.formula))

pub returns-in-Ours-Ours : goal.returns-in-Ours-Ours
returns-in-Ours-Ours g c =
    let game = c.args.game.now in
    let pool = c.args.pool.now in
    let C = clauses_of game pool in
    let some : 0 < c.args.game.now.depth = omega arith in
    let is = shown_here game pool 0 some (levels_fit game pool c.requires.0) in
    start_like C game.variables c.args.side Ours c.args.first Ours (levels_shown game pool) _ c.is_entered.result c.in-Ours-Ours.is-0 c.in-Ours-Ours.is-1 is
    (empty_entry (entries_in game pool 0) c.is_entered.result c.is_entered.ensures)

pub returns-in-Ours-Device : goal.returns-in-Ours-Device
returns-in-Ours-Device g c =
    let game = c.args.game.now in
    let pool = c.args.pool.now in
    let C = clauses_of game pool in
    let some : 0 < c.args.game.now.depth = omega arith in
    let is = shown_here game pool 0 some (levels_fit game pool c.requires.0) in
    start_like C game.variables c.args.side Ours c.args.first Device (levels_shown game pool) _ c.is_unsatisfiable.result c.in-Ours-Device.is-0 c.in-Ours-Device.is-1 is
    (device_first C game.variables game.clauses (clauses_count game pool c.requires.0.sound.formula) (level_shown game pool 0) (shown_from game pool 1) c.is_unsatisfiable.result c.is_unsatisfiable.ensures)

pub returns-in-Device-Ours : goal.returns-in-Device-Ours
returns-in-Device-Ours g c =
    let game = c.args.game.now in
    let pool = c.args.pool.now in
    let C = clauses_of game pool in
    let some : 0 < c.args.game.now.depth = omega arith in
    let is = shown_here game pool 0 some (levels_fit game pool c.requires.0) in
    start_like C game.variables c.args.side Device c.args.first Ours (levels_shown game pool) _ c.is_unsatisfiable-in-Device-Ours.result c.in-Device-Ours.is-0 c.in-Device-Ours.is-1 is
    (our_first C game.variables game.clauses (clauses_count game pool c.requires.0.sound.formula) (level_shown game pool 0) (shown_from game pool 1) c.is_unsatisfiable-in-Device-Ours.result c.is_unsatisfiable-in-Device-Ours.ensures)

pub returns-in-Device-Device : goal.returns-in-Device-Device
returns-in-Device-Device g c =
    let game = c.args.game.now in
    let pool = c.args.pool.now in
    let C = clauses_of game pool in
    let some : 0 < c.args.game.now.depth = omega arith in
    let is = shown_here game pool 0 some (levels_fit game pool c.requires.0) in
    start_like C game.variables c.args.side Device c.args.first Device (levels_shown game pool) _ c.has_entry.result c.in-Device-Device.is-0 c.in-Device-Device.is-1 is c.has_entry.ensures
