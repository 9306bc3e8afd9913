use Rattle.std.proofs.Common.{◌+◌, arith}
use Rattle.formula.specs.Game.{hits}
use Rattle.formula.specs.declared.side.Side.TheVariants.{Ours}
use Rattle.strategy.specs.Records.{entry_of}
use Rattle.layout.specs.Viewed.{clauses_of}
use Rattle.plan.specs.Fitting.{set_of}
use Rattle.plan_check.specs.Places.{level_shown, shown_from}
use Rattle.plan_check.proofs.Covered.{covered_is, entry_like, our_last, our_next}
use Rattle.plan_check.proofs.Placed.{clauses_count, levels_fit, shown_here, shown_end}
use Rattle.plan_check.proofs.entries.our_entry_holds.Goals as goal

pub returns-then-m-game : goal.returns-then-m-game
returns-then-m-game g c =
    let game = c.args.game.now in
    let pool = c.args.pool.now in
    let n = game.variables in
    let k = game.clauses in
    let C = clauses_of game pool in
    let A = set_of n c.split_entry-parts.result.signals.now in
    let x = c.split_entry-parts.result.values.now in
    let count = clauses_count game pool c.requires.0.sound.formula in
    let is = covered_is c.covered-flags.result A (hits C x) k c.covered-flags.ensures in
    entry_like C n Ours (shown_from game pool (c.args.m + 1)) _ (entry_of n c.args.entry.now) _ c.is_full.result (shown_end game pool (c.args.m + 1) (omega arith)) c.split_entry-parts.ensures.is
    (our_last C n k A x count c.is_full.result c.covered-flags.result is c.is_full.ensures)

pub returns : goal.returns
returns g c =
    let game = c.args.game.now in
    let pool = c.args.pool.now in
    let n = game.variables in
    let k = game.clauses in
    let C = clauses_of game pool in
    let A = set_of n c.split_entry-parts.result.signals.now in
    let x = c.split_entry-parts.result.values.now in
    let count = clauses_count game pool c.requires.0.sound.formula in
    let is = covered_is c.covered-flags.result A (hits C x) k c.covered-flags.ensures in
    let next = shown_here game pool (c.args.m + 1) (omega arith) (levels_fit game pool c.requires.0) in
    entry_like C n Ours (shown_from game pool (c.args.m + 1)) _ (entry_of n c.args.entry.now) _ c.is_unsatisfiable.result next c.split_entry-parts.ensures.is
    (our_next C n k A x count c.is_unsatisfiable.result c.covered-flags.result is (level_shown game pool (c.args.m + 1)) (shown_from game pool (c.args.m + 1 + 1)) c.is_unsatisfiable.ensures)
