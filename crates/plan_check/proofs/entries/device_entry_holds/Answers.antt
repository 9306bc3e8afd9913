use Rattle.std.proofs.Common.{◌+◌, false, [], refl, arith}
use Rattle.std.proofs.lemmas.Bool.{false≢true}
use Rattle.std.proofs.lemmas.Bool.Decides.{not_from_Decides}
use Rattle.formula.specs.declared.side.Side.TheVariants.{Device}
use Rattle.strategy.specs.Records.{entry_of}
use Rattle.layout.specs.Viewed.{clauses_of}
use Rattle.plan.specs.Fitting.{set_of}
use Rattle.plan_check.specs.Places.{level_shown, shown_from}
use Rattle.plan_check.proofs.Covered.{outside_is, apart_misses, misses_apart, entry_like, device_next}
use Rattle.plan_check.proofs.Placed.{clauses_count, levels_fit, shown_here, shown_end}
use Rattle.plan_check.proofs.entries.device_entry_holds.Goals as goal

pub returns-then-m-game : goal.returns-then-m-game
returns-then-m-game g c =
    let game = c.args.game.now in
    let pool = c.args.pool.now in
    entry_like (clauses_of game pool) game.variables Device (shown_from game pool (c.args.m + 1)) [] (entry_of game.variables c.args.entry.now) (entry_of game.variables c.args.entry.now) false
    (shown_end game pool (c.args.m + 1) (omega arith)) refl (λ f. absurd (false≢true f), λ w. absurd w)

pub returns-then-not-is_apart : goal.returns-then-not-is_apart
returns-then-not-is_apart g c =
    let game = c.args.game.now in
    let pool = c.args.pool.now in
    let n = game.variables in
    let k = game.clauses in
    let C = clauses_of game pool in
    let A = set_of n c.split_entry-parts.result.signals.now in
    let x = c.split_entry-parts.result.values.now in
    let count = clauses_count game pool c.requires.0.sound.formula in
    let out = outside_is c.mark.new.flags A k c.requires.0.limits.1 c.mark.ensures in
    let next = shown_here game pool (c.args.m + 1) (omega arith) (levels_fit game pool c.requires.0) in
    let near = not_from_Decides _ c.if-not-is_apart.ensures refl in
    entry_like C n Device (shown_from game pool (c.args.m + 1)) _ (entry_of n c.args.entry.now) (record { set = A; values = x }) false next c.split_entry-parts.ensures.is
    (λ f. absurd (false≢true f), λ w. absurd (near (misses_apart c.mark.new.flags c.satisfied-hit.result A C x k count out c.satisfied-hit.ensures w.0)))

pub returns : goal.returns
returns g c =
    let game = c.args.game.now in
    let pool = c.args.pool.now in
    let n = game.variables in
    let k = game.clauses in
    let C = clauses_of game pool in
    let A = set_of n c.split_entry-parts.result.signals.now in
    let x = c.split_entry-parts.result.values.now in
    let count = clauses_count game pool c.requires.0.sound.formula in
    let out = outside_is c.mark.new.flags A k c.requires.0.limits.1 c.mark.ensures in
    let next = shown_here game pool (c.args.m + 1) (omega arith) (levels_fit game pool c.requires.0) in
    let misses = apart_misses c.mark.new.flags c.satisfied-hit.result A C x k count out c.satisfied-hit.ensures (c.if-not-is_apart.ensures.0 refl) in
    entry_like C n Device (shown_from game pool (c.args.m + 1)) _ (entry_of n c.args.entry.now) (record { set = A; values = x }) c.is_unsatisfiable.result next c.split_entry-parts.ensures.is
    (device_next C n k A x count c.is_unsatisfiable.result c.mark.new.flags out (level_shown game pool (c.args.m + 1)) (shown_from game pool (c.args.m + 1 + 1)) misses c.is_unsatisfiable.ensures)
