use Rattle.std.proofs.Common.{refl, arith}
use Rattle.layout.specs.Viewed.{clauses_of}
use Rattle.rules.specs.Changes.{with_verdict}
use Rattle.rules.proofs.Noted.{length_clauses}
use Rattle.game.proofs.Played.{done_answered, done_unasked}
use Rattle.game.proofs.stepping.play.Goals as goal

pub returns-then-game : goal.returns-then-game
returns-then-game g c =
    let G = c.args.game.now in
    let pool = c.args.pool.now in
    let long = c.requires.0.filled.2 in
    let deep = c.requires.0.limits.2 in
    let w = c.winner_with_no_level.result in
    done_unasked G pool c.requires.0 (omega arith) c.requires.1.0 (with_verdict w G) pool c.if-game.true w
    (c.winner_with_no_level.ensures (clauses_of G pool) (length_clauses G pool c.requires.0.sound.formula)) refl

pub returns : goal.returns
returns g c =
    let G = c.args.game.now in
    let pool = c.args.pool.now in
    let long = c.requires.0.filled.2 in
    let deep = c.requires.0.limits.2 in
    done_answered G pool c.requires.0 (omega arith) c.requires.1.0 c.apply.new.game c.apply.new.pool c.if-game.false c.ask-answer.result c.ask-answer.new.out
    c.ask-answer.ensures c.apply.ensures.marked c.apply.ensures.changed
