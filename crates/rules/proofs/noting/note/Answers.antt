use Rattle.std.proofs.Common.{◌≡◌, ◌-◌, length, sym, ap, ◌∙◌, arith}
use Rattle.layout.specs.Viewed.{values_in, clauses_of}
use Rattle.rules.specs.Changes.{Held, learned, present_at}
use Rattle.rules.proofs.Noted.{length_clauses, entry_room, after_entry, noted_later}
use Rattle.rules.proofs.noting.note.Goals as goal

pub enter_set-requires : goal.enter_set-requires
enter_set-requires c =
    let g = c.args.game.now in
    let spare = c.requires.0 in
    let deep = spare.limits.2 in
    let here = c.requires.1.0 in
    (spare.limits, (omega arith, (c.requires.1.1.0, entry_room g c.args.pool.now c.args.j c.args.set.now (values_in g.variables c.args.chosen.now) spare here c.requires.1.1.0 c.requires.1.1.1)))

pub learn_set-requires : goal.learn_set-requires
learn_set-requires c =
    let g = c.args.game.now in
    after_entry g c.args.pool.now c.args.j c.args.set.now (values_in g.variables c.args.chosen.now) c.requires.0 c.requires.1.0 c.requires.1.1.0 c.requires.1.1.1 c.if-j-eq0.false
    c.enter_set.new.game c.enter_set.new.pool c.enter_set.ensures c.enter_set.auto.pool

pub returns : goal.returns
returns c =
    let g = c.args.game.now in
    let pool = c.args.pool.now in
    let x = values_in g.variables c.args.chosen.now in
    let j = c.args.j in
    let A = c.args.set.now in
    let C = clauses_of g pool in
    let count : length C ≡ c.enter_set.new.game.clauses = length_clauses g pool c.requires.0.sound.formula ∙ sym (ap (λ (h : Held). h.game.clauses) c.enter_set.ensures) in
    ap (present_at (j - 1)) (c.learn_set.ensures C count ∙ ap (λ h. learned C h (j - 1) A) c.enter_set.ensures)
    ∙ noted_later g pool c.args.winner j A x c.if-j-eq0.false
