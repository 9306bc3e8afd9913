use Rattle.std.proofs.Common.{length, sym, ◌∙◌, arith}
use Rattle.std.proofs.lemmas.List.{at_drop_all}
use Rattle.formula.specs.Model.{qbf}
use Rattle.layout.specs.Laying.{laid}
use Rattle.layout.specs.Places.{laid_as}
use Rattle.layout.proofs.Room.{room_for, room_after, laid_after, at_place, clause_next}
use Rattle.layout.proofs.chains.write_clauses.Goals as goal

pub lay-place-requires : goal.lay-place-requires
lay-place-requires c =
    let q = qbf c.args.formula.now.parts in
    let told = c.in-Some.ensures in
    let next = at_place q.clauses c.loop-i.i c.in-Some.clause.now (omega (arith, told.1)) (told.2 ∙ clause_next q c.loop-i.i) in
    room_for (length c.args.pool.now) (laid_as c.loop-i.pool c.loop-i.place) c.in-Some.clause.now _ _ next _ c.loop-i.auto.pool c.loop-i.invariant.1

pub loop-i-preserved : goal.loop-i-preserved
loop-i-preserved c =
    let q = qbf c.args.formula.now.parts in
    let told = c.in-Some.ensures in
    let next = at_place q.clauses c.loop-i.i c.in-Some.clause.now (omega (arith, told.1)) (told.2 ∙ clause_next q c.loop-i.i) in
    let s = laid_as c.loop-i.pool c.loop-i.place in
    let size = length c.args.pool.now in (
      laid_after size s c.in-Some.clause.now _ _ next _ c.lay-place.ensures ∙ c.loop-i.invariant.0,
      room_after size s c.in-Some.clause.now _ _ next _ c.lay-place.ensures c.loop-i.invariant.1,
    )

pub returns : goal.returns
returns c =
    let q = qbf c.args.formula.now.parts in
    sym (at_drop_all (laid (laid_as c.loop-i.pool c.loop-i.place)) q.clauses c.loop-i.i (omega (arith, c.clauses-i-end.ensures.value))) ∙ c.loop-i.invariant.0
