use Rattle.std.proofs.Common.{◌+◌, ◌<◌, length, drop, sym, ap, ◌∙◌, subst, arith}
use Rattle.std.proofs.lemmas.List.{at_drop_all}
use Rattle.formula.specs.Lists.{below}
use Rattle.formula.specs.Model.{qbf, level_at}
use Rattle.formula.proofs.Ranges.{length_from}
use Rattle.strategy.specs.Records.{gather}
use Rattle.layout.specs.Laying.{laid, Enough}
use Rattle.layout.specs.Places.{laid_as}
use Rattle.layout.specs.Opening.{clause_records}
use Rattle.layout.proofs.Room.{laid_append, enough_front, enough_rest, gather_place}
use Rattle.layout.proofs.chains.Block.write.Goals as goal

pub write_clause-place-requires : goal.write_clause-place-requires
write_clause-place-requires c =
    let q = qbf c.args.self.now.formula.now.parts in
    let f = clause_records q.clauses q.variables c.args.self.now.side (level_at q c.args.self.now.level) c.args.self.now.last in
    let i = c.loop-clause.clause in
    let here : i < length q.clauses = omega (arith, c.clauses-clause-end.ensures.value) in
    let s = laid_as c.loop-clause.pool c.loop-clause.place in
    let e = gather_place f (length q.clauses) i here in (
      here,
      subst (λ m. Enough m s (f i)) (sym c.loop-clause.auto.pool)
          (enough_front (length c.args.pool.now) s (f i) _ (subst (Enough (length c.args.pool.now) s) e c.loop-clause.invariant.1)),
    )

pub loop-clause-preserved : goal.loop-clause-preserved
loop-clause-preserved c =
    let q = qbf c.args.self.now.formula.now.parts in
    let f = clause_records q.clauses q.variables c.args.self.now.side (level_at q c.args.self.now.level) c.args.self.now.last in
    let i = c.loop-clause.clause in
    let here : i < length q.clauses = omega (arith, c.clauses-clause-end.ensures.value) in
    let s = laid_as c.loop-clause.pool c.loop-clause.place in
    let e = gather_place f (length q.clauses) i here in
    let rest = gather f (drop (i + 1) (below (length q.clauses))) in
    let size = length c.args.pool.now in (
      ap (λ t. laid t rest) c.write_clause-place.ensures ∙ sym (laid_append s (f i) rest) ∙ sym (ap (laid s) e) ∙ c.loop-clause.invariant.0,
      subst (λ t. Enough size t rest) (sym c.write_clause-place.ensures) (enough_rest size s (f i) rest (subst (Enough size s) e c.loop-clause.invariant.1)),
    )

pub returns : goal.returns
returns c =
    let q = qbf c.args.self.now.formula.now.parts in
    let f = clause_records q.clauses q.variables c.args.self.now.side (level_at q c.args.self.now.level) c.args.self.now.last in
    let s = laid_as c.loop-clause.pool c.loop-clause.place in
    sym (at_drop_all (λ l. laid s (gather f l)) (below (length q.clauses)) c.loop-clause.clause (omega (arith, length_from 0 (length q.clauses), c.clauses-clause-end.ensures.value))) ∙ c.loop-clause.invariant.0
