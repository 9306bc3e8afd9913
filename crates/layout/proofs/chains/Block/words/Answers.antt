use Rattle.std.proofs.Common.{◌+◌, ◌<◌, length, drop, ap, ◌∙◌, arith}
use Rattle.std.proofs.lemmas.List.{at_drop_all}
use Rattle.formula.specs.Lists.{below}
use Rattle.formula.specs.Model.{qbf, level_at}
use Rattle.formula.proofs.Ranges.{length_from}
use Rattle.strategy.specs.Records.{gather}
use Rattle.layout.specs.Laying.{words_for}
use Rattle.layout.specs.Opening.{clause_records}
use Rattle.layout.proofs.Room.{words_append, gather_place}
use Rattle.layout.proofs.chains.Block.words.Goals as goal

pub clause_words-total-requires : goal.clause_words-total-requires
clause_words-total-requires c = omega (arith, c.clauses-clause-end.ensures.value)

pub loop-clause-preserved : goal.loop-clause-preserved
loop-clause-preserved c =
    let q = qbf c.args.self.now.formula.now.parts in
    let f = clause_records q.clauses q.variables c.args.self.now.side (level_at q c.args.self.now.level) c.args.self.now.last in
    let i = c.loop-clause.clause in
    let here : i < length q.clauses = omega (arith, c.clauses-clause-end.ensures.value) in
    let rest = gather f (drop (i + 1) (below (length q.clauses))) in
    let e = ap words_for (gather_place f (length q.clauses) i here) ∙ words_append (f i) rest in
    let told = c.clause_words-total.ensures in
    (omega (arith, e, told.words, c.loop-clause.invariant.0), omega (arith, told.few, c.loop-clause.invariant.1))

pub returns : goal.returns
returns c =
    let q = qbf c.args.self.now.formula.now.parts in
    let f = clause_records q.clauses q.variables c.args.self.now.side (level_at q c.args.self.now.level) c.args.self.now.last in
    let e = at_drop_all (λ l. words_for (gather f l)) (below (length q.clauses)) c.loop-clause.clause (omega (arith, length_from 0 (length q.clauses), c.clauses-clause-end.ensures.value)) in
    record { words = omega (arith, e, c.loop-clause.invariant.0); few = omega (arith, c.loop-clause.invariant.1, c.clauses-clause-end.ensures.few) }
