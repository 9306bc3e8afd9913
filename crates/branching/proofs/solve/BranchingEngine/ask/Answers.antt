use Rattle.std.proofs.Common.{◌≡◌, length, sym, subst}
use Rattle.pool.specs.Chains.{records_of}
use Rattle.engine.specs.Asking.{asked}
use Rattle.engine.specs.Meaning.{clauses, Taken, Clash}
use Rattle.branching.specs.Search.{used}
use Rattle.branching.proofs.Uses.{part_used}
use Rattle.branching.proofs.solve.BranchingEngine.ask.Goals as goal

pub returns-else-solve-clause-answered : goal.returns-else-solve-clause-answered
returns-else-solve-clause-answered c =
    let q = asked c.args.question in
    let taken : Taken 1280 q (length c.args.out.now) = rw c.largest.ensures at c.in_ok-admit.ensures in
    let marks = c.solve.new.marks in
    let same : records_of c.new-chain.result ≡ clauses q = c.new-chain.ensures.records (c.new-chain.ensures.sound.1 taken.proper.sound) in
    let clash : Clash (clauses q) (used marks q.assumed) = subst (λ cs. Clash cs (used marks q.assumed)) same c.if-solve.ensures in
    (taken, (used marks q.assumed, sym c.write_used-c.ensures.count, part_used marks q.assumed, clash, c.write_used-c.ensures.words))
