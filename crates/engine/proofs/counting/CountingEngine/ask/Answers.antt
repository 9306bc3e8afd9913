use Rattle.std.proofs.Common.{◌≡◌, ◌++◌, length, drop, Some, None, refl, ap, ◌∙◌, arith}
use Rattle.std.proofs.lemmas.List.{take_all}
use Rattle.pool.specs.Chains.{records_of}
use Rattle.engine.specs.Asking.{asked}
use Rattle.engine.specs.Meaning.{clauses, Taken}
use Rattle.engine.specs.Count.{Least, numbered}
use Rattle.engine.proofs.Agree.{clauses_literals}
use Rattle.engine.proofs.Counts.{clash_from_none, first_from_some, least_same}
use Rattle.engine.proofs.Parts.{part_same}
use Rattle.engine.proofs.counting.CountingEngine.ask.Goals as goal

pub returns-in-Some : goal.returns-in-Some
returns-in-Some c =
    let q = asked c.args.question in
    let taken : Taken 24 q (length c.args.out.now) = rw c.largest.ensures at c.in_ok-admit.ensures in
    let same : records_of c.new-chain.result ≡ clauses q = c.new-chain.ensures.records (c.new-chain.ensures.sound.1 taken.proper.sound) in
    let least : Least q.signals (clauses q) q.assumed (Some c.in-Some.n) = least_same _ _ _ _ q.assumed (Some c.in-Some.n) c.new-chain.ensures.signals same c.in-Some.ensures in
    let a = numbered q.signals c.in-Some.n in
    record {
      answered = (taken, (a, least.1, c.write_values.ensures));
      first = (a, c.write_values.ensures, first_from_some q.signals (clauses q) q.assumed (clauses_literals q taken.proper) taken.proper.literals c.in-Some.n least);
      named = tt;
    }

pub returns-in-None : goal.returns-in-None
returns-in-None c =
    let q = asked c.args.question in
    let taken : Taken 24 q (length c.args.out.now) = rw c.largest.ensures at c.in_ok-admit.ensures in
    let same : records_of c.new-chain.result ≡ clauses q = c.new-chain.ensures.records (c.new-chain.ensures.sound.1 taken.proper.sound) in
    let least : Least q.signals (clauses q) q.assumed None = least_same _ _ _ _ q.assumed None c.new-chain.ensures.signals same c.in-None.ensures in
    let xs = q.assumed in
    let written = c.copy_front.ensures ∙ ap (λ l. l ++ drop (length xs) c.args.out.now) (take_all (length xs) xs (omega arith)) in
    record {
      answered = (taken, (xs, refl, part_same xs, clash_from_none q.signals (clauses q) xs (clauses_literals q taken.proper) taken.proper.literals least, written));
      first = tt;
      named = written;
    }
