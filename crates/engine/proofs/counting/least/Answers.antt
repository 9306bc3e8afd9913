use Rattle.std.proofs.Common.{rules}
use Rattle.std.proofs.lemmas.Iterator.{first_from_Range}
use Rattle.pool.specs.Chains.{records_of, signals_of}
use Rattle.engine.specs.Meaning.{Meets}
use Rattle.engine.specs.Count.{numbered}
use Rattle.engine.proofs.Counts.{least_from}
use Rattle.engine.proofs.counting.least.Goals as goal

pub returns : goal.returns
returns c =
    let cs = records_of c.args.chain in
    let xs = c.args.assumptions.now in
    let s = signals_of c.args.chain in
    least_from s cs xs _ c.find.result (search rules)
    (first_from_Range _ _ _ _ (λ n. Meets cs xs (numbered s n)) (λ n. Meets cs xs (numbered s n) → ⊥) c.find.ensures.ran
    (λ x q k. search rules)
    (λ x q k. (search rules, search rules)))
