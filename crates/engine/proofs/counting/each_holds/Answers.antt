use Rattle.std.proofs.Common.{◌≡◌, true, false, refl, sym, subst, rules}
use Rattle.std.specs.List.{AllByRecursion}
use Rattle.std.proofs.lemmas.Iterator.{cases_from_all}
use Rattle.std.proofs.lemmas.Iterator.Adapters.{serves_from_places}
use Rattle.std.proofs.lemmas.Iterator.Consumers.{YieldsList-from_first}
use Rattle.pool.specs.Records.{Literal}
use Rattle.pool.specs.Chains.{records_of}
use Rattle.pool.proofs.Tested.{literals_of}
use Rattle.engine.specs.Truth.{clause}
use Rattle.engine.specs.Count.{numbered}
use Rattle.engine.proofs.Truths.{chain_from}
use Rattle.engine.proofs.counting.each_holds.Goals as goal

pub all-requires-clause-callable : goal.all-requires-clause-callable
all-requires-clause-callable c =
    let chain = c.args.chain in
    serves_from_places (YieldsList-from_first (λ x. x.now) (λ c'. records_of c') (records_of chain) refl)
    (λ x q k. search rules)
    (λ x k h e.
    let named : AllByRecursion (Literal c.signals-s.result) x.now =
    rw c.signals-s.ensures (subst (AllByRecursion (Literal chain.signals)) (sym e) (literals_of chain k x.now h)) in
    search rules)

pub returns : goal.returns
returns c =
    let chain = c.args.chain in
    let a = numbered chain.signals c.args.n in
    chain_from a (records_of chain) c.all.result
    (cases_from_all c.all.new.self _ c.all.result (λ xs. clause a xs ≡ true) (λ xs. clause a xs ≡ false) c.all.ensures.ran
    (YieldsList-from_first (λ x. x.now) (λ c'. records_of c') (records_of chain) refl)
    (λ x q k. search rules) (λ x q k. search rules))
