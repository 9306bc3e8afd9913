use Rattle.std.proofs.Common.{length, refl, sym, subst, rules}
use Rattle.std.specs.Bool.{⊤}
use Rattle.std.specs.List.{AllByRecursion}
use Rattle.std.proofs.lemmas.Iterator.{first_from_find}
use Rattle.std.proofs.lemmas.Iterator.Adapters.{serves_from_places}
use Rattle.std.proofs.lemmas.Iterator.Consumers.{YieldsList-from_first}
use Rattle.pool.specs.Records.{Literal}
use Rattle.pool.specs.Chains.{records_of}
use Rattle.pool.proofs.Tested.{literals_of}
use Rattle.propagation.specs.Steps.{Forced}
use Rattle.propagation.proofs.Growth.{reason_from}
use Rattle.propagation.proofs.conflict.reason.Goals as goal

pub find-requires-clause-callable : goal.find-requires-clause-callable
find-requires-clause-callable c =
    let chain = c.args.chain in
    serves_from_places (YieldsList-from_first (λ x. x.now) (λ c'. records_of c') (records_of chain) refl)
    (λ x q k. search rules)
    (λ x k h e.
    let named : AllByRecursion (Literal (length c.args.values.now)) x.now =
    rw c.requires at (subst (AllByRecursion (Literal chain.signals)) (sym e) (literals_of chain k x.now h)) in
    search rules)

pub returns : goal.returns
returns c =
    let chain = c.args.chain in
    reason_from chain c.args.values.now c.args.x c.find.result c.requires
    (first_from_find c.find.new.self _ c.find.result (λ xs. Forced c.args.values.now xs c.args.x) (λ xs. ⊤) c.find.ensures.ran
    (YieldsList-from_first (λ x. x.now) (λ c'. records_of c') (records_of chain) refl)
    (λ x q k. search rules) (λ x q k. search rules))
