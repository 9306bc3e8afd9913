use Rattle.std.proofs.Common.{◌≡◌, ◌+◌, List, ℤ, refl, sym, subst, rules}
use Rattle.std.specs.List.{AllByRecursion}
use Rattle.std.proofs.lemmas.Iterator.{cases_from_all}
use Rattle.std.proofs.lemmas.Iterator.Adapters.{serves_from_places}
use Rattle.std.proofs.lemmas.Iterator.Consumers.{YieldsList-from_first}
use Rattle.pool.specs.Records.{records, Literal}
use Rattle.pool.specs.Chains.{records_of}
use Rattle.pool.proofs.Tested.{literals_of}
use Rattle.strategy.specs.Check.{RecordCheck}
use Rattle.layout.specs.Table.{level_of}
use Rattle.layout.specs.Shown.{variables_at}
use Rattle.layout.specs.Viewed.{clauses_of, signals_of}
use Rattle.soundness.proofs.Chained.{all_told}
use Rattle.plan_check.specs.Places.{shown_from}
use Rattle.plan_check.proofs.chains.chain_holds.Goals as goal

pub all-requires-clause-callable : goal.all-requires-clause-callable
all-requires-clause-callable c =
    let chain = c.chain.result in
    serves_from_places (YieldsList-from_first (λ x. x.now) (λ c'. records_of c') (records_of chain) refl)
    (λ x q k. search rules)
    (λ x k h e.
    let named : AllByRecursion (Literal (signals_of c.args.game.now)) x.now =
    subst (λ s. AllByRecursion (Literal s) x.now) c.chain.ensures.signals (subst (AllByRecursion (Literal chain.signals)) (sym e) (literals_of chain k x.now h)) in
    search rules)

pub returns : goal.returns
returns c =
    let g = c.args.game.now in
    let pool = c.args.pool.now in
    let P : List ℤ → Type 0 = RecordCheck (clauses_of g pool) g.variables c.args.side (variables_at g c.args.m) (shown_from g pool (c.args.m + 1)) in
    let rs = records pool (level_of g c.args.m).chain in
    let same : records_of c.chain.result ≡ rs = c.chain.ensures.records (c.chain.ensures.sound.1 (c.requires.0.sound.levels c.args.m c.requires.1).chain) in
    all_told P rs c.all.result
    (cases_from_all c.all.new.self _ c.all.result P (λ x. P x → ⊥) c.all.ensures.ran (YieldsList-from_first (λ x. x.now) (λ c'. records_of c') rs same)
    (λ x q k. search rules) (λ x q k. search rules))
