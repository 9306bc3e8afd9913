use Rattle.std.proofs.Common.{◌≡◌, Bool, false, List, ℤ, get_or, sym, subst, rules}
use Rattle.std.proofs.lemmas.Iterator.Adapters.{serves_from_places}
use Rattle.std.proofs.lemmas.Iterator.Consumers.{YieldsList-from_first}
use Rattle.std.proofs.lemmas.List.Elements.{All-from_recursion, All-get_or}
use Rattle.std.proofs.lemmas.Iterator.Search.{any_from_yields_List}
use Rattle.pool.specs.Records.{records}
use Rattle.pool.specs.Chains.{records_of}
use Rattle.strategy.specs.Entries.{Entry}
use Rattle.strategy.specs.Records.{entry_of}
use Rattle.formula.specs.Lists.{all}
use Rattle.layout.specs.Table.{level_of}
use Rattle.layout.specs.Shown.{variables_at}
use Rattle.soundness.specs.Soundness.{EntryForm}
use Rattle.plan_check.proofs.Entering.{entered}
use Rattle.plan_check.proofs.learned.is_entered.Goals as goal

pub any-requires-clause-callable : goal.any-requires-clause-callable
any-requires-clause-callable c =
    let g = c.args.game.now in
    let P : List ℤ → Type 0 = EntryForm g.variables g.clauses (level_of g c.args.m).side (variables_at g c.args.m) in
    let rs = records c.args.pool.now (level_of g c.args.m).entries in
    let same : records_of c.chain.result ≡ rs = c.chain.ensures.records (c.chain.ensures.sound.1 c.requires.1.1.chain) in
    serves_from_places (YieldsList-from_first (λ x. x.now) (λ c'. records_of c') rs same)
    (λ x q k. search rules)
    (λ x k h e.
    let form : P x.now = subst P (sym e) (All-get_or P rs k x.now h (All-from_recursion P rs c.requires.1.1.forms)) in
    search rules)

pub returns : goal.returns
returns c =
    let g = c.args.game.now in
    let p : Entry → Bool = λ e. all (λ i. get_or c.args.flags.now i false) e.set in
    let rs = records c.args.pool.now (level_of g c.args.m).entries in
    let same : records_of c.chain.result ≡ rs = c.chain.ensures.records (c.chain.ensures.sound.1 c.requires.1.1.chain) in
    entered p (entry_of g.variables) rs c.any.result
    (any_from_yields_List (λ xs. p (entry_of g.variables xs)) c.any.new.self _ c.any.result c.any.ensures.ran (YieldsList-from_first (λ x. x.now) (λ c'. records_of c') rs same) (λ x b q k. search rules))
