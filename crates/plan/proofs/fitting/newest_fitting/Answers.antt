use Rattle.std.proofs.Common.{◌≡◌, Bool, false, List, ℤ, get_or, sym, subst, ap, ◌∙◌, rules}
use Rattle.std.proofs.lemmas.Iterator.Adapters.{serves_from_places}
use Rattle.std.proofs.lemmas.Iterator.Consumers.{YieldsList-from_first}
use Rattle.std.proofs.lemmas.List.Elements.{All-from_recursion, All-get_or}
use mathlib.Core.Option.{some}
use Rattle.strategy.specs.Entries.{Entry, fits_when}
use Rattle.strategy.specs.RecordedPlan.{values_in}
use Rattle.strategy.specs.Records.{entry_of}
use Rattle.pool.specs.Records.{records}
use Rattle.pool.specs.Chains.{records_of}
use Rattle.layout.specs.Table.{level_of}
use Rattle.layout.specs.Shown.{variables_at}
use Rattle.soundness.specs.Soundness.{EntryForm}
use Rattle.plan.proofs.Entered.{found_by, found_none, found_some, found_in}
use Rattle.plan.proofs.fitting.newest_fitting.Goals as goal

pub find-requires-clause-callable : goal.find-requires-clause-callable
find-requires-clause-callable c =
    let g = c.args.game.now in
    let P : List ℤ → Type 0 = EntryForm g.variables g.clauses (level_of g c.args.m).side (variables_at g c.args.m) in
    let rs = records c.args.pool.now (level_of g c.args.m).entries in
    let same : records_of c.chain-entries.result ≡ rs = c.chain-entries.ensures.records (c.chain-entries.ensures.sound.1 c.requires.1.1.chain) in
    serves_from_places (YieldsList-from_first (λ x. x.now) (λ c'. records_of c') rs same)
    (λ x q k. search rules)
    (λ x k h e.
    let form : P x.now = subst P (sym e) (All-get_or P rs k x.now h (All-from_recursion P rs c.requires.1.1.forms)) in
    λ y is _ _ _ _ _ _ _ _ _. (c.requires.0, (c.requires.1.0, (c.count_variables-count.ensures.count, subst (λ z. P z.now) (sym is) form))))

pub split_at-requires : goal.split_at-requires
split_at-requires c =
    let g = c.args.game.now in
    let p : Entry → Bool = fits_when (level_of g c.args.m).side (λ i. get_or c.args.satisfied.now i false) in
    let f : List ℤ → Entry = entry_of g.variables in
    let rs = records c.args.pool.now (level_of g c.args.m).entries in
    let same : records_of c.chain-entries.result ≡ rs = c.chain-entries.ensures.records (c.chain-entries.ensures.sound.1 c.requires.1.1.chain) in
    let found = found_by p f rs c.find.new.self _ c.find.result c.find.ensures.ran (YieldsList-from_first (λ x. x.now) (λ c'. records_of c') rs same)
    (λ x b q k. let t : b ≡ p (f k.shown.now.now) = search rules in (search rules, subst (λ z. b ≡ p (f z.now)) k.shows t)) in
    let P : List ℤ → Type 0 = EntryForm g.variables g.clauses (level_of g c.args.m).side (variables_at g c.args.m) in
    (c.requires.0, (c.requires.1.0, (c.count_variables-count.ensures.count, found_in p f P rs c.find.result c.in_ok-entry.entry found c.in_ok-entry.was c.requires.1.1.forms)))

pub returns-in_err-entry-clause-found : goal.returns-in_err-entry-clause-found
returns-in_err-entry-clause-found c =
    let g = c.args.game.now in
    let p : Entry → Bool = fits_when (level_of g c.args.m).side (λ i. get_or c.args.satisfied.now i false) in
    let f : List ℤ → Entry = entry_of g.variables in
    let rs = records c.args.pool.now (level_of g c.args.m).entries in
    let same : records_of c.chain-entries.result ≡ rs = c.chain-entries.ensures.records (c.chain-entries.ensures.sound.1 c.requires.1.1.chain) in
    let found = found_by p f rs c.find.new.self _ c.find.result c.find.ensures.ran (YieldsList-from_first (λ x. x.now) (λ c'. records_of c') rs same)
    (λ x b q k. let t : b ≡ p (f k.shown.now.now) = search rules in (search rules, subst (λ z. b ≡ p (f z.now)) k.shows t)) in
    rw c.from_residual.ensures (ap values_in (found_none p f rs c.find.result found c.in_err-entry.was))

pub returns : goal.returns
returns c =
    let g = c.args.game.now in
    let p : Entry → Bool = fits_when (level_of g c.args.m).side (λ i. get_or c.args.satisfied.now i false) in
    let f : List ℤ → Entry = entry_of g.variables in
    let rs = records c.args.pool.now (level_of g c.args.m).entries in
    let same : records_of c.chain-entries.result ≡ rs = c.chain-entries.ensures.records (c.chain-entries.ensures.sound.1 c.requires.1.1.chain) in
    let found = found_by p f rs c.find.new.self _ c.find.result c.find.ensures.ran (YieldsList-from_first (λ x. x.now) (λ c'. records_of c') rs same)
    (λ x b q k. let t : b ≡ p (f k.shown.now.now) = search rules in (search rules, subst (λ z. b ≡ p (f z.now)) k.shows t)) in
    record {
      found = ap values_in (found_some p f rs c.find.result c.in_ok-entry.entry found c.in_ok-entry.was) ∙ ap (λ (x : Entry). some x.values) c.split_at.ensures.is;
      count = c.split_at.ensures.count;
    }
