use Rattle.std.proofs.Common.{◌+◌, ◌-◌, refl, ◌∙◌, ap₂, arith, rules, tests}
use Rattle.std.proofs.lemmas.Iterator.{YieldsList-from_range}
use Rattle.std.proofs.lemmas.Iterator.Search.{find_from_yields_List}
use Rattle.formula.specs.Lists.{keep, from}
use Rattle.formula.specs.Found.{first_of, binds_at}
use Rattle.formula.proofs.Ranges.{first_found}
use Rattle.formula.proofs.parts.Parts.next_variable.Goals as goal

pub returns : goal.returns
returns c =
    let p = binds_at c.args.self.now.bound c.args.level in
    let i = c.in_ok-next.next in
    let n = c.args.self.now.variables + 1 - i in
    first_found p i n c.find.result (find_from_yields_List p _ _ c.find.result c.find.ensures.ran (YieldsList-from_range i (c.args.self.now.variables + 1) n (cc) refl) (λ x b q k. search (rules, tests)))
    ∙ ap₂ (λ j k. first_of (keep p (from j k))) (omega arith) (omega arith)
