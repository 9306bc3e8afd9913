use Rattle.std.proofs.Common.{◌+◌, length, ap, ◌∙◌, arith, rules, tests}
use Rattle.std.proofs.lemmas.Iterator.{YieldsList-from_range}
use Rattle.std.proofs.lemmas.Iterator.Consumers.{count_from_yields_List, YieldsList-from_filter}
use Rattle.formula.specs.Found.{binds_at}
use Rattle.formula.proofs.Ranges.{filter_kept}
use Rattle.formula.proofs.parts.Parts.count_variables.Goals as goal

pub returns-clause-count : goal.returns-clause-count
returns-clause-count c =
    let p = binds_at c.args.self.now.bound c.args.level in
    let n = c.args.self.now.variables in
    count_from_yields_List c.filter.result c.count.result c.count.ensures.ran
    (YieldsList-from_filter _ p (YieldsList-from_range 1 (n + 1) n (cc) (omega arith)) c.filter.ensures.closure (λ x b q k. search (rules, tests)))
    ∙ ap length (filter_kept p 1 n)
