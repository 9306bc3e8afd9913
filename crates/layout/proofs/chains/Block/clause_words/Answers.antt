use Rattle.std.proofs.Common.{◌≡◌, ◌+◌, ◌*◌, sym, ap, ◌∙◌}
use Rattle.formula.specs.Model.{qbf, level_at}
use Rattle.strategy.specs.Records.{literals_on}
use Rattle.layout.specs.Laying.{words_for}
use Rattle.layout.specs.Opening.{clause_records}
use Rattle.layout.proofs.Counted.{words_of_pairs}
use Rattle.layout.proofs.chains.Block.clause_words.Goals as goal

pub returns-in-Device-clause-words : goal.returns-in-Device-clause-words
returns-in-Device-clause-words c =
    let q = qbf c.args.self.now.formula.now.parts in
    let ls = literals_on q.clauses (level_at q c.args.self.now.level) c.args.clause in
    let count = c.count_on-count.result in
    let four : (c.head_words-in-Device.result + 2) * count ≡ 4 * count = ap (λ h. (h + 2) * count) c.head_words-in-Device.ensures in
    four ∙ ap (λ m. 4 * m) c.count_on-count.ensures.count ∙ sym (words_of_pairs q.clauses q.variables c.args.clause ls)
    ∙ ap (λ σ. words_for (clause_records q.clauses q.variables σ (level_at q c.args.self.now.level) c.args.self.now.last c.args.clause)) (sym c.in-Device.is)
