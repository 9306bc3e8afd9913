use Rattle.std.proofs.Common.{◌≡◌, ◌+◌, ◌-◌, min, length, take, reverse, count_by, ap, ◌∙◌, ap₂, rules, tests}
use Rattle.std.proofs.lemmas.List.{take_min}
use Rattle.std.proofs.lemmas.List.Folds.{length-prefix_len}
use Rattle.std.proofs.lemmas.Iterator.Adapters.{YieldsList-from_rev_slice}
use Rattle.std.proofs.lemmas.Iterator.Consumers.{count_from_yields_List}
use Rattle.std.proofs.lemmas.Iterator.Search.{YieldsList-from_take_while}
use Rattle.reader.specs.Lines.{after}
use Rattle.reader.proofs.Lining.{feed, in_line, last_line, position_is}
use Rattle.reader.proofs.positions.position_of.Goals as goal

pub returns : goal.returns
returns c =
    let bs = take (c.min.result - 0) c.args.text.now in
    let upto : c.min.result - 0 ≡ min c.args.offset (length c.args.text.now) = search rules in
    let line : c.count.result ≡ count_by feed bs = search rules in
    let column : c.count-2.result ≡ length (take (last_line bs) (reverse bs)) =
    count_from_yields_List c.take_while.result c.count-2.result c.count-2.ensures.ran
    (YieldsList-from_take_while _ in_line (YieldsList-from_rev_slice bs (cc)) c.take_while.ensures.closure c.take_while.ensures.done (λ x b q k. search (rules, tests))) in
    ap₂ (λ l k. record { line = 1 + l; column = 1 + k }) line (column ∙ length-prefix_len in_line (reverse bs))
    ∙ position_is bs
    ∙ ap (after 1 1) (ap (λ k. take k c.args.text.now) upto ∙ take_min c.args.offset c.args.text.now)
