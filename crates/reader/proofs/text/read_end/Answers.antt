use Rattle.std.proofs.Common.{sym, ap, ◌∙◌}
use Rattle.reader.specs.Words.{end, left_at}
use Rattle.reader.specs.Text.{clauses}
use Rattle.reader.specs.Left.{left, size, drawn, formula_in}
use Rattle.reader.proofs.Tokens.{reading_at, finished}
use Rattle.reader.proofs.text.read_end.Goals as goal

pub returns-in-End : goal.returns-in-End
returns-in-End c k =
    reading_at k (size c.args.words.now) (clauses 0) (drawn c.args.draft) (left c.args.words.now) (left c.next.new.self) (end c.in-End.at) c.in-End.ensures.said
    (ap (λ t. left_at t c.next.new.self.at) c.in-End.ensures.text ∙ c.in-End.ensures.left)
    ∙ finished c.args.draft.parts c.finish.result c.in-End.at c.finish.ensures
    ∙ ap formula_in (sym c.ok_or.ensures.value)
