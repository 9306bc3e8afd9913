use Rattle.std.proofs.Common.{◌≡◌, length, drop, replicate, pos, sym, ◌∙◌, subst}
use Rattle.std.proofs.lemmas.List.{take_at}
use Rattle.engine.specs.Asking.{asked}
use Rattle.engine.specs.Meaning.{Answered}
use Rattle.calls.proofs.acts.ask.Goals as goal

pub returns : goal.returns
returns g c =
    let made = c.in_ok-words.ensures.0 in
    let out = c.ask-answer.new.out in
    let long : length out ≡ c.in_ok-words.words.len = c.ask-answer.auto.out ∙ c.as_mut_slice.ensures.len in
    let blank = c.as_mut_slice.ensures.value ∙ made in
    subst (λ ws. Answered g.E.Engine.most (asked c.args.question) (replicate c.args.room (pos 0)) ws c.ask-answer.result) (sym (take_at out (drop (length out) c.in_ok-words.words.items) c.in_ok-words.words.len long))
    (subst (λ old. Answered g.E.Engine.most (asked c.args.question) old out c.ask-answer.result) blank c.ask-answer.ensures)
