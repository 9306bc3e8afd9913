-- What a step does, from the parts that it is made of.
use Rattle.std.proofs.Common.{◌≡◌, ◌<◌, ◌≤◌, false, T, ltb, List, [], length, take, ℤ, None, sym, ap, ◌∙◌, subst}
use Rattle.std.proofs.lemmas.List.{length-take-le, length-map}
use Rattle.std.proofs.lemmas.Bool.{cond-true, cond-false, le-leb, lt-leb, le-ltb}
use Rattle.formula.specs.declared.side.Side.{Side}
use Rattle.strategy.specs.Next.{no_level_winner}
use Rattle.strategy.specs.Next.{Answer as Said, refused}
use Rattle.strategy.specs.View.{AnswersView}
use Rattle.strategy.specs.View.{stepped as stepped_view}
use Rattle.engine.specs.declared.question.Answer.{Answer}
use Rattle.layout.specs.declared.game.Game.{Game}
use Rattle.layout.specs.Viewed.{view_level, view_of, clauses_of}
use Rattle.rules.specs.Changes.{held, decided_for, changed, stepped, said, Marked}
use Rattle.rules.specs.Spare.{Spare}
use Rattle.rules.proofs.Stepping.{Follows}
use Rattle.rules.proofs.Stepped.{answer_follows, unasked_follows}
use Rattle.game.specs.Replies.{Replied}
use Rattle.game.specs.Steps.{Played}

module _ (g : Game) (pool : List ℤ) (spare : Spare g pool) (long : g.depth ≤ length g.levels) (undecided : g.verdict ≡ None) (g' : Game) (pool' : List ℤ) where
  done : (a : Said) → AnswersView g.variables g.clauses (view_of g pool) a → held g' pool' ≡ stepped g pool a
      → Follows g pool (stepped g pool a) (stepped_view (clauses_of g pool) g.variables (view_of g pool) a) → Played g pool g' pool'
  done a answers rule f =
      let view = stepped_view (clauses_of g pool) g.variables (view_of g pool) a in
      let f' : Follows g pool (held g' pool') view = subst (λ s. Follows g pool s view) (sym rule) f in
      record {
        answer = a;
        answers = answers;
        rule = rule;
        shows = f'.shows;
        clauses = f'.clauses;
        variables = f'.variables;
        sound = f'.sound;
        limits = f'.limits;
        filled = f'.filled;
      }

  -- after an answer about the present level
  pub done_answered : (here : g.present < g.depth) (a : Answer) (words : List ℤ) → Replied g pool a words → Marked g pool (said g a words)
      → held g' pool' ≡ changed g pool (said g a words) → Played g pool g' pool'
  done_answered here a words replied marked is =
      let ans = said g a words in
      done ans replied.answers (is ∙ sym (cond-false _ _ _ (lt-leb g.depth g.present here))) (answer_follows g pool spare long undecided ans here replied.of_level marked)

  -- with no level
  pub done_unasked : (none : g.depth ≤ g.present) (w : Side) → w ≡ no_level_winner (clauses_of g pool) → held g' pool' ≡ decided_for w (held g pool) → Played g pool g' pool'
  done_unasked none w who is =
      let count : length (view_of g pool).levels ≡ g.depth = length-map (take g.depth g.levels) (view_level g.variables pool) ∙ length-take-le g.depth g.levels long in
      let never : ltb g.present (length (view_of g pool).levels) ≡ false = ap (ltb g.present) count ∙ le-ltb g.present g.depth none in
      done (refused []) (λ t. absurd (subst T never t))
      (is ∙ ap (λ v. decided_for v (held g pool)) who ∙ sym (cond-true _ _ _ (le-leb g.depth g.present none)))
      (unasked_follows g pool spare long undecided (refused []) none)
