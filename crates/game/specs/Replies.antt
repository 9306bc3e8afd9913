-- What an engine's words say about the present level of a game.
use Rattle.std.specs.Prelude.{List, ℤ}
use Rattle.strategy.specs.View.{AnswersView}
use Rattle.engine.specs.declared.question.Answer.{Answer}
use Rattle.layout.specs.declared.game.Game.{Game}
use Rattle.layout.specs.Viewed.{view_of}
use Rattle.rules.specs.Changes.{said}
use Rattle.rules.specs.Spare.{Readable, OfLevel}

-- They can be read, and say an answer that an engine may give, of the level's variables and clauses.
pub record Replied (g : Game) (pool : List ℤ) (a : Answer) (words : List ℤ) : Type 0 where
  pub readable : Readable g a words
  pub of_level : OfLevel g (said g a words)
  pub answers : AnswersView g.variables g.clauses (view_of g pool) (said g a words)
