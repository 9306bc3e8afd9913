-- What a game that open has begun shows: the formula is proper, the pool has its clauses, and table and pool show the state from which its games start.
use Rattle.std.specs.Prelude.{◌≡◌, List, ℤ}
use Rattle.formula.specs.Game.{Qbf}
use Rattle.formula.specs.Proper.{Proper}
use Rattle.strategy.specs.Steps.{opened}
use Rattle.strategy.specs.View.{Shows}
use Rattle.layout.specs.declared.game.Game.{Game}
use Rattle.layout.specs.Viewed.{view_of, clauses_of}

pub record Begun (q : Qbf) (g : Game) (pool : List ℤ) : Type 0 where
  pub proper : Proper q
  pub clauses : clauses_of g pool ≡ q.clauses
  pub shows : Shows q.clauses q.variables (opened q.first q.levels) (view_of g pool)
