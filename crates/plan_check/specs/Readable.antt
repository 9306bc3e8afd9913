-- What check knows of table and pool before it looks at their levels.
use Rattle.std.specs.Prelude.{◌≡◌, List, length, ℤ}
use Rattle.layout.specs.declared.game.Game.{Game}
use Rattle.layout.specs.Table.{Limits}
use Rattle.soundness.specs.Soundness.{SoundPool}

pub record Readable (g : Game) (pool : List ℤ) : Type 0 where
  pub limits : Limits g
  pub places : length g.levels ≡ 32
  pub sound : SoundPool g pool
