-- Which side has which level.
use Rattle.std.specs.Prelude.{ℕ, ◌%◌, Bool, true, false, cond, ◌==◌}
use Rattle.formula.specs.Game.{other}
use Rattle.formula.specs.declared.side.Side.{Side}
use Rattle.formula.specs.declared.side.Side.TheVariants.{Ours, Device}

-- the side of level m where level 1 is of the side σ: sides alternate
abbrev pub side_at : Side → ℕ → Side
side_at σ m = cond (m % 2 == 1) σ (other σ)

abbrev pub same_side : Side → Side → Bool
same_side Ours Ours = true
same_side Ours Device = false
same_side Device Ours = false
same_side Device Device = true
