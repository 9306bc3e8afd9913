-- Lines and columns of a text, from 1. A line ends with its line feed.
use Rattle.std.specs.Prelude.{ℕ, ◌+◌, cond, List, [], ◌∷◌, take, ◌==◌}
use Rattle.reader.specs.declared.positions.Position.{Position}

-- where one stands after these bytes
abbrev pub after : ℕ → ℕ → List ℕ → Position
after line column [] = record { line = line; column = column }
after line column (b ∷ bs) = cond (b == 10) (after (line + 1) 1 bs) (after line (column + 1) bs)

abbrev pub position_at : List ℕ → ℕ → Position
position_at t offset = after 1 1 (take offset t)
