-- What a table and a pool show of a game: the variables of its levels, its clauses, its entries. Levels count from 0.
use Rattle.std.specs.Prelude.{ℕ, Bool, false, List, ℤ, slice_index_or}
use Rattle.formula.specs.Lists.{keep, each, from, below}
use Rattle.pool.specs.Records.{records}
use Rattle.strategy.specs.Entries.{Entry}
use Rattle.strategy.specs.Records.{entry_of}
use Rattle.layout.specs.Table.{level_of}
use Rattle.layout.specs.declared.game.Game.{Game}

-- the level m binds the variable v; its variables, ascending; those of each level
abbrev pub binds_in : Game → ℕ → ℕ → Bool
binds_in g m v = slice_index_or (level_of g m).variables v false

abbrev pub variables_at : Game → ℕ → List ℕ
variables_at g m = keep (binds_in g m) (from 1 g.variables)

abbrev pub levels_of : Game → List (List ℕ)
levels_of g = each (variables_at g) (below g.depth)

-- the entries of the level m, the newest first
abbrev pub entries_in : Game → List ℤ → ℕ → List Entry
entries_in g pool m = each (entry_of g.variables) (records pool (level_of g m).entries)
