-- A game as table and pool show it: the view of its levels, their chains and entries, the present place and the verdict.
use Rattle.std.specs.Prelude.{ℕ, ◌+◌, ◌*◌, false, List, get_or, take, ℤ, Some, None, Option, slice_index_or}
use Rattle.std.proofs.Math.Option.{none, some, Option as Maybe}
use Rattle.formula.specs.Lists.{keep, each, from}
use Rattle.formula.specs.Game.{Values, Clauses}
use Rattle.formula.specs.Backward.{turned}
use Rattle.formula.specs.declared.side.Side.{Side}
use Rattle.pool.specs.Records.{records}
use Rattle.strategy.specs.Records.{entry_of, values_of}
use Rattle.strategy.specs.View.{LevelView, GameView}
use Rattle.layout.specs.declared.game.Level.{Level}
use Rattle.layout.specs.declared.game.Game.{Game}

-- the variables of a level, ascending, and their values
abbrev pub variables_in : ℕ → Level → List ℕ
variables_in n l = keep (λ v. get_or l.variables v false) (from 1 n)

abbrev pub values_in : ℕ → Level → Values
values_in n l = values_of (λ v. get_or l.values v false) (variables_in n l)

abbrev pub view_level : ℕ → List ℤ → Level → LevelView
view_level n pool l = record {
  side = l.side;
  variables = variables_in n l;
  chain = records pool l.chain;
  entries = each (entry_of n) (records pool l.entries);
  before = λ i. slice_index_or l.satisfied i false;
  kept = values_in n l;
}

abbrev pub maybe : Option Side → Maybe Side
maybe None = none
maybe (Some w) = some w

abbrev pub view_of : Game → List ℤ → GameView
view_of g pool = record { present = g.present; levels = each (view_level g.variables pool) (take g.depth g.levels); verdict = maybe g.verdict }

-- the formula's clauses: clause 1 lies lowest, at the end of its chain
abbrev pub clauses_of : Game → List ℤ → Clauses
clauses_of g pool = turned (records pool g.formula)

-- the signals: variables, t and b of each clause
abbrev pub signals_of : Game → ℕ
signals_of g = g.variables + 2 * g.clauses
