-- What a step writes: an entry at a level, and a record that a level learns.
use Rattle.std.specs.Prelude.{ℕ, suc, ◌+◌, Bool, true, false, List, ℤ, pos, negsuc, slice_set}
use Rattle.layout.specs.declared.game.Level.{Level}
use Rattle.layout.specs.declared.game.Game.{Game}
use Rattle.layout.specs.Table.{level_of}
use Rattle.layout.specs.Laying.{Laid, lay}

-- the signal of clause i that comes behind `base`, or its opposite
abbrev pub signed : Bool → ℕ → ℕ → ℤ
signed false base i = pos (suc (base + i))
signed true base i = negsuc (base + i)

-- a level with other heads
abbrev pub entries_to : ℕ → Level → Level
entries_to head l = record { side = l.side; variables = l.variables; chain = l.chain; entries = head; satisfied = l.satisfied; values = l.values }

abbrev pub chain_to : ℕ → Level → Level
chain_to head l = record { side = l.side; variables = l.variables; chain = head; entries = l.entries; satisfied = l.satisfied; values = l.values }

-- a game with another level at a place, and other words in use
abbrev pub with_level : Game → ℕ → Level → ℕ → Game
with_level g m l used = record {
  variables = g.variables;
  clauses = g.clauses;
  depth = g.depth;
  levels = slice_set g.levels m l;
  formula = g.formula;
  present = g.present;
  number = g.number;
  used = used;
  words = g.words;
  verdict = g.verdict;
}

-- the record is written in front of the entries of the level at m; in front of its clause chain
abbrev pub entry_written : Game → List ℤ → ℕ → List ℤ → Laid
entry_written g pool m numbers = lay (record { words = pool; used = g.used; head = (level_of g m).entries }) numbers

abbrev pub record_written : Game → List ℤ → ℕ → List ℤ → Laid
record_written g pool m numbers = lay (record { words = pool; used = g.used; head = (level_of g m).chain }) numbers
