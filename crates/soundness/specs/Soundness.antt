-- When a pool is sound for a game: it can be read as the formula, the chains and the entries that the table speaks of.
use Rattle.std.specs.Prelude.{◌≡◌, ℕ, suc, ◌<◌, ◌≤◌, List, length, ℤ, unsigned_abs}
use Rattle.formula.specs.Lists.{In, All, each}
use Rattle.formula.specs.Game.{choices}
use Rattle.formula.specs.Proper.{literals_of, Ascending, Bound}
use Rattle.formula.specs.declared.side.Side.{Side}
use Rattle.pool.specs.Records.{records, Sound}
use Rattle.strategy.specs.Entries.{Entry}
use Rattle.strategy.specs.Records.{entry_record}
use Rattle.layout.specs.Table.{level_of}
use Rattle.layout.specs.Shown.{variables_at, levels_of}
use Rattle.layout.specs.Viewed.{signals_of}
use Rattle.layout.specs.declared.game.Game.{Game}

-- A record has the form of an entry at a level of side σ with the variables vs: t for each clause of a set (−t at the device's level), by ascending
-- clauses of 1 to k, then a literal for each variable. With 3 variables and 3 clauses, 6 -3 has it at our level of the variable 3.
abbrev pub EntryForm : ℕ → ℕ → Side → List ℕ → List ℤ → Type 0
EntryForm n k σ vs rec = (e : Entry) × Ascending 0 k (each (λ i. suc i) e.set) × In e.values (choices vs) × (rec ≡ entry_record n σ e)

-- the formula's chain: k clauses of bound variables, with at most 4,096 literals
pub record SoundFormula (g : Game) (pool : List ℤ) : Type 0 where
  pub chain : Sound (signals_of g) pool g.used g.formula
  pub count : length (records pool g.formula) ≡ g.clauses
  pub few : literals_of (records pool g.formula) ≤ 4096
  pub bound : All (λ c. All (λ l. Bound (levels_of g) (unsigned_abs l)) c) (records pool g.formula)

-- the entries of the level m; both of its chains
pub record SoundEntries (g : Game) (pool : List ℤ) (m : ℕ) : Type 0 where
  pub chain : Sound (signals_of g) pool g.used (level_of g m).entries
  pub forms : All (EntryForm g.variables g.clauses (level_of g m).side (variables_at g m)) (records pool (level_of g m).entries)

pub record SoundLevel (g : Game) (pool : List ℤ) (m : ℕ) : Type 0 where
  pub chain : Sound (signals_of g) pool g.used (level_of g m).chain
  pub entries : SoundEntries g pool m

-- the pool is as long as it was at open, and each of the game's chains is sound in the words in use
pub record SoundPool (g : Game) (pool : List ℤ) : Type 0 where
  pub size : length pool ≡ g.words
  pub formula : SoundFormula g pool
  pub levels : (m : ℕ) → m < g.depth → SoundLevel g pool m
