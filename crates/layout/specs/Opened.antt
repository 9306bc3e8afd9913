-- The game of a formula as open leaves it, in table and pool.
use Rattle.std.specs.Prelude.{ℕ, suc, Bool, false, List, [], ◌∷◌, length, replicate, ℤ, None, slice_set}
use Rattle.formula.specs.Lists.{each, elem, below}
use Rattle.formula.specs.Game.{other, Clauses, Qbf}
use Rattle.formula.specs.declared.side.Side.{Side}
use Rattle.strategy.specs.Records.{open_records}
use Rattle.layout.specs.declared.game.Level.{Level}
use Rattle.layout.specs.declared.game.Game.{Game}
use Rattle.layout.specs.Table.{blank}
use Rattle.layout.specs.Laying.{Laid, laid, fresh, laid_chains}
use Rattle.layout.specs.Opening.{open_chains}

-- a level with these variables and this clause chain, no entries, and nothing satisfied
abbrev pub flags_of : List ℕ → List Bool
flags_of vs = each (λ v. elem v vs) (below 257)

abbrev pub new_level : Side → List ℕ → ℕ → Level
new_level σ vs head = record { side = σ; variables = flags_of vs; chain = head; entries = 0; satisfied = replicate 512 false; values = replicate 257 false }

-- the levels, of which the first is of side σ; their chains are written one after another behind s
abbrev pub new_levels : Clauses → ℕ → Laid → Side → List (List ℕ) → List Level
new_levels C n s σ [] = []
new_levels C n s σ (vs ∷ after) =
    new_level σ vs (laid (fresh s) (open_records C n σ vs after)).head ∷ new_levels C n (laid (fresh s) (open_records C n σ vs after)) (other σ) after

-- levels put at the places from m on
abbrev pub put_from : ℕ → List Level → List Level → List Level
put_from m [] at = at
put_from m (l ∷ r) at = put_from (suc m) r (slice_set at m l)

-- only word 0 is in use
abbrev pub unused : List ℤ → Laid
unused pool = record { words = pool; used = 1; head = 0 }

abbrev pub opened_pool : Qbf → List ℤ → List ℤ
opened_pool q pool = (laid_chains (unused pool) (open_chains q)).words

abbrev pub opened_game : Qbf → ℕ → List ℤ → Game
opened_game q number pool = record {
  variables = q.variables;
  clauses = length q.clauses;
  depth = length q.levels;
  levels = put_from 0 (new_levels q.clauses q.variables (laid (unused pool) q.clauses) q.first q.levels) (replicate 32 blank);
  formula = (laid (unused pool) q.clauses).head;
  present = 0;
  number = number;
  used = (laid_chains (unused pool) (open_chains q)).used;
  words = length pool;
  verdict = None;
}
