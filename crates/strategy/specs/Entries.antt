-- Entries: what a level records for a plan, and when an entry fits a play.
use Rattle.std.specs.Prelude.{ℕ, Bool, not, List, [], ◌∷◌, length}
use Rattle.formula.specs.Lists.{all, keep, each, elem, below}
use Rattle.formula.specs.Game.{Values, choices, Clauses, Play, hit}
use Rattle.formula.specs.declared.side.Side.{Side}
use Rattle.formula.specs.declared.side.Side.TheVariants.{Ours, Device}

-- An entry: a set of clauses, and the values that the level plays where the entry fits.
-- A set of clauses is a list of their numbers, counted from 0: the entry 6 -3 of three variables and three clauses
-- (6 is the t signal of clause 3) is record { set = 2 ∷ []; values = negsuc 2 ∷ [] }.
pub record Entry : Type 0 where
  pub set : List ℕ
  pub values : Values

-- An entry fits when, of the clauses of its set, every one is satisfied (ours), or none is (the device's).
abbrev pub fits_when : Side → (ℕ → Bool) → Entry → Bool
fits_when Ours satisfied e = all satisfied e.set
fits_when Device satisfied e = all (λ i. not (satisfied i)) e.set

-- It fits a play so far by the clauses that the play hits; and a set of clauses by its elements: ours when its set lies inside that set, the device's
-- when the two share nothing.
abbrev pub fits : Clauses → Side → Play → Entry → Bool
fits C w π e = fits_when w (hit C π) e

abbrev pub fits_set : Side → List ℕ → Entry → Bool
fits_set w S e = fits_when w (λ i. elem i S) e

abbrev pub hit_set : Clauses → Play → List ℕ
hit_set C π = keep (hit C π) (below (length C))

-- What a game has of a level: its variables, the sets that it learned, the newest first (its clause chain is computed from them in
-- specs/Records), and its entries, the newest first.
pub record LevelState : Type 0 where
  pub variables : List ℕ
  pub learned : List (List ℕ)
  pub entries : List Entry

abbrev pub choices_at : LevelState → List Values
choices_at s = choices s.variables

abbrev pub variables_of : List LevelState → List (List ℕ)
variables_of f = each (λ (s : LevelState). s.variables) f

-- the entries of each level; of the first of these levels
abbrev pub all_entries : List LevelState → List (List Entry)
all_entries f = each (λ (s : LevelState). s.entries) f

abbrev pub entries_of : List LevelState → List Entry
entries_of [] = []
entries_of (n ∷ r) = n.entries
