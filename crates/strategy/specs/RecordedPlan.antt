-- The recorded plan of a side: at each of its levels the values of the newest entry that fits; and what it means that it wins.
use Rattle.std.specs.Prelude.{◌≡◌, ℕ, Bool, List, [], ◌∷◌, ◌++◌, ℤ}
use Rattle.std.proofs.Math.Option.{Option, none, some}
use Rattle.formula.specs.Lists.{find, In}
use Rattle.formula.specs.Game.{Qbf, Values, choices, Clauses, Play, PlayOf, hits, winner}
use Rattle.formula.specs.Plans.{side_after}
use Rattle.formula.specs.Backward.{is_choice}
use Rattle.strategy.specs.Entries.{Entry, fits_when, fits}
use Rattle.formula.specs.declared.side.Side.{Side}

-- the entries of the level after the play π; each level's entries are given, level 1 first, and the newest entry first
abbrev pub entries_after : List (List Entry) → Play → List Entry
entries_after [] π = []
entries_after (es ∷ rest) [] = es
entries_after (es ∷ rest) (x ∷ π) = entries_after rest π

abbrev pub values_in : Option Entry → Option Values
values_in none = none
values_in (some e) = some e.values

-- The next move of w after the play π, level 1 first: the values of the newest entry that fits; none when no entry fits.
abbrev pub move : Clauses → Side → List (List Entry) → Play → Option Values
move C w entries π = values_in (find (fits C w π) (entries_after entries π))

-- a play, complete or not, in which w plays its recorded moves
abbrev pub FollowsMoves : Qbf → Side → List (List Entry) → Play → Type 0
FollowsMoves q w entries π =
    (before : Play) (x : Values) (after : Play) → π ≡ before ++ (x ∷ after) → side_after q.first before ≡ w
    → move q.clauses w entries before ≡ some x

-- The recorded plan of w wins: as long as w plays by it, and whatever the other side plays, w has a move at each of its levels, which is one of
-- the level's choices; and w wins every complete play so made.
pub record RecordedPlanWins (q : Qbf) (w : Side) (entries : List (List Entry)) : Type 0 where
  pub has_move : (before : List (List ℕ)) (level : List ℕ) (after : List (List ℕ)) (π : Play)
      → q.levels ≡ before ++ (level ∷ after) → side_after q.first before ≡ w → PlayOf before π → FollowsMoves q w entries π
      → (x : Values) × (move q.clauses w entries π ≡ some x) × In x (choices level)
  pub wins : (π : Play) → PlayOf q.levels π → FollowsMoves q w entries π → winner q.clauses π ≡ w

-- The play given as one list of literals, level by level, as a caller gives it.
abbrev pub flat : {A : Type 0} → List (List A) → List A
flat [] = []
flat (x ∷ π) = x ++ flat π

-- the list ρ is a play of these levels, as a test: one literal for each of their variables, in order
abbrev pub is_flat_play : List (List ℕ) → List ℤ → Bool
is_flat_play levels ρ = is_choice ρ (flat levels)

-- the values of the newest of these entries that fits the play ρ
abbrev pub flat_move : Clauses → Side → List Entry → List ℤ → Option Values
flat_move C w entries ρ = values_in (find (fits_when w (hits C ρ)) entries)
