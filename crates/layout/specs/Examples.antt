-- Two small formulas, and the words that their games begin with.
use Rattle.std.specs.Prelude.{◌≡◌, [], ◌∷◌, pos, negsuc}
use Rattle.formula.specs.Game.{Qbf}
use Rattle.formula.specs.declared.side.Side.TheVariants.{Ours, Device}
use Rattle.layout.specs.Opening.{words_needed}

-- there is 1, for all 2, there is 3: (1 or 2 or not 3) and (not 1 or 2 or not 3) and (not 1 or not 2 or 3)
abbrev pub three_levels : Qbf
three_levels = record {
  variables = 3;
  first = Ours;
  levels = (1 ∷ []) ∷ (2 ∷ []) ∷ (3 ∷ []) ∷ [];
  clauses = (pos 1 ∷ pos 2 ∷ negsuc 2 ∷ []) ∷ (negsuc 0 ∷ pos 2 ∷ negsuc 2 ∷ []) ∷ (negsuc 0 ∷ negsuc 1 ∷ pos 3 ∷ []) ∷ [];
}

-- for all 1, there is 2: (1 or 2) and (1 or not 2)
abbrev pub two_levels : Qbf
two_levels = record {
  variables = 2;
  first = Device;
  levels = (1 ∷ []) ∷ (2 ∷ []) ∷ [];
  clauses = (pos 1 ∷ pos 2 ∷ []) ∷ (pos 1 ∷ negsuc 1 ∷ []) ∷ [];
}

abbrev pub WordsOfSmallGames : Type 0
WordsOfSmallGames = (words_needed three_levels ≡ 55) × (words_needed two_levels ≡ 25)
