-- Small games on which the definitions compute.
use Rattle.std.specs.Prelude.{◌≡◌, true, false, List, [], ◌∷◌, pos, negsuc}
use Rattle.std.proofs.Math.Option.{none, some}
use Rattle.formula.specs.Examples.{E, F}
use Rattle.strategy.specs.Entries.{Entry, fits_set}
use Rattle.strategy.specs.Records.{chain, entry_record}
use Rattle.strategy.specs.RecordedPlan.{move}
use Rattle.strategy.specs.Steps.{State, decided, new_level, Reached}
use Rattle.formula.specs.declared.side.Side.TheVariants.{Ours, Device}

-- The formula E has n = 3 and k = 3, so t is 4, 5, 6 and b is 7, 8, 9. Its chains at open, from the head on, so clause 3 first; `negsuc 6` is -7.
abbrev pub ExampleChains : Type 0
ExampleChains =
    (chain E.clauses 3 Ours (new_level (1 ∷ [])) (new_level (2 ∷ []) ∷ [])
    ≡ (negsuc 0 ∷ pos 6 ∷ pos 9 ∷ []) ∷ (negsuc 0 ∷ pos 5 ∷ pos 8 ∷ []) ∷ (pos 1 ∷ pos 4 ∷ pos 7 ∷ []) ∷ [])
    × (chain E.clauses 3 Device (new_level (2 ∷ [])) (new_level (3 ∷ []) ∷ [])
    ≡ (pos 2 ∷ negsuc 8 ∷ []) ∷ (negsuc 1 ∷ negsuc 7 ∷ []) ∷ (negsuc 1 ∷ negsuc 6 ∷ []) ∷ [])
    × (chain E.clauses 3 Ours (new_level (3 ∷ [])) []
    ≡ (pos 3 ∷ pos 6 ∷ []) ∷ (negsuc 2 ∷ pos 5 ∷ []) ∷ (negsuc 2 ∷ pos 4 ∷ []) ∷ [])

-- The entry 6 -3 at level 3 of E: its set is clause 3. It fits the set of clauses 2 and 3, and not that of clause 2; inside, clauses count from 0.
abbrev pub six_minus_three : Entry
six_minus_three = record { set = 2 ∷ []; values = negsuc 2 ∷ [] }

abbrev pub ExampleFits : Type 0
ExampleFits = (entry_record 3 Ours six_minus_three ≡ pos 6 ∷ negsuc 2 ∷ [])
    × (fits_set Ours (1 ∷ 2 ∷ []) six_minus_three ≡ true) × (fits_set Ours (1 ∷ []) six_minus_three ≡ false)

-- E is ours after four steps, with the entry -1 at level 1 and 6 -3 at level 3; level 2 has learned the set of clause 3.
abbrev pub end_of_e : State
end_of_e = decided Ours Ours (
    record { variables = 1 ∷ []; learned = []; entries = record { set = []; values = negsuc 0 ∷ [] } ∷ [] }
    ∷ record { variables = 2 ∷ []; learned = (2 ∷ []) ∷ []; entries = [] }
    ∷ record { variables = 3 ∷ []; learned = []; entries = six_minus_three ∷ [] }
    ∷ []
    )

-- F is the device's after two, with the entry -3 -4 -1 at level 1.
abbrev pub end_of_f : State
end_of_f = decided Device Device (
    record { variables = 1 ∷ []; learned = []; entries = record { set = 0 ∷ 1 ∷ []; values = negsuc 0 ∷ [] } ∷ [] }
    ∷ record { variables = 2 ∷ []; learned = []; entries = [] }
    ∷ []
    )

abbrev pub ExampleGames : Type 0
ExampleGames = Reached E 4 end_of_e × Reached F 2 end_of_f
    × (entry_record 2 Device (record { set = 0 ∷ 1 ∷ []; values = negsuc 0 ∷ [] }) ≡ negsuc 2 ∷ negsuc 3 ∷ negsuc 0 ∷ [])

-- the recorded plan of ours in E: -1 first; then -3 after -1 and 2, and after -1 and -2; and no move at level 3 after 1 and 2
abbrev pub entries_of_e : List (List Entry)
entries_of_e = (record { set = []; values = negsuc 0 ∷ [] } ∷ []) ∷ [] ∷ (six_minus_three ∷ []) ∷ []

abbrev pub ExampleMoves : Type 0
ExampleMoves = (move E.clauses Ours entries_of_e [] ≡ some (negsuc 0 ∷ []))
    × (move E.clauses Ours entries_of_e ((negsuc 0 ∷ []) ∷ (pos 2 ∷ []) ∷ []) ≡ some (negsuc 2 ∷ []))
    × (move E.clauses Ours entries_of_e ((negsuc 0 ∷ []) ∷ (negsuc 1 ∷ []) ∷ []) ≡ some (negsuc 2 ∷ []))
    × (move E.clauses Ours entries_of_e ((pos 1 ∷ []) ∷ (pos 2 ∷ []) ∷ []) ≡ none)
