-- Small formulas on which the definitions compute.
use Rattle.std.specs.Prelude.{◌≡◌, true, false, [], ◌∷◌, pos, negsuc}
use Rattle.formula.specs.Game.{Qbf, sat, winner}
use Rattle.formula.specs.Truth.{truth}
use Rattle.formula.specs.declared.side.Side.TheVariants.{Ours, Device}

-- there is 1, for all 2, there is 3: (1 or 2 or not 3), (not 1 or 2 or not 3), (not 1 or not 2 or 3); `negsuc 0` is -1
abbrev pub E : Qbf
E = record {
  variables = 3;
  first = Ours;
  levels = (1 ∷ []) ∷ (2 ∷ []) ∷ (3 ∷ []) ∷ [];
  clauses = (pos 1 ∷ pos 2 ∷ negsuc 2 ∷ []) ∷ (negsuc 0 ∷ pos 2 ∷ negsuc 2 ∷ []) ∷ (negsuc 0 ∷ negsuc 1 ∷ pos 3 ∷ []) ∷ [];
}

-- for all 1, there is 2: (1 or 2), (1 or not 2)
abbrev pub F : Qbf
F = record {
  variables = 2;
  first = Device;
  levels = (1 ∷ []) ∷ (2 ∷ []) ∷ [];
  clauses = (pos 1 ∷ pos 2 ∷ []) ∷ (pos 1 ∷ negsuc 1 ∷ []) ∷ [];
}

-- no level and no clause; no level and one empty clause; there is 1: (1 or not 1)
abbrev pub nothing : Qbf
nothing = record { variables = 0; first = Ours; levels = []; clauses = [] }

abbrev pub empty_clause : Qbf
empty_clause = record { variables = 0; first = Ours; levels = []; clauses = [] ∷ [] }

abbrev pub tautology : Qbf
tautology = record { variables = 1; first = Ours; levels = (1 ∷ []) ∷ []; clauses = (pos 1 ∷ negsuc 0 ∷ []) ∷ [] }

-- E, nothing and tautology are true, F and empty_clause false
abbrev pub ExampleTruths : Type 0
ExampleTruths = (truth E ≡ true) × (truth F ≡ false) × (truth nothing ≡ true) × (truth empty_clause ≡ false) × (truth tautology ≡ true)

-- in E the value -1 makes clauses 2 and 3 true; ours wins the play -1 2 -3, and the device 1 2 -3
abbrev pub ExamplePlays : Type 0
ExamplePlays = (sat E.clauses (negsuc 0 ∷ []) ≡ 2 ∷ 3 ∷ [])
    × (winner E.clauses ((negsuc 0 ∷ []) ∷ (pos 2 ∷ []) ∷ (negsuc 2 ∷ []) ∷ []) ≡ Ours)
    × (winner E.clauses ((pos 1 ∷ []) ∷ (pos 2 ∷ []) ∷ (negsuc 2 ∷ []) ∷ []) ≡ Device)
