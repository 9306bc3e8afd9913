-- Internal to the proofs: plays with the newest level first, so that a play grows at its head, and plans over them.
-- That they say the same as specs/Plans is proved in proofs/Turned.
use Rattle.std.specs.Prelude.{ℕ, Bool, true, false, cond, not, ◌&&◌, ◌||◌, T, List, [], ◌∷◌, pos, neg_ℤ}
use Rattle.formula.specs.Lists.{In, each}
use Rattle.formula.specs.Game.{same, Clauses, Values, choices, Play, every_hit}
use Rattle.formula.specs.declared.side.Side.{Side}
use Rattle.formula.specs.declared.side.Side.TheVariants.{Ours, Device}

-- the list π, turned round, in front of ρ
abbrev pub onto : {A : Type 0} → List A → List A → List A
onto [] ρ = ρ
onto (x ∷ π) ρ = onto π (x ∷ ρ)

abbrev pub turned : {A : Type 0} → List A → List A
turned π = onto π []

-- the side w has what it wants of a truth: ours a true formula, the device a false one
abbrev pub For : Side → Bool → Type 0
For Ours b = T b
For Device b = T (not b)

-- the side w wins the complete play π
abbrev pub Won : Clauses → Side → Play → Type 0
Won C w π = For w (every_hit C π)

-- w, who plays by f, wins from the play π on, of which the newest level is first, whatever the other side plays at the levels left
abbrev pub WinsFrom : Clauses → Side → (Play → Values) → Side → List (List ℕ) → Play → Type 0
WinsFrom C w f σ [] π = Won C w π
WinsFrom C Ours f Ours (vs ∷ r) π = In (f π) (choices vs) × WinsFrom C Ours f Device r (f π ∷ π)
WinsFrom C Ours f Device (vs ∷ r) π = (y : Values) → In y (choices vs) → WinsFrom C Ours f Ours r (y ∷ π)
WinsFrom C Device f Ours (vs ∷ r) π = (y : Values) → In y (choices vs) → WinsFrom C Device f Device r (y ∷ π)
WinsFrom C Device f Device (vs ∷ r) π = In (f π) (choices vs) × WinsFrom C Device f Ours r (f π ∷ π)

-- x is a choice of the level of the variables vs, as a test; x if it is one, else the first choice
abbrev pub is_choice : Values → List ℕ → Bool
is_choice [] [] = true
is_choice [] (v ∷ vs) = false
is_choice (l ∷ x) [] = false
is_choice (l ∷ x) (v ∷ vs) = (same l (pos v) || same l (neg_ℤ (pos v))) && is_choice x vs

abbrev pub or_first : List ℕ → Values → Values
or_first vs x = cond (is_choice x vs) x (each pos vs)

-- the level after the play π, level 1 first
abbrev pub level_after : List (List ℕ) → Play → List ℕ
level_after [] π = []
level_after (vs ∷ r) [] = vs
level_after (vs ∷ r) (x ∷ π) = level_after r π
