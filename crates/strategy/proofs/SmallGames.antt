-- The games of E and F, step by step, each answer within its meaning.
use Rattle.std.proofs.Common.{ℕ, Bool, true, false, not, ◌&&◌, ◌||◌, T, eqb, [], ◌∷◌, negsuc, refl}
use Rattle.formula.specs.Examples.{E, F}
use Rattle.formula.proofs.Tests.{or_r}
use Rattle.strategy.specs.Entries.{LevelState}
use Rattle.strategy.specs.Questions.{YesAt, NoAt}
use Rattle.strategy.specs.Steps.{yes_below_last, yes_at_last, no_second, here, more, new_level, Reached}
use Rattle.strategy.specs.Examples.{end_of_e, end_of_f, ExampleGames}
use Rattle.formula.specs.declared.side.Side.TheVariants.{Ours, Device}

-- the first satisfying assignments: 7 true; all false; 6 true
abbrev only : ℕ → ℕ → Bool
only v i = eqb v i

yes₁ : YesAt E.clauses 3 Ours [] (new_level (1 ∷ [])) (new_level (2 ∷ []) ∷ new_level (3 ∷ []) ∷ []) (negsuc 0 ∷ [])
yes₁ = record { assignment = only 7; chain_true = tt; assumptions_true = tt; values = refl }

yes₂ : YesAt E.clauses 3 Device ((negsuc 0 ∷ []) ∷ []) (new_level (2 ∷ [])) (new_level (3 ∷ []) ∷ []) (negsuc 1 ∷ [])
yes₂ = record { assignment = λ i. false; chain_true = tt; assumptions_true = tt; values = refl }

yes₃ : YesAt E.clauses 3 Ours ((negsuc 1 ∷ []) ∷ (negsuc 0 ∷ []) ∷ []) (new_level (3 ∷ [])) [] (negsuc 2 ∷ [])
yes₃ = record { assignment = only 6; chain_true = tt; assumptions_true = tt; values = refl }

-- and the last no: level 2 has learned the record 9, so -9 cannot hold
abbrev learned_three : LevelState
learned_three = record { variables = 2 ∷ []; learned = (2 ∷ []) ∷ []; entries = [] }

abbrev entered_three : LevelState
entered_three = record { variables = 3 ∷ []; learned = []; entries = record { set = 2 ∷ []; values = negsuc 2 ∷ [] } ∷ [] }

not_nine : (b c : Bool) → T ((b || false) && c) → T (not b && true) → ⊥
not_nine true c s h = h
not_nine false c s h = s

no₄ : NoAt E.clauses 3 Device ((negsuc 0 ∷ []) ∷ []) learned_three (entered_three ∷ []) (2 ∷ [])
no₄ = record { named = λ i m. or_r (eqb i 1) (eqb i 2 || false) m; unsatisfiable = λ α s h. not_nine (α 9) _ s h }

game_of_e : Reached E 4 end_of_e
game_of_e = more (more (more (more here (yes_below_last (negsuc 0 ∷ []) yes₁)) (yes_below_last (negsuc 1 ∷ []) yes₂)) (yes_at_last (negsuc 2 ∷ []) yes₃)) (no_second (2 ∷ []) no₄)

-- F: a yes with all false, then a no that names both assumptions
yes₅ : YesAt F.clauses 2 Device [] (new_level (1 ∷ [])) (new_level (2 ∷ []) ∷ []) (negsuc 0 ∷ [])
yes₅ = record { assignment = λ i. false; chain_true = tt; assumptions_true = tt; values = refl }

neither : (a b c : Bool) → T ((not a || (c || false)) && ((a || (b || false)) && true)) → T (not b && (not c && true)) → ⊥
neither true true c s h = h
neither true false true s h = h
neither true false false s h = s
neither false true c s h = h
neither false false c s h = s

no₆ : NoAt F.clauses 2 Ours ((negsuc 0 ∷ []) ∷ []) (new_level (2 ∷ [])) [] (0 ∷ 1 ∷ [])
no₆ = record { named = λ i m. m; unsatisfiable = λ α s h. neither (α 2) (α 3) (α 4) s h }

game_of_f : Reached F 2 end_of_f
game_of_f = more (more here (yes_below_last (negsuc 0 ∷ []) yes₅)) (no_second (0 ∷ 1 ∷ []) no₆)

pub example_games : ExampleGames
example_games = (game_of_e, game_of_f, refl)
