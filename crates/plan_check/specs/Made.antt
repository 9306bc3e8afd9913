-- The records that one clause makes at a level.
use Rattle.std.specs.Prelude.{ℕ, Bool, cond, List, [], ◌∷◌, ◌++◌, ℤ, pos, neg_ℤ, unsigned_abs}
use Rattle.formula.specs.Lists.{each, elem, keep}
use Rattle.formula.specs.declared.side.Side.{Side}
use Rattle.formula.specs.declared.side.Side.TheVariants.{Ours, Device}
use Rattle.strategy.specs.Signals.{t_signal, b_signal}

-- the literals of a clause on the variables vs
abbrev pub literals_at : List ℕ → List ℤ → List ℤ
literals_at vs clause = keep (λ l. elem (unsigned_abs l) vs) clause

-- what follows a clause's literals at our level: t, and before the last level b
abbrev pub tail_at : ℕ → ℕ → Bool → ℕ → List ℤ
tail_at n k last i = cond last (pos (t_signal n i) ∷ []) (pos (t_signal n i) ∷ pos (b_signal n k i) ∷ [])

-- the records of clause i at a level of side σ with the variables vs; `last` says that no level follows
abbrev pub made_by : ℕ → ℕ → Side → List ℕ → Bool → ℕ → List ℤ → List (List ℤ)
made_by n k Ours vs last i clause = (literals_at vs clause ++ tail_at n k last i) ∷ []
made_by n k Device vs last i clause = each (λ l. neg_ℤ l ∷ neg_ℤ (pos (b_signal n k i)) ∷ []) (literals_at vs clause)
