-- What open writes: the formula's clauses as one chain, then the clause chain of each level in turn.
use Rattle.std.specs.Prelude.{ℕ, ◌+◌, Bool, true, false, cond, List, [], ◌∷◌, ◌++◌, length, ℤ, pos, neg_ℤ}
use Rattle.formula.specs.Lists.{each, below}
use Rattle.formula.specs.Game.{other, Clauses, Qbf}
use Rattle.formula.specs.declared.side.Side.{Side}
use Rattle.formula.specs.declared.side.Side.TheVariants.{Ours, Device}
use Rattle.strategy.specs.Records.{literals_on, gather, open_records}
use Rattle.strategy.specs.Signals.{t_signal, b_signal}
use Rattle.layout.specs.Laying.{words_for_chains}

-- The record of a clause at our level: its literals there, then t, and before the last level b.
abbrev pub our_record : Clauses → ℕ → List ℕ → Bool → ℕ → List ℤ
our_record C n vs last i = literals_on C vs i ++ cond last (pos (t_signal n i) ∷ []) (pos (t_signal n i) ∷ pos (b_signal n (length C) i) ∷ [])

-- The records of a clause at the device's level: for each of its literals there, this is false or the clause is not left to the levels after.
abbrev pub device_record : Clauses → ℕ → ℕ → ℤ → List ℤ
device_record C n i l = neg_ℤ l ∷ neg_ℤ (pos (b_signal n (length C) i)) ∷ []

abbrev pub device_records : Clauses → ℕ → List ℕ → ℕ → List (List ℤ)
device_records C n vs i = each (device_record C n i) (literals_on C vs i)

-- the records of clause i at a level of side σ; `last` says that no level follows
abbrev pub clause_records : Clauses → ℕ → Side → List ℕ → Bool → ℕ → List (List ℤ)
clause_records C n Ours vs last i = our_record C n vs last i ∷ []
clause_records C n Device vs last i = device_records C n vs i

-- the records of a level, clause by clause
abbrev pub level_records : Clauses → ℕ → Side → List ℕ → Bool → List (List ℤ)
level_records C n σ vs last = gather (clause_records C n σ vs last) (below (length C))

abbrev pub is_nil : {A : Type 0} → List A → Bool
is_nil [] = true
is_nil (x ∷ xs) = false

-- the clause chains of the levels, of which the first is of side σ
abbrev pub level_chains : Clauses → ℕ → Side → List (List ℕ) → List (List (List ℤ))
level_chains C n σ [] = []
level_chains C n σ (vs ∷ after) = open_records C n σ vs after ∷ level_chains C n (other σ) after

abbrev pub open_chains : Qbf → List (List (List ℤ))
open_chains q = q.clauses ∷ level_chains q.clauses q.variables q.first q.levels

-- the words that open needs: those of all records, and word 0
abbrev pub words_needed : Qbf → ℕ
words_needed q = 1 + words_for_chains (open_chains q)
