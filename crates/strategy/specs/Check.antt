-- What check asks of a side, over the chains of records and the entries as they are kept.
use Rattle.std.specs.Prelude.{◌≡◌, ℕ, suc, ◌+◌, ◌-◌, ◌<◌, Bool, true, false, not, ◌||◌, T, ◌⊎◌, List, [], ◌∷◌, length, ℤ, pos, negsuc, nat_le, nat_lt, unsigned_abs}
use Rattle.formula.specs.Lists.{all, keep, In, All, Any, each, elem, below}
use Rattle.formula.specs.Game.{other, choices, Clauses, hits}
use Rattle.strategy.specs.Entries.{Entry, LevelState}
use Rattle.strategy.specs.Records.{Unsatisfiable, assumptions, open_records, learned_record, chain}
use Rattle.formula.specs.declared.side.Side.{Side}
use Rattle.formula.specs.declared.side.Side.TheVariants.{Ours, Device}

-- a level as it is kept: its variables, its clause chain, its entries, the newest first
pub record LevelRecords : Type 0 where
  pub variables : List ℕ
  pub chain : List (List ℤ)
  pub entries : List Entry

abbrev pub entries_at : List LevelRecords → List Entry
entries_at [] = []
entries_at (m ∷ after) = m.entries

-- the chain of a level of side σ is unsatisfiable when the assumed signal (t at ours, b at the device's) is false for all clauses in F
abbrev pub UnsatisfiableWhen : Clauses → ℕ → Side → List (List ℤ) → (ℕ → Bool) → Type 0
UnsatisfiableWhen C n σ ch F = Unsatisfiable ch (assumptions n (length C) σ (keep F (below (length C))))

-- 1. Of the other side's chains: each record is one of the level's records at open, or that of a set which contains the set of an entry at the
-- next level.
abbrev pub RecordCheck : Clauses → ℕ → Side → List ℕ → List LevelRecords → List ℤ → Type 0
RecordCheck C n σ vs after rec =
    In rec (open_records C n σ vs after)
    ⊎ ((A : List ℕ) × (rec ≡ learned_record C n σ A) × Any (λ e. T (all (λ i. elem i A) e.set)) (entries_at after))

abbrev pub RecordChecks : Clauses → ℕ → Side → List ℕ → List (List ℤ) → List LevelRecords → Type 0
RecordChecks C n σ vs ch after = All (RecordCheck C n σ vs after) ch

-- The second case by numbers: each number is a −b at our level, a b at the device's, and so the set is read off the record.
abbrev pub is_learned_number : ℕ → ℕ → Side → ℤ → Bool
is_learned_number n k Ours (pos m) = false
is_learned_number n k Ours (negsuc m) = nat_le (n + k) m
is_learned_number n k Device (pos m) = nat_lt (n + k) m
is_learned_number n k Device (negsuc m) = false

abbrev pub learned_set_of : ℕ → ℕ → List ℤ → List ℕ
learned_set_of n k rec = each (λ l. unsigned_abs l - suc (n + k)) rec

-- 2. Of the side's own entries (A, x). Ours: the next level's chain is unsatisfiable when b is false for A and what x hits; at the last level these
-- are all clauses. The device's: x hits no clause of A, and the next level's chain is unsatisfiable when t is false for A.
abbrev pub EntryCheck : Clauses → ℕ → Side → List LevelRecords → Entry → Type 0
EntryCheck C n Ours [] e = (i : ℕ) → i < length C → T (elem i e.set || hits C e.values i)
EntryCheck C n Ours (m ∷ after) e = UnsatisfiableWhen C n Device m.chain (λ i. elem i e.set || hits C e.values i)
EntryCheck C n Device [] e = ⊥
EntryCheck C n Device (m ∷ after) e =
    ((i : ℕ) → T (elem i e.set) → T (not (hits C e.values i))) × UnsatisfiableWhen C n Ours m.chain (λ i. elem i e.set)

-- what is asked of a level of side σ, when w is checked
abbrev pub LevelCheck : Clauses → ℕ → Side → Side → LevelRecords → List LevelRecords → Type 0
LevelCheck C n Ours Ours l after = All (EntryCheck C n Ours after) l.entries
LevelCheck C n Ours Device l after = RecordChecks C n Device l.variables l.chain after
LevelCheck C n Device Ours l after = RecordChecks C n Ours l.variables l.chain after
LevelCheck C n Device Device l after = All (EntryCheck C n Device after) l.entries

abbrev pub LevelChecks : Clauses → ℕ → Side → Side → List LevelRecords → Type 0
LevelChecks C n w σ [] = Unit {0}
LevelChecks C n w σ (l ∷ after) = LevelCheck C n w σ l after × LevelChecks C n w (other σ) after

-- 3. Of the start. Ours: at our level an entry with the empty set, at the device's an unsatisfiable chain. The device: at its level an entry,
-- at ours a chain that is unsatisfiable when t is false for all clauses. With no level, ours needs no clause, and the device some clause.
abbrev pub StartCheck : Clauses → ℕ → Side → Side → List LevelRecords → Type 0
StartCheck C n Ours σ [] = length C ≡ 0
StartCheck C n Device σ [] = 0 < length C
StartCheck C n Ours Ours (l ∷ after) = Any (λ e. e.set ≡ []) l.entries
StartCheck C n Ours Device (l ∷ after) = UnsatisfiableWhen C n Device l.chain (λ i. false)
StartCheck C n Device Ours (l ∷ after) = UnsatisfiableWhen C n Ours l.chain (λ i. true)
StartCheck C n Device Device (l ∷ after) = Any (λ e. Unit {0}) l.entries

-- Check asks this of the side w, over n variables, the clauses C and the levels, the first of side σ.
pub record Check (C : Clauses) (n : ℕ) (w σ : Side) (levels : List LevelRecords) : Type 0 where
  pub starts : StartCheck C n w σ levels
  pub rules : LevelChecks C n w σ levels

-- each entry has values of its level: entries have this form in every sound pool
abbrev pub EntriesOfLevel : List LevelRecords → Type 0
EntriesOfLevel levels = All (λ l. All (λ e. In e.values (choices l.variables)) l.entries) levels

-- the variables of each level, and its entries
abbrev pub level_variables : List LevelRecords → List (List ℕ)
level_variables levels = each (λ (l : LevelRecords). l.variables) levels

abbrev pub level_entries : List LevelRecords → List (List Entry)
level_entries levels = each (λ (l : LevelRecords). l.entries) levels

-- the levels of a state, with their chains
abbrev pub records_of : Clauses → ℕ → Side → List LevelState → List LevelRecords
records_of C n σ [] = []
records_of C n σ (s ∷ after) = record { variables = s.variables; chain = chain C n σ s after; entries = s.entries } ∷ records_of C n (other σ) after
