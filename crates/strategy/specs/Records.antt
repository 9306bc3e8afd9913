-- The clause chain of a level, as records of signed signals; and what an assignment makes true.
use Rattle.std.specs.Prelude.{ℕ, suc, ◌-◌, Bool, cond, not, T, List, [], ◌∷◌, ◌++◌, length, ℤ, pos, negsuc, neg_ℤ, nat_le, nat_lt, slice_index_or, unsigned_abs}
use Rattle.formula.specs.Lists.{all, any, keep, each, elem, below}
use Rattle.formula.specs.Game.{Values, Clauses}
use Rattle.formula.specs.Backward.{turned}
use Rattle.strategy.specs.Entries.{Entry, LevelState}
use Rattle.strategy.specs.Signals.{t_signal, b_signal, signal}
use Rattle.formula.specs.declared.side.Side.{Side}
use Rattle.formula.specs.declared.side.Side.TheVariants.{Ours, Device}

-- a signed signal is true under an assignment; each record of a chain has one that is
abbrev pub holds : (ℕ → Bool) → ℤ → Bool
holds α (pos v) = α v
holds α (negsuc v) = not (α (suc v))

abbrev pub satisfies : (ℕ → Bool) → List (List ℤ) → Bool
satisfies α chain = all (λ rec. any (holds α) rec) chain

-- no assignment makes the chain and these assumptions true
abbrev pub Unsatisfiable : List (List ℤ) → List ℤ → Type 0
Unsatisfiable chain assumptions = (α : ℕ → Bool) → T (satisfies α chain) → T (all (holds α) assumptions) → ⊥

-- the assumptions that a question at a level of side σ makes about the clauses A: −t at ours, −b at the device's
abbrev pub assumptions : ℕ → ℕ → Side → List ℕ → List ℤ
assumptions n k σ A = each (λ i. neg_ℤ (pos (signal n k σ i))) A

-- the literals of clause i on the variables vs
abbrev pub literals_on : Clauses → List ℕ → ℕ → List ℤ
literals_on C vs i = keep (λ l. elem (unsigned_abs l) vs) (slice_index_or C i [])

abbrev pub gather : {A B : Type 0} → (A → List B) → List A → List B
gather f [] = []
gather f (x ∷ xs) = f x ++ gather f xs

-- The records of a level of side σ with the variables vs at open, in the order in which they are written; `after` are the levels after it, and only whether there is one matters.
-- Ours before the last: a clause's literals of the level, then t, then b. The last: its literals, then t. The device's: for each literal l, −l and −b.
abbrev pub open_records : {R : Type 0} → Clauses → ℕ → Side → List ℕ → List R → List (List ℤ)
open_records C n Ours vs [] = each (λ i. literals_on C vs i ++ (pos (t_signal n i) ∷ [])) (below (length C))
open_records C n Ours vs (m ∷ after) = each (λ i. literals_on C vs i ++ (pos (t_signal n i) ∷ pos (b_signal n (length C) i) ∷ [])) (below (length C))
open_records C n Device vs after = gather (λ i. each (λ l. neg_ℤ l ∷ neg_ℤ (pos (b_signal n (length C) i)) ∷ []) (literals_on C vs i)) (below (length C))

-- The record of a learned set: −b for each of its clauses at our level, b at the device's. The record of the empty set is empty: no assignment makes it true.
abbrev pub learned_record : Clauses → ℕ → Side → List ℕ → List ℤ
learned_record C n Ours A = each (λ i. neg_ℤ (pos (b_signal n (length C) i))) A
learned_record C n Device A = each (λ i. pos (b_signal n (length C) i)) A

-- The clause chain of a level, from its head on: a new record heads its chain. So what it learned comes first, the newest first, then the records of
-- open, the last one first. The last level learns nothing.
abbrev pub chain : Clauses → ℕ → Side → LevelState → List LevelState → List (List ℤ)
chain C n Ours s [] = turned (open_records {R = LevelState} C n Ours s.variables [])
chain C n Ours s (m ∷ after) = each (learned_record C n Ours) s.learned ++ turned (open_records C n Ours s.variables (m ∷ after))
chain C n Device s after = each (learned_record C n Device) s.learned ++ turned (open_records C n Device s.variables after)

-- An entry as a record: t for each clause of its set at our level, −t at the device's, then the level's values.
abbrev pub entry_record : ℕ → Side → Entry → List ℤ
entry_record n Ours e = each (λ i. pos (t_signal n i)) e.set ++ e.values
entry_record n Device e = each (λ i. neg_ℤ (pos (t_signal n i))) e.set ++ e.values

-- and read back: the numbers above n are its set, the others its values
abbrev pub entry_of : ℕ → List ℤ → Entry
entry_of n rec = record { set = each (λ l. unsigned_abs l - suc n) (keep (λ l. nat_lt n (unsigned_abs l)) rec); values = keep (λ l. nat_le (unsigned_abs l) n) rec }

-- the values that an assignment gives a level's variables
abbrev pub values_of : (ℕ → Bool) → List ℕ → Values
values_of α vs = each (λ v. cond (α v) (pos v) (neg_ℤ (pos v))) vs
