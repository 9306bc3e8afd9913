-- A verdict passes the check of its records.
use Rattle.std.proofs.Common.{ℕ, true, false, ◌||◌, T, List, [], ◌∷◌, ◌++◌, refl, inl, inr}
use Rattle.formula.specs.Backward.{turned}
use Rattle.formula.specs.Game.{other, choices, Clauses, hits, hit}
use Rattle.formula.specs.Lists.{all, In, All, Any, each, elem}
use Rattle.formula.proofs.Members.{all_map}
use Rattle.strategy.specs.Check.{LevelRecords, entries_at, RecordCheck, RecordChecks, EntryCheck, LevelChecks, StartCheck, Check, EntriesOfLevel, records_of}
use Rattle.strategy.specs.Entries.{Entry, LevelState, choices_at, variables_of}
use Rattle.strategy.specs.Records.{open_records, learned_record, chain}
use Rattle.strategy.specs.Steps.{KeptLevel, played, State, all_levels, states_of, learn, enter, last_entry_set, entry_set, no_level_ours, no_level_device, yes_below_last, yes_only_level, yes_at_last, no_first, no_second, no_later, here, more, new_level, opened}
use Rattle.strategy.specs.WellFormed.{ProperLevel}
use Rattle.strategy.proofs.AnswerMeaning.{nothing_meets_unsatisfiable}
use Rattle.strategy.proofs.ByMeaning.{MeaningStep, MeaningSteps, MeaningLearned, MeaningEntry, MeaningRules, MeaningStart, MeaningCheck}
use Rattle.strategy.proofs.RecordTests.{in_turned}
use Rattle.strategy.proofs.Verdicts.{SoundState, steps_keep, opened_sound}
use Rattle.formula.specs.declared.side.Side.{Side}
use Rattle.formula.specs.declared.side.Side.TheVariants.{Ours, Device}

module _ {A : Type 0} where
  all-from_in : (P : A → Type 0) (l : List A) → ((x : A) → In x l → P x) → All P l
  all-from_in P [] f = tt
  all-from_in P (x ∷ l) f = (f x (inl refl), all-from_in P l (λ y m. f y (inr m)))

  All-append : (P : A → Type 0) (l m : List A) → All P l → All P m → All P (l ++ m)
  All-append P [] m h k = k
  All-append P (x ∷ l) m h k = (h.0, All-append P l m h.1 k)

All-each : {A B : Type 0} (P : B → Type 0) (f : A → B) (l : List A) → All (λ a. P (f a)) l → All P (each f l)
All-each P f [] h = tt
All-each P f (x ∷ l) h = (h.0, All-each P f l h.1)

each-All : {A B : Type 0} (P : B → Type 0) (f : A → B) (l : List A) → All P (each f l) → All (λ a. P (f a)) l
each-All P f [] h = tt
each-All P f (x ∷ l) h = (h.0, each-All P f l h.1)

learned_checked : (C : Clauses) (n : ℕ) (σ : Side) (vs : List ℕ) (r : List LevelRecords) (l : List (List ℕ))
    → All (λ A. Any (λ e. T (all (λ i. elem i A) e.set)) (entries_at r)) l → All (RecordCheck C n σ vs r) (each (learned_record C n σ) l)
learned_checked C n σ vs r l h =
    All-each (RecordCheck C n σ vs r) (learned_record C n σ) l
    (all_map (λ A. Any (λ e. T (all (λ i. elem i A) e.set)) (entries_at r)) (λ A. RecordCheck C n σ vs r (learned_record C n σ A)) l (λ A a. inr (A, refl, a)) h)

-- the records at open, as they stand on the chain
open_checked : (C : Clauses) (n : ℕ) (σ : Side) (vs : List ℕ) (r : List LevelRecords) → RecordChecks C n σ vs (turned (open_records C n σ vs r)) r
open_checked C n σ vs r = all-from_in (RecordCheck C n σ vs r) (turned (open_records C n σ vs r)) (λ x m. inl (in_turned x (open_records C n σ vs r) m))

records_checked : (C : Clauses) (n : ℕ) (σ : Side) (s : LevelState) (r : List LevelState) → MeaningLearned s r
    → RecordChecks C n σ s.variables (chain C n σ s r) (records_of C n (other σ) r)
records_checked C n Ours s [] h = open_checked C n Ours s.variables []
records_checked C n Ours s (m ∷ r) h =
    All-append (RecordCheck C n Ours s.variables (records_of C n Device (m ∷ r))) (each (learned_record C n Ours) s.learned)
    (turned (open_records C n Ours s.variables (m ∷ r)))
    (learned_checked C n Ours s.variables (records_of C n Device (m ∷ r)) s.learned h)
    (open_checked C n Ours s.variables (records_of C n Device (m ∷ r)))
records_checked C n Device s [] h =
    All-append (RecordCheck C n Device s.variables []) (each (learned_record C n Device) s.learned)
    (turned (open_records {R = LevelRecords} C n Device s.variables []))
    (learned_checked C n Device s.variables [] s.learned h) (open_checked C n Device s.variables [])
records_checked C n Device s (m ∷ r) h =
    All-append (RecordCheck C n Device s.variables (records_of C n Ours (m ∷ r))) (each (learned_record C n Device) s.learned)
    (turned (open_records C n Device s.variables (m ∷ r)))
    (learned_checked C n Device s.variables (records_of C n Ours (m ∷ r)) s.learned h)
    (open_checked C n Device s.variables (records_of C n Ours (m ∷ r)))

entry_checked : (C : Clauses) (n : ℕ) (σ : Side) (r : List LevelState) (e : Entry) → All (λ (s : LevelState). ProperLevel n s.variables) r → MeaningEntry C σ r e → EntryCheck C n σ (records_of C n (other σ) r) e
entry_checked C n Ours [] e p h = h
entry_checked C n Ours (m ∷ r) e p h = nothing_meets_unsatisfiable C n Device m r (λ i. elem i e.set || hits C e.values i) p.0 h
entry_checked C n Device [] e p h = h
entry_checked C n Device (m ∷ r) e p h = (h.0, nothing_meets_unsatisfiable C n Ours m r (λ i. elem i e.set) p.0 h.1)

levels_checked : (C : Clauses) (n : ℕ) (w σ : Side) (states : List LevelState) → All (λ (s : LevelState). ProperLevel n s.variables) states → MeaningRules C w σ states → LevelChecks C n w σ (records_of C n σ states)
levels_checked C n w σ [] p h = tt
levels_checked C n Ours Ours (s ∷ r) p h = (
  all_map (λ e. In e.values (choices s.variables) × MeaningEntry C Ours r e) (EntryCheck C n Ours (records_of C n Device r)) s.entries
      (λ e k. entry_checked C n Ours r e p.1 k.1) h.0,
  levels_checked C n Ours Device r p.1 h.1,
)
levels_checked C n Device Device (s ∷ r) p h = (
  all_map (λ e. In e.values (choices s.variables) × MeaningEntry C Device r e) (EntryCheck C n Device (records_of C n Ours r)) s.entries
      (λ e k. entry_checked C n Device r e p.1 k.1) h.0,
  levels_checked C n Device Ours r p.1 h.1,
)
levels_checked C n Ours Device (s ∷ r) p h = (records_checked C n Device s r h.0, levels_checked C n Ours Ours r p.1 h.1)
levels_checked C n Device Ours (s ∷ r) p h = (records_checked C n Ours s r h.0, levels_checked C n Device Device r p.1 h.1)

start_checked : (C : Clauses) (n : ℕ) (w σ : Side) (states : List LevelState) → All (λ (s : LevelState). ProperLevel n s.variables) states → MeaningStart C w σ states → StartCheck C n w σ (records_of C n σ states)
start_checked C n Ours σ [] p h = h
start_checked C n Device σ [] p h = h
start_checked C n Ours Ours (s ∷ r) p h = h
start_checked C n Device Device (s ∷ r) p h = h
start_checked C n Ours Device (s ∷ r) p h = nothing_meets_unsatisfiable C n Device s r (λ i. false) p.0 h
start_checked C n Device Ours (s ∷ r) p h = nothing_meets_unsatisfiable C n Ours s r (λ i. true) p.0 h

pub check_records : (C : Clauses) (n : ℕ) (w τ : Side) (states : List LevelState) → All (ProperLevel n) (variables_of states) → MeaningCheck C w τ states
    → Check C n w τ (records_of C n τ states)
check_records C n w τ states p c =
    let v : All (λ (s : LevelState). ProperLevel n s.variables) states = each-All (ProperLevel n) (λ (s : LevelState). s.variables) states p in
    record { starts = start_checked C n w τ states v c.starts; rules = levels_checked C n w τ states v c.rules }

-- each entry has values of its level, in every state that is reached
abbrev pub EntriesIn : LevelState → Type 0
EntriesIn s = All (λ e. In e.values (choices_at s)) s.entries

all_levels_grow : (P : LevelState → Type 0) (back : List KeptLevel) (f f' : List LevelState) → (All P f → All P f') → All P (all_levels back f) → All P (all_levels back f')
all_levels_grow P [] f f' g h = g h
all_levels_grow P (p ∷ back) f f' g h = all_levels_grow P back (p.state ∷ f) (p.state ∷ f') (λ k. (k.0, g k.1)) h

step_entries : (C : Clauses) (τ : Side) (levels : List (List ℕ)) {a b : State} → MeaningStep C a b → SoundState C τ levels a → All EntriesIn (states_of a) → All EntriesIn (states_of b)
step_entries C τ levels (no_level_ours e) h v = v
step_entries C τ levels (no_level_device e) h v = v
step_entries C τ levels (yes_below_last x a) h v = v
step_entries C τ levels (yes_only_level x a) h v = ((a.among, v.0), v.1)
step_entries C τ levels (yes_at_last {p} {back} {s} x a) h v =
    all_levels_grow EntriesIn back (p.state ∷ s ∷ [])
    (learn (last_entry_set C (hit C (played (p ∷ back))) x) p.state ∷ enter (last_entry_set C (hit C (played (p ∷ back))) x) x s ∷ [])
    (λ k. (k.0, ((a.among, k.1.0), tt))) v
step_entries C τ levels (no_first A a) h v = v
step_entries C τ levels (no_second A a) h v = ((h.2.0, v.0), v.1)
step_entries C τ levels (no_later {σ} {p} {q} {back} {s} {r} A a) h v =
    all_levels_grow EntriesIn back (q.state ∷ p.state ∷ s ∷ r)
    (learn (entry_set C σ A p.kept) q.state ∷ enter (entry_set C σ A p.kept) p.kept p.state ∷ s ∷ r)
    (λ k. (k.0, ((h.2.0, k.1.0), k.1.1))) v

steps_entries : (C : Clauses) (τ : Side) (levels : List (List ℕ)) {m : ℕ} {a b : State} → MeaningSteps C m a b → SoundState C τ levels a → All EntriesIn (states_of a)
    → All EntriesIn (states_of b)
steps_entries C τ levels here h v = v
steps_entries C τ levels (more ss s) h v = step_entries C τ levels s (steps_keep C τ levels ss h) (steps_entries C τ levels ss h v)

new_entries : (levels : List (List ℕ)) → All EntriesIn (each new_level levels)
new_entries [] = tt
new_entries (vs ∷ r) = (tt, new_entries r)

entries_records : (C : Clauses) (n : ℕ) (σ : Side) (states : List LevelState) → All EntriesIn states → EntriesOfLevel (records_of C n σ states)
entries_records C n σ [] v = tt
entries_records C n σ (s ∷ r) v = (v.0, entries_records C n (other σ) r v.1)

pub entries_of_level : (C : Clauses) (n : ℕ) (σ τ : Side) (levels : List (List ℕ)) (m : ℕ) (b : State) → MeaningSteps C m (opened σ levels) b
    → EntriesOfLevel (records_of C n τ (states_of b))
entries_of_level C n σ τ levels m b ss = entries_records C n τ (states_of b) (steps_entries C σ levels ss (opened_sound C σ levels) (new_entries levels))
