-- What passes the check of records wins: the levels by meaning that the records stand for.
use Rattle.std.proofs.Common.{◌≡◌, ℕ, Bool, true, false, ◌&&◌, ◌||◌, T, List, [], ◌∷◌, ℤ, sym, refl, subst, inl, inr}
use mathlib.Core.Option.{Option, none, some}
use Rattle.formula.specs.Backward.{turned}
use Rattle.formula.specs.Game.{Values, choices, Clauses, Play, hits}
use Rattle.formula.specs.Lists.{all, any, find, In, All, Any, each, elem}
use Rattle.formula.proofs.Members.{all_here}
use Rattle.formula.proofs.Tests.{and_l, and_r, both}
use Rattle.strategy.specs.Check.{UnsatisfiableWhen, EntriesOfLevel, LevelRecords, entries_at, RecordCheck, RecordChecks, EntryCheck, LevelChecks, StartCheck, Check}
use Rattle.strategy.specs.Entries.{Entry, LevelState, choices_at, fits, entries_of}
use Rattle.strategy.specs.Meaning.{NothingMeets}
use Rattle.strategy.specs.Records.{holds, satisfies, open_records, learned_record, chain}
use Rattle.strategy.specs.WellFormed.{ProperLevel}
use Rattle.strategy.proofs.Assignments.{refuted_nothing_meets}
use Rattle.strategy.proofs.ByMeaning.{MeaningEntry, MeaningRules, MeaningStart, HasMove, RecordedWins}
use Rattle.strategy.proofs.AnswerMeaning.{unsatisfiable_refuted}
use Rattle.strategy.proofs.Counting.{all_map₂}
use Rattle.strategy.proofs.CheckWins.{check_wins}
use Rattle.strategy.proofs.RecordTests.{all_append, all-turned}
use Rattle.formula.specs.declared.side.Side.{Side}
use Rattle.formula.specs.declared.side.Side.TheVariants.{Ours, Device}

-- the sets that a chain has learned
module _ (C : Clauses) (n : ℕ) (σ : Side) (vs : List ℕ) (r : List LevelRecords) where
  abbrev with_record : (rec : List ℤ) → RecordCheck C n σ vs r rec → List (List ℕ) → List (List ℕ)
  with_record rec (inl m) l = l
  with_record rec (inr a) l = a.0 ∷ l

  abbrev learned_sets : (ch : List (List ℤ)) → RecordChecks C n σ vs ch r → List (List ℕ)
  learned_sets [] h = []
  learned_sets (rec ∷ ch) h = with_record rec h.0 (learned_sets ch h.1)

  covered_with : (rec : List ℤ) (s : RecordCheck C n σ vs r rec) (l : List (List ℕ)) → All (λ A. Any (λ e. T (all (λ i. elem i A) e.set)) (entries_at r)) l
      → All (λ A. Any (λ e. T (all (λ i. elem i A) e.set)) (entries_at r)) (with_record rec s l)
  covered_with rec (inl m) l h = h
  covered_with rec (inr a) l h = (a.2, h)

  covered_by : (ch : List (List ℤ)) (h : RecordChecks C n σ vs ch r) → All (λ A. Any (λ e. T (all (λ i. elem i A) e.set)) (entries_at r)) (learned_sets ch h)
  covered_by [] h = tt
  covered_by (rec ∷ ch) h = covered_with rec h.0 (learned_sets ch h.1) (covered_by ch h.1)

  satisfied_with : (α : ℕ → Bool) (rec : List ℤ) (s : RecordCheck C n σ vs r rec) (l : List (List ℕ)) → T (satisfies α (each (learned_record C n σ) (with_record rec s l))) → T (satisfies α (open_records C n σ vs r))
      → T (any (holds α) rec) × T (satisfies α (each (learned_record C n σ) l))
  satisfied_with α rec (inl m) l h k = (all_here (λ c. any (holds α) c) (open_records C n σ vs r) k rec m, h)
  satisfied_with α rec (inr a) l h k = (
    subst (λ c. T (any (holds α) c)) (sym a.1) (and_l (any (holds α) (learned_record C n σ a.0)) (satisfies α (each (learned_record C n σ) l)) h),
    and_r (any (holds α) (learned_record C n σ a.0)) (satisfies α (each (learned_record C n σ) l)) h,
  )

  satisfied_by : (α : ℕ → Bool) (ch : List (List ℤ)) (h : RecordChecks C n σ vs ch r) → T (satisfies α (each (learned_record C n σ) (learned_sets ch h))) → T (satisfies α (open_records C n σ vs r))
      → T (satisfies α ch)
  satisfied_by α [] h a b = tt
  satisfied_by α (rec ∷ ch) h a b =
      let c : T (any (holds α) rec) × T (satisfies α (each (learned_record C n σ) (learned_sets ch h.1))) = satisfied_with α rec h.0 (learned_sets ch h.1) a b in
      both (any (holds α) rec) (satisfies α ch) c.0 (satisfied_by α ch h.1 c.1 b)

  abbrev state_from : List Entry → (ch : List (List ℤ)) → RecordChecks C n σ vs ch r → LevelState
  state_from es ch h = record { variables = vs; learned = learned_sets ch h; entries = es }

-- after both there is no level, or some level
abbrev SameEnd : List LevelRecords → List LevelState → Type 0
SameEnd [] [] = Unit {0}
SameEnd [] (s ∷ q) = ⊥
SameEnd (l ∷ r) [] = ⊥
SameEnd (l ∷ r) (s ∷ q) = Unit {0}

nothing_learned : (C : Clauses) (n : ℕ) (σ : Side) (α : ℕ → Bool) (l : List (List ℕ)) → All (λ A. ⊥) l → T (satisfies α (each (learned_record C n σ) l))
nothing_learned C n σ α [] h = tt
nothing_learned C n σ α (A ∷ l) h = absurd h.0

sat_chain : (C : Clauses) (n : ℕ) (σ : Side) (vs : List ℕ) (r : List LevelRecords) (q : List LevelState) (es : List Entry) (ch : List (List ℤ)) (h : RecordChecks C n σ vs ch r) (α : ℕ → Bool)
    → SameEnd r q → T (satisfies α (chain C n σ (state_from C n σ vs r es ch h) q)) → T (satisfies α ch)
sat_chain C n Ours vs [] [] es ch h α k s = satisfied_by C n Ours vs [] α ch h (nothing_learned C n Ours α (learned_sets C n Ours vs [] ch h) (covered_by C n Ours vs [] ch h))
    (subst T (all-turned (λ c. any (holds α) c) (open_records {R = LevelState} C n Ours vs [])) s)
sat_chain C n Ours vs [] (m ∷ q) es ch h α k s = absurd k
sat_chain C n Ours vs (l ∷ r) [] es ch h α k s = absurd k
sat_chain C n Ours vs (l ∷ r) (m ∷ q) es ch h α k s =
    let e : T (satisfies α (each (learned_record C n Ours) (learned_sets C n Ours vs (l ∷ r) ch h)) && satisfies α (turned (open_records C n Ours vs (l ∷ r)))) =
    subst T (all_append (λ c. any (holds α) c) (each (learned_record C n Ours) (learned_sets C n Ours vs (l ∷ r) ch h)) (turned (open_records C n Ours vs (l ∷ r)))) s in
    satisfied_by C n Ours vs (l ∷ r) α ch h (and_l (satisfies α (each (learned_record C n Ours) (learned_sets C n Ours vs (l ∷ r) ch h))) (satisfies α (turned (open_records C n Ours vs (l ∷ r)))) e)
    (subst T (all-turned (λ c. any (holds α) c) (open_records C n Ours vs (l ∷ r))) (and_r (satisfies α (each (learned_record C n Ours) (learned_sets C n Ours vs (l ∷ r) ch h))) (satisfies α (turned (open_records C n Ours vs (l ∷ r)))) e))
sat_chain C n Device vs r q es ch h α k s =
    let e : T (satisfies α (each (learned_record C n Device) (learned_sets C n Device vs r ch h)) && satisfies α (turned (open_records C n Device vs r))) =
    subst T (all_append (λ c. any (holds α) c) (each (learned_record C n Device) (learned_sets C n Device vs r ch h)) (turned (open_records C n Device vs r))) s in
    satisfied_by C n Device vs r α ch h (and_l (satisfies α (each (learned_record C n Device) (learned_sets C n Device vs r ch h))) (satisfies α (turned (open_records C n Device vs r))) e)
    (subst T (all-turned (λ c. any (holds α) c) (open_records C n Device vs r)) (and_r (satisfies α (each (learned_record C n Device) (learned_sets C n Device vs r ch h))) (satisfies α (turned (open_records C n Device vs r))) e))

-- the levels by meaning: without their chains, which the recorded plan does not look at; or with the sets that the chains have learned
abbrev pub without_chain : LevelRecords → LevelState
without_chain l = record { variables = l.variables; learned = []; entries = l.entries }

abbrev states_from : (C : Clauses) (n : ℕ) (w σ : Side) (levels : List LevelRecords) → LevelChecks C n w σ levels → List LevelState
states_from C n w σ [] h = []
states_from C n Ours Ours (l ∷ r) h = without_chain l ∷ states_from C n Ours Device r h.1
states_from C n Ours Device (l ∷ r) h = state_from C n Device l.variables r l.entries l.chain h.0 ∷ states_from C n Ours Ours r h.1
states_from C n Device Ours (l ∷ r) h = state_from C n Ours l.variables r l.entries l.chain h.0 ∷ states_from C n Device Device r h.1
states_from C n Device Device (l ∷ r) h = without_chain l ∷ states_from C n Device Ours r h.1

same_end_from : (C : Clauses) (n : ℕ) (w σ : Side) (r : List LevelRecords) (h : LevelChecks C n w σ r) → SameEnd r (states_from C n w σ r h)
same_end_from C n w σ [] h = tt
same_end_from C n Ours Ours (l ∷ r) h = tt
same_end_from C n Ours Device (l ∷ r) h = tt
same_end_from C n Device Ours (l ∷ r) h = tt
same_end_from C n Device Device (l ∷ r) h = tt

entries_from : (C : Clauses) (n : ℕ) (w σ : Side) (r : List LevelRecords) (h : LevelChecks C n w σ r) → entries_at r ≡ entries_of (states_from C n w σ r h)
entries_from C n w σ [] h = refl
entries_from C n Ours Ours (l ∷ r) h = refl
entries_from C n Ours Device (l ∷ r) h = refl
entries_from C n Device Ours (l ∷ r) h = refl
entries_from C n Device Device (l ∷ r) h = refl

nothing_meets_ours : (C : Clauses) (n : ℕ) (l : LevelRecords) (r : List LevelRecords) (h : LevelChecks C n Ours Device (l ∷ r)) (F : ℕ → Bool) → ProperLevel n l.variables
    → UnsatisfiableWhen C n Device l.chain F → NothingMeets C Device (state_from C n Device l.variables r l.entries l.chain h.0) (states_from C n Ours Ours r h.1) F
nothing_meets_ours C n l r h F p ref =
    refuted_nothing_meets C n Device (state_from C n Device l.variables r l.entries l.chain h.0) (states_from C n Ours Ours r h.1) F p
    (λ α s f. unsatisfiable_refuted C n Device l.chain F ref α (sat_chain C n Device l.variables r (states_from C n Ours Ours r h.1) l.entries l.chain h.0 α (same_end_from C n Ours Ours r h.1) s) f)

nothing_meets_device : (C : Clauses) (n : ℕ) (l : LevelRecords) (r : List LevelRecords) (h : LevelChecks C n Device Ours (l ∷ r)) (F : ℕ → Bool) → ProperLevel n l.variables
    → UnsatisfiableWhen C n Ours l.chain F → NothingMeets C Ours (state_from C n Ours l.variables r l.entries l.chain h.0) (states_from C n Device Device r h.1) F
nothing_meets_device C n l r h F p ref =
    refuted_nothing_meets C n Ours (state_from C n Ours l.variables r l.entries l.chain h.0) (states_from C n Device Device r h.1) F p
    (λ α s f. unsatisfiable_refuted C n Ours l.chain F ref α (sat_chain C n Ours l.variables r (states_from C n Device Device r h.1) l.entries l.chain h.0 α (same_end_from C n Device Device r h.1) s) f)

entry_ours : (C : Clauses) (n : ℕ) (r : List LevelRecords) (h : LevelChecks C n Ours Device r) (e : Entry) → All (λ (l : LevelRecords). ProperLevel n l.variables) r → EntryCheck C n Ours r e
    → MeaningEntry C Ours (states_from C n Ours Device r h) e
entry_ours C n [] h e p k = k
entry_ours C n (l ∷ r) h e p k = nothing_meets_ours C n l r h (λ i. elem i e.set || hits C e.values i) p.0 k

entry_device : (C : Clauses) (n : ℕ) (r : List LevelRecords) (h : LevelChecks C n Device Ours r) (e : Entry) → All (λ (l : LevelRecords). ProperLevel n l.variables) r → EntryCheck C n Device r e
    → MeaningEntry C Device (states_from C n Device Ours r h) e
entry_device C n [] h e p k = k
entry_device C n (l ∷ r) h e p k = (k.0, nothing_meets_device C n l r h (λ i. elem i e.set) p.0 k.1)

rules_from : (C : Clauses) (n : ℕ) (w σ : Side) (levels : List LevelRecords) → All (λ (l : LevelRecords). ProperLevel n l.variables) levels → EntriesOfLevel levels → (h : LevelChecks C n w σ levels)
    → MeaningRules C w σ (states_from C n w σ levels h)
rules_from C n w σ [] p v h = tt
rules_from C n Ours Ours (l ∷ r) p v h = (
  all_map₂ (λ e. In e.values (choices l.variables)) (EntryCheck C n Ours r)
      (λ e. In e.values (choices l.variables) × MeaningEntry C Ours (states_from C n Ours Device r h.1) e) l.entries
      (λ e m k. (m, entry_ours C n r h.1 e p.1 k)) v.0 h.0,
  rules_from C n Ours Device r p.1 v.1 h.1,
)
rules_from C n Device Device (l ∷ r) p v h = (
  all_map₂ (λ e. In e.values (choices l.variables)) (EntryCheck C n Device r)
      (λ e. In e.values (choices l.variables) × MeaningEntry C Device (states_from C n Device Ours r h.1) e) l.entries
      (λ e m k. (m, entry_device C n r h.1 e p.1 k)) v.0 h.0,
  rules_from C n Device Ours r p.1 v.1 h.1,
)
rules_from C n Ours Device (l ∷ r) p v h = (
  subst (λ es. All (λ A. Any (λ e. T (all (λ i. elem i A) e.set)) es) (learned_sets C n Device l.variables r l.chain h.0)) (entries_from C n Ours Ours r h.1)
      (covered_by C n Device l.variables r l.chain h.0),
  rules_from C n Ours Ours r p.1 v.1 h.1,
)
rules_from C n Device Ours (l ∷ r) p v h = (
  subst (λ es. All (λ A. Any (λ e. T (all (λ i. elem i A) e.set)) es) (learned_sets C n Ours l.variables r l.chain h.0)) (entries_from C n Device Device r h.1)
      (covered_by C n Ours l.variables r l.chain h.0),
  rules_from C n Device Device r p.1 v.1 h.1,
)

starts_from : (C : Clauses) (n : ℕ) (w σ : Side) (levels : List LevelRecords) → All (λ (l : LevelRecords). ProperLevel n l.variables) levels → (h : LevelChecks C n w σ levels) → StartCheck C n w σ levels
    → MeaningStart C w σ (states_from C n w σ levels h)
starts_from C n Ours σ [] p h k = k
starts_from C n Device σ [] p h k = k
starts_from C n Ours Ours (l ∷ r) p h k = k
starts_from C n Device Device (l ∷ r) p h k = k
starts_from C n Ours Device (l ∷ r) p h k = nothing_meets_ours C n l r h (λ i. false) p.0 k
starts_from C n Device Ours (l ∷ r) p h k = nothing_meets_device C n l r h (λ i. true) p.0 k

-- the recorded plan looks at variables and entries alone
follow_map : (s s' : LevelState) (o : Option Entry) (K K' : Values → Type 0) → ((x : Values) → In x (choices_at s) → In x (choices_at s')) → ((x : Values) → K x → K' x) → HasMove s o K → HasMove s' o K'
follow_map s s' none K K' i f h = h
follow_map s s' (some e) K K' i f h = (i e.values h.0, f e.values h.1)

wins_without_chain : (C : Clauses) (n : ℕ) (w σ : Side) (levels : List LevelRecords) (h : LevelChecks C n w σ levels) (π : Play) → RecordedWins C w σ (states_from C n w σ levels h) π → RecordedWins C w σ (each without_chain levels) π
wins_without_chain C n w σ [] h π k = k
wins_without_chain C n Ours Ours (l ∷ r) h π k =
    follow_map (without_chain l) (without_chain l) (find (fits C Ours π) l.entries) (λ x. RecordedWins C Ours Device (states_from C n Ours Device r h.1) (x ∷ π)) (λ x. RecordedWins C Ours Device (each without_chain r) (x ∷ π))
    (λ x m. m) (λ x. wins_without_chain C n Ours Device r h.1 (x ∷ π)) k
wins_without_chain C n Device Device (l ∷ r) h π k =
    follow_map (without_chain l) (without_chain l) (find (fits C Device π) l.entries) (λ x. RecordedWins C Device Ours (states_from C n Device Ours r h.1) (x ∷ π)) (λ x. RecordedWins C Device Ours (each without_chain r) (x ∷ π))
    (λ x m. m) (λ x. wins_without_chain C n Device Ours r h.1 (x ∷ π)) k
wins_without_chain C n Ours Device (l ∷ r) h π k = λ y m. wins_without_chain C n Ours Ours r h.1 (y ∷ π) (k y m)
wins_without_chain C n Device Ours (l ∷ r) h π k = λ y m. wins_without_chain C n Device Device r h.1 (y ∷ π) (k y m)

pub records_win : (C : Clauses) (n : ℕ) (w σ : Side) (levels : List LevelRecords) → All (λ (l : LevelRecords). ProperLevel n l.variables) levels
    → EntriesOfLevel levels → Check C n w σ levels
    → RecordedWins C w σ (each without_chain levels) []
records_win C n w σ levels p v c =
    wins_without_chain C n w σ levels c.rules [] (check_wins C w σ (states_from C n w σ levels c.rules)
    (record { starts = starts_from C n w σ levels p c.rules c.starts; rules = rules_from C n w σ levels p v c.rules }))
