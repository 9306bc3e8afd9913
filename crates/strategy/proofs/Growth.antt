-- The invariant of the states, and that it lasts while levels grow.
use Rattle.std.proofs.Common.{ℕ, ◌<◌, Bool, ◌||◌, T, List, [], ◌∷◌, length, inr}
use Rattle.formula.specs.Game.{other, Values, Clauses, hits}
use Rattle.formula.specs.Lists.{all, In, All, Any, elem}
use Rattle.formula.proofs.Members.{all_map}
use Rattle.strategy.specs.Entries.{Entry, LevelState, choices_at, entries_of}
use Rattle.strategy.specs.Meaning.{Meets, NothingMeets}
use Rattle.strategy.specs.Steps.{KeptLevel, learn, enter}
use Rattle.strategy.proofs.ByMeaning.{MeaningLearned, MeaningEntry, MeaningEntries, MeaningRules}
use Rattle.formula.specs.declared.side.Side.{Side}
use Rattle.formula.specs.declared.side.Side.TheVariants.{Ours, Device}

-- a level of side σ, with the levels r after it, is as both sides' checks want it; and its learned sets are of clauses
pub record SoundLevel (C : Clauses) (σ : Side) (s : LevelState) (r : List LevelState) : Type 0 where
  pub learned_covered : MeaningLearned s r
  pub entries_hold : MeaningEntries C σ s r
  pub small : All (λ A. (i : ℕ) → T (elem i A) → i < length C) s.learned

abbrev pub SoundLevels : Clauses → Side → List LevelState → Type 0
SoundLevels C σ [] = Unit {0}
SoundLevels C σ (s ∷ r) = SoundLevel C σ s r × SoundLevels C (other σ) r

abbrev pub SoundKept : Clauses → Side → List KeptLevel → List LevelState → Type 0
SoundKept C σ [] front = SoundLevels C σ front
SoundKept C σ (p ∷ back) front = In p.kept (choices_at p.state) × SoundKept C (other σ) back (p.state ∷ front)

-- a level, and the same level later
pub data Grown : LevelState → LevelState → Type 0 where
  same : {s : LevelState} → Grown s s
  learnt : {s : LevelState} (A : List ℕ) → Grown s (learn A s)
  entered : {s : LevelState} (A : List ℕ) (x : Values) → Grown s (enter A x s)

pub data Grows : List LevelState → List LevelState → Type 0 where
  done : Grows [] []
  next : {s s' : LevelState} {r r' : List LevelState} → Grown s s' → Grows r r' → Grows (s ∷ r) (s' ∷ r')

pub grows_same : (r : List LevelState) → Grows r r
grows_same [] = done
grows_same (s ∷ r) = next same (grows_same r)

meets_rest : (C : Clauses) (σ : Side) (s : LevelState) {r r' : List LevelState} (y : Values) (t b : ℕ → Bool) → Grows r r' → Meets C σ s r' y t b → Meets C σ s r y t b
meets_rest C Ours s y t b done m = m
meets_rest C Ours s y t b (next g h) m = m
meets_rest C Device s y t b done m = m
meets_rest C Device s y t b (next g h) m = m

meets_slot : (C : Clauses) (σ : Side) (r : List LevelState) {s s' : LevelState} (y : Values) (t b : ℕ → Bool) → Grown s s' → Meets C σ s' r y t b → Meets C σ s r y t b
meets_slot C Ours [] y t b same m = m
meets_slot C Ours [] y t b (learnt A) m = m
meets_slot C Ours [] y t b (entered A x) m = m
meets_slot C Ours (n ∷ r) y t b same m = m
meets_slot C Ours (n ∷ r) y t b (learnt A) m = (m.0, m.1.1)
meets_slot C Ours (n ∷ r) y t b (entered A x) m = m
meets_slot C Device r y t b same m = m
meets_slot C Device r y t b (learnt A) m = (m.0, m.1.1)
meets_slot C Device r y t b (entered A x) m = m

options_grow : {s s' : LevelState} (y : Values) → Grown s s' → In y (choices_at s') → In y (choices_at s)
options_grow y same m = m
options_grow y (learnt A) m = m
options_grow y (entered A x) m = m

nothing_meets_grow : (C : Clauses) (σ : Side) {s s' : LevelState} {r r' : List LevelState} (F : ℕ → Bool) → Grown s s' → Grows r r' → NothingMeets C σ s r F → NothingMeets C σ s' r' F
nothing_meets_grow C σ {s} {s'} {r} {r'} F g h st y m t b meets f =
    st y (options_grow y g m) t b (meets_slot C σ r y t b g (meets_rest C σ s' y t b h meets)) f

pub nothing_meets_more : (C : Clauses) (σ : Side) (s : LevelState) (r : List LevelState) (F F' : ℕ → Bool) → ((i : ℕ) → T (F i) → T (F' i)) → NothingMeets C σ s r F → NothingMeets C σ s r F'
nothing_meets_more C σ s r F F' sub st y m t b meets f = st y m t b meets (λ i lt h. f i lt (sub i h))

entry_grow : (C : Clauses) (σ : Side) {r r' : List LevelState} (e : Entry) → Grows r r' → MeaningEntry C σ r e → MeaningEntry C σ r' e
entry_grow C Ours e done f = f
entry_grow C Ours e (next g h) f = nothing_meets_grow C Device (λ i. elem i e.set || hits C e.values i) g h f
entry_grow C Device e done f = f
entry_grow C Device e (next g h) f = (f.0, nothing_meets_grow C Ours (λ i. elem i e.set) g h f.1)

entries_grow : (P : Entry → Type 0) {r r' : List LevelState} → Grows r r' → Any P (entries_of r) → Any P (entries_of r')
entries_grow P done a = a
entries_grow P (next same h) a = a
entries_grow P (next (learnt A) h) a = a
entries_grow P (next (entered A x) h) a = inr a

pub learned_grow : (s : LevelState) {r r' : List LevelState} → Grows r r' → MeaningLearned s r → MeaningLearned s r'
learned_grow s {r} {r'} h =
    all_map (λ A. Any (λ e. T (all (λ i. elem i A) e.set)) (entries_of r)) (λ A. Any (λ e. T (all (λ i. elem i A) e.set)) (entries_of r')) s.learned
    (λ A. entries_grow (λ e. T (all (λ i. elem i A) e.set)) h)

pub entries_all_grow : (C : Clauses) (σ : Side) (s : LevelState) {r r' : List LevelState} → Grows r r' → MeaningEntries C σ s r → MeaningEntries C σ s r'
entries_all_grow C σ s {r} {r'} h =
    all_map (λ e. In e.values (choices_at s) × MeaningEntry C σ r e) (λ e. In e.values (choices_at s) × MeaningEntry C σ r' e) s.entries (λ e k. (k.0, entry_grow C σ e h k.1))

pub sound_level_grow : (C : Clauses) (σ : Side) (s : LevelState) {r r' : List LevelState} → Grows r r' → SoundLevel C σ s r → SoundLevel C σ s r'
sound_level_grow C σ s h f = record { learned_covered = learned_grow s h f.learned_covered; entries_hold = entries_all_grow C σ s h f.entries_hold; small = f.small }

-- the levels from the present one on
pub kept_front : (C : Clauses) (σ : Side) (back : List KeptLevel) (f : List LevelState) → SoundKept C σ back f → SoundLevels C σ f
kept_front C σ [] f h = h
kept_front C Ours (p ∷ back) f h = (kept_front C Device back (p.state ∷ f) h.1).1
kept_front C Device (p ∷ back) f h = (kept_front C Ours back (p.state ∷ f) h.1).1

-- they may grow, as long as they are sound
pub kept_grow : (C : Clauses) (σ : Side) (back : List KeptLevel) (f f' : List LevelState) → Grows f f' → SoundLevels C σ f' → SoundKept C σ back f → SoundKept C σ back f'
kept_grow C σ [] f f' g s h = s
kept_grow C Ours (p ∷ back) f f' g s h = (
  h.0,
  kept_grow C Device back (p.state ∷ f) (p.state ∷ f') (next same g)
      (sound_level_grow C Device p.state g (kept_front C Device back (p.state ∷ f) h.1).0, s) h.1,
)
kept_grow C Device (p ∷ back) f f' g s h = (
  h.0,
  kept_grow C Ours back (p.state ∷ f) (p.state ∷ f') (next same g)
      (sound_level_grow C Ours p.state g (kept_front C Ours back (p.state ∷ f) h.1).0, s) h.1,
)

-- each side's check asks for a part of it
pub sound_rules : (C : Clauses) (w σ : Side) (states : List LevelState) → SoundLevels C σ states → MeaningRules C w σ states
sound_rules C w σ [] h = tt
sound_rules C Ours Ours (s ∷ r) h = (h.0.entries_hold, sound_rules C Ours Device r h.1)
sound_rules C Ours Device (s ∷ r) h = (h.0.learned_covered, sound_rules C Ours Ours r h.1)
sound_rules C Device Ours (s ∷ r) h = (h.0.learned_covered, sound_rules C Device Device r h.1)
sound_rules C Device Device (s ∷ r) h = (h.0.entries_hold, sound_rules C Device Ours r h.1)
