-- Each step keeps the invariant, and a verdict passes the check.
use Rattle.std.proofs.Common.{◌≡◌, ℕ, ◌<◌, true, false, not, ◌&&◌, ◌||◌, T, List, [], ◌∷◌, length, refl, ap, ◌∙◌, inl, ⊎_elim}
use Rattle.formula.specs.Game.{other, Values, Clauses, Play, hits, hit}
use Rattle.formula.specs.Lists.{all, In, each, elem, below}
use Rattle.formula.proofs.Tests.{dec, clash, or_l, or_r, or_cases, nor_l, both, all_from, in_below, below_in, keep_in, kept_in, kept_passes, empty_set}
use Rattle.strategy.specs.Entries.{LevelState, choices_at, variables_of}
use Rattle.strategy.specs.Steps.{KeptLevel, played, State, playing, decided, learn, enter, last_entry_set, entry_set, no_level_ours, no_level_device, yes_below_last, yes_only_level, yes_at_last, no_first, no_second, no_later, here, more, new_level, opened, all_levels}
use Rattle.strategy.proofs.ByMeaning.{YesMeaning, NoMeaning, MeaningStep, MeaningSteps, MeaningEntry, MeaningStart, MeaningCheck}
use Rattle.strategy.proofs.Growth.{SoundLevel, SoundLevels, SoundKept, learnt, entered, next, grows_same, nothing_meets_more, learned_grow, entries_all_grow, kept_front, kept_grow, sound_rules}
use Rattle.formula.specs.declared.side.Side.{Side}
use Rattle.formula.specs.declared.side.Side.TheVariants.{Ours, Device}

inside : (A : List ℕ) → T (all (λ i. elem i A) A)
inside A = all_from (λ i. elem i A) A (λ i m. m)

pub entry_set_in : (C : Clauses) (σ : Side) (A : List ℕ) (x : Values) (i : ℕ) → T (elem i (entry_set C σ A x)) → T (elem i A)
entry_set_in C Ours A x i m = m
entry_set_in C Device A x i m = kept_in (λ j. not (hits C x j)) A i m

pub last_entry_set_small : (C : Clauses) (π : Play) (x : Values) (i : ℕ) → T (elem i (last_entry_set C (hit C π) x)) → i < length C
last_entry_set_small C π x i m = below_in (length C) i (kept_in (λ j. hit C π j && not (hits C x j)) (below (length C)) i m)

-- the entry that a no leaves at the level before
no_entry : (C : Clauses) (σ : Side) (x : Values) (π : Play) (s : LevelState) (r : List LevelState) (A : List ℕ) → NoMeaning C σ (x ∷ π) s r A
    → MeaningEntry C (other σ) (s ∷ r) (record { set = entry_set C σ A x; values = x })
no_entry C Ours x π s r A a = (λ i m. nor_l (hits C x i) (hit C π i) (a.named i m), a.nothing_meets)
no_entry C Device x π s r A a =
    nothing_meets_more C Device s r (λ i. elem i A) (λ i. elem i (entry_set C Device A x) || hits C x i)
    (λ i m. ⊎_elim (or_r (elem i (entry_set C Device A x)) (hits C x i))
    (λ h. or_l (elem i (entry_set C Device A x)) (hits C x i) (keep_in (λ j. not (hits C x j)) A i m h)) (dec (hits C x i))) a.nothing_meets

-- the entry that a yes leaves at the last level
last_entry : (C : Clauses) (π : Play) (s : LevelState) (x : Values) → YesMeaning C Ours π s [] x → MeaningEntry C Ours [] (record { set = last_entry_set C (hit C π) x; values = x })
last_entry C π s x a i lt =
    ⊎_elim (or_r (elem i (last_entry_set C (hit C π) x)) (hits C x i))
    (λ h. ⊎_elim
    (λ g. or_l (elem i (last_entry_set C (hit C π) x)) (hits C x i)
    (keep_in (λ j. hit C π j && not (hits C x j)) (below (length C)) i (in_below (length C) i lt) (both (hit C π i) (not (hits C x i)) g h)))
    (λ g. absurd (clash (hits C x i) (a.meets i lt (a.agrees i lt g)) h)) (dec (hit C π i)))
    (dec (hits C x i))

sound_enter : (C : Clauses) (σ : Side) (A : List ℕ) (x : Values) (s : LevelState) (r : List LevelState) → In x (choices_at s) → MeaningEntry C σ r (record { set = A; values = x })
    → SoundLevel C σ s r → SoundLevel C σ (enter A x s) r
sound_enter C σ A x s r m f h = record { learned_covered = h.learned_covered; entries_hold = ((m, f), h.entries_hold); small = h.small }

sound_learn : (C : Clauses) (σ : Side) (A : List ℕ) (x : Values) (s n : LevelState) (r : List LevelState) → ((i : ℕ) → T (elem i A) → i < length C)
    → SoundLevel C σ s (n ∷ r) → SoundLevel C σ (learn A s) (enter A x n ∷ r)
sound_learn C σ A x s n r small h =
    record {
      learned_covered = (inl (inside A), learned_grow s (next {s = n} (entered A x) (grows_same r)) h.learned_covered);
      entries_hold = entries_all_grow C σ s (next {s = n} (entered A x) (grows_same r)) h.entries_hold;
      small = (small, h.small);
    }

-- the return to the level before the last two, or before the last
sound_back : (C : Clauses) (σ : Side) (A : List ℕ) (x : Values) (s n : LevelState) (r : List LevelState) → ((i : ℕ) → T (elem i A) → i < length C)
    → In x (choices_at n) → MeaningEntry C (other σ) r (record { set = A; values = x }) → SoundLevels C σ (s ∷ n ∷ r) → SoundLevels C σ (learn A s ∷ enter A x n ∷ r)
sound_back C σ A x s n r small m f h = (sound_learn C σ A x s n r small h.0, (sound_enter C (other σ) A x n r m f h.1.0, h.1.1))

kept_back : (C : Clauses) (σ : Side) (A : List ℕ) (x : Values) (back : List KeptLevel) (s n : LevelState) (r : List LevelState) → ((i : ℕ) → T (elem i A) → i < length C)
    → In x (choices_at n) → MeaningEntry C (other σ) r (record { set = A; values = x }) → SoundKept C σ back (s ∷ n ∷ r) → SoundKept C σ back (learn A s ∷ enter A x n ∷ r)
kept_back C σ A x back s n r small m f h =
    kept_grow C σ back (s ∷ n ∷ r) (learn A s ∷ enter A x n ∷ r) (next (learnt A) (next (entered A x) (grows_same r)))
    (sound_back C σ A x s n r small m f (kept_front C σ back (s ∷ n ∷ r) h)) h

-- the side of the first level
abbrev pub first_side : Side → List KeptLevel → Side
first_side σ [] = σ
first_side σ (p ∷ back) = first_side (other σ) back

abbrev pub SoundState : Clauses → Side → List (List ℕ) → State → Type 0
SoundState C τ levels (playing σ back front) = (first_side σ back ≡ τ) × (variables_of (all_levels back front) ≡ levels) × SoundKept C σ back front
SoundState C τ levels (decided w σ states) = (σ ≡ τ) × (variables_of states ≡ levels) × MeaningCheck C w σ states

pub same_vars : (back : List KeptLevel) (f f' : List LevelState) → variables_of f ≡ variables_of f' → variables_of (all_levels back f) ≡ variables_of (all_levels back f')
same_vars [] f f' e = e
same_vars (p ∷ back) f f' e = same_vars back (p.state ∷ f) (p.state ∷ f') (ap {B = List (List ℕ)} (λ v. p.state.variables ∷ v) e)

first_refused : (C : Clauses) (σ : Side) (s : LevelState) (r : List LevelState) (A : List ℕ) → NoMeaning C σ [] s r A → MeaningStart C (other σ) σ (s ∷ r)
first_refused C Ours s r A a = nothing_meets_more C Ours s r (λ i. elem i A) (λ i. true) (λ i m. tt) a.nothing_meets
first_refused C Device s r A a = nothing_meets_more C Device s r (λ i. elem i A) (λ i. false) (λ i m. a.named i m) a.nothing_meets

second_refused : (C : Clauses) (σ : Side) (x : Values) (p s : LevelState) (r : List LevelState) (A : List ℕ) → NoMeaning C σ (x ∷ []) s r A
    → MeaningStart C (other σ) (other σ) (enter (entry_set C σ A x) x p ∷ s ∷ r)
second_refused C Ours x p s r A a = inl tt
second_refused C Device x p s r A a =
    inl (empty_set (entry_set C Device A x) (λ i m. ⊎_elim (λ h. clash (hits C x i) h (kept_passes (λ j. not (hits C x j)) A i m)) (λ h. h)
    (or_cases (hits C x i) false (a.named i (kept_in (λ j. not (hits C x j)) A i m)))))

pub step_keeps : (C : Clauses) (τ : Side) (levels : List (List ℕ)) {a b : State} → MeaningStep C a b → SoundState C τ levels a → SoundState C τ levels b
step_keeps C τ levels (no_level_ours e) h = (h.0, h.1, record { starts = e; rules = tt })
step_keeps C τ levels (no_level_device e) h = (h.0, h.1, record { starts = e; rules = tt })
step_keeps C τ levels (yes_below_last {σ} {back} {s} {n} {r} x a) h = go σ a h
  where
    go : (σ : Side) → YesMeaning C σ (played back) s (n ∷ r) x → SoundState C τ levels (playing σ back (s ∷ n ∷ r)) → SoundState C τ levels (playing (other σ) (record { state = s; kept = x } ∷ back) (n ∷ r))
    go Ours a h = (h.0, h.1, (a.among, h.2))
    go Device a h = (h.0, h.1, (a.among, h.2))
step_keeps C τ levels (yes_only_level {s} x a) h = (
  h.0,
  h.1,
  record {
    starts = inl (empty_set (last_entry_set C (hit C []) x) (λ i m. kept_passes (λ j. false) (below (length C)) i m));
    rules = sound_rules C Ours Ours (enter (last_entry_set C (hit C []) x) x s ∷ [])
        (sound_enter C Ours (last_entry_set C (hit C []) x) x s [] a.among (last_entry C [] s x a) h.2.0, tt);
  },
)
step_keeps C τ levels (yes_at_last {p} {back} {s} x a) h =
    let A : List ℕ = last_entry_set C (hit C (played (p ∷ back))) x in (
      h.0,
      same_vars back (learn A p.state ∷ enter A x s ∷ []) (p.state ∷ s ∷ []) refl ∙ h.1,
      kept_back C Device A x back p.state s [] (last_entry_set_small C (played (p ∷ back)) x) a.among (last_entry C (played (p ∷ back)) s x a) h.2.1,
    )
step_keeps C τ levels (no_first {σ} {s} {r} A a) h =
    (h.0, h.1, record { starts = first_refused C σ s r A a; rules = sound_rules C (other σ) σ (s ∷ r) h.2 })
step_keeps C τ levels (no_second {σ} {p} {s} {r} A a) h = (
  h.0,
  h.1,
  record {
    starts = second_refused C σ p.kept p.state s r A a;
    rules = sound_rules C (other σ) (other σ) (enter (entry_set C σ A p.kept) p.kept p.state ∷ s ∷ r)
        (sound_enter C (other σ) (entry_set C σ A p.kept) p.kept p.state (s ∷ r) h.2.0 (no_entry C σ p.kept [] s r A a) h.2.1.0, h.2.1.1);
  },
)
step_keeps C τ levels (no_later {σ} {p} {q} {back} {s} {r} A a) h = go σ a h
  where
    go : (σ : Side) → NoMeaning C σ (played (p ∷ q ∷ back)) s r A → SoundState C τ levels (playing σ (p ∷ q ∷ back) (s ∷ r))
        → SoundState C τ levels (playing σ back (learn (entry_set C σ A p.kept) q.state ∷ enter (entry_set C σ A p.kept) p.kept p.state ∷ s ∷ r))
    go Ours a h = (
      h.0,
      same_vars back (learn A q.state ∷ enter A p.kept p.state ∷ s ∷ r) (q.state ∷ p.state ∷ s ∷ r) refl ∙ h.1,
      kept_back C Ours A p.kept back q.state p.state (s ∷ r) a.small h.2.0 (no_entry C Ours p.kept (played (q ∷ back)) s r A a) h.2.1.1,
    )
    go Device a h =
        let B : List ℕ = entry_set C Device A p.kept in (
          h.0,
          same_vars back (learn B q.state ∷ enter B p.kept p.state ∷ s ∷ r) (q.state ∷ p.state ∷ s ∷ r) refl ∙ h.1,
          kept_back C Device B p.kept back q.state p.state (s ∷ r) (λ i m. a.small i (entry_set_in C Device A p.kept i m)) h.2.0
              (no_entry C Device p.kept (played (q ∷ back)) s r A a) h.2.1.1,
        )

pub steps_keep : (C : Clauses) (τ : Side) (levels : List (List ℕ)) {n : ℕ} {a b : State} → MeaningSteps C n a b → SoundState C τ levels a → SoundState C τ levels b
steps_keep C τ levels here h = h
steps_keep C τ levels (more ss s) h = step_keeps C τ levels s (steps_keep C τ levels ss h)

new_sound : (C : Clauses) (σ : Side) (levels : List (List ℕ)) → SoundLevels C σ (each new_level levels)
new_sound C σ [] = tt
new_sound C σ (v ∷ vs) = (record { learned_covered = tt; entries_hold = tt; small = tt }, new_sound C (other σ) vs)

new_variables : (levels : List (List ℕ)) → variables_of (each new_level levels) ≡ levels
new_variables [] = refl
new_variables (v ∷ vs) = ap {B = List (List ℕ)} (λ l. v ∷ l) (new_variables vs)

pub opened_sound : (C : Clauses) (σ : Side) (levels : List (List ℕ)) → SoundState C σ levels (opened σ levels)
opened_sound C σ levels = (refl, new_variables levels, new_sound C σ levels)

pub verdict_checks : (C : Clauses) (σ : Side) (levels : List (List ℕ)) (n : ℕ) (w τ : Side) (states : List LevelState)
    → MeaningSteps C n (opened σ levels) (decided w τ states) → (τ ≡ σ) × (variables_of states ≡ levels) × MeaningCheck C w τ states
verdict_checks C σ levels n w τ states ss = steps_keep C σ levels ss (opened_sound C σ levels)
