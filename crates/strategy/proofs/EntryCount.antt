-- Each entry belongs to the play at which it was made, which no older entry of its level fits; so there are few.
use Rattle.std.proofs.Common.{◌≡◌, ℕ, ◌+◌, ◌*◌, ◌^◌, ◌<◌, ◌≤◌, Bool, true, false, not, T, List, [], ◌∷◌, ◌++◌, length, sym, refl, ◌∙◌, subst, ap₂, inl, inr, ⊎_elim, suc-mul, arith, length-append, pow-add}
use Rattle.std.proofs.lemmas.List.{length-map}
use lib.Dec.{not_T}
use Rattle.formula.specs.Game.{other, Values, choices, Clauses, Play, hits, hit}
use Rattle.formula.specs.Lists.{all, any, count, In, All, Any, each, elem}
use Rattle.formula.proofs.Members.{in_left, in_right, in_map, all_map}
use Rattle.formula.proofs.Tests.{clash, or_l, or_r, or_cases, nor_l, nor_r, all_at, all_from, kept_in, kept_passes}
use Rattle.formula.proofs.Values.{choices-length}
use Rattle.strategy.specs.Counts.{NoSuperset, FewEntries}
use Rattle.strategy.specs.Entries.{Entry, LevelState, choices_at, fits, entries_of}
use Rattle.strategy.specs.Potential.{excludes, excluded}
use Rattle.strategy.specs.Steps.{KeptLevel, played, State, playing, decided, learn, enter, last_entry_set, entry_set, no_level_ours, no_level_device, yes_below_last, yes_only_level, yes_at_last, no_first, no_second, no_later, here, more, new_level, opened, all_levels, states_of}
use Rattle.strategy.proofs.ByMeaning.{YesMeaning, NoMeaning, MeaningStep, MeaningSteps}
use Rattle.strategy.proofs.Counting.{count_lt, count_length, none_of}
use Rattle.strategy.proofs.Falls.{yes_unexcluded, no_excludes, last_excludes}
use Rattle.strategy.proofs.Growth.{SoundKept, kept_front}
use Rattle.strategy.proofs.Verdicts.{SoundState, steps_keep, opened_sound}
use Rattle.formula.specs.declared.side.Side.{Side}
use Rattle.formula.specs.declared.side.Side.TheVariants.{Ours, Device}

-- the plays of the levels of these variables, the nearest level first
abbrev prepend_each : List Values → List Play → List Play
prepend_each [] U = []
prepend_each (x ∷ xs) U = each (λ π. x ∷ π) U ++ prepend_each xs U

abbrev plays : List (List ℕ) → List Play
plays [] = [] ∷ []
plays (vs ∷ variables_before) = prepend_each (choices vs) (plays variables_before)

-- each entry has a play of U that it fits, and that no older one does
abbrev OwnPlays : Clauses → Side → List Play → List Entry → Type 0
OwnPlays C σ U [] = Unit {0}
OwnPlays C σ U (e ∷ es) = ((π : Play) × In π U × T (fits C σ π e) × T (not (any (fits C σ π) es))) × OwnPlays C σ U es

-- the sets of the next level's entries are among the learned sets
abbrev EntriesLearned : LevelState → List LevelState → Type 0
EntriesLearned s r = All (λ e. Any (λ A. A ≡ e.set) s.learned) (entries_of r)

abbrev DistinctLevels : Clauses → Side → List (List ℕ) → List LevelState → Type 0
DistinctLevels C σ variables_before [] = Unit {0}
DistinctLevels C σ variables_before (s ∷ r) = OwnPlays C σ (plays variables_before) s.entries × EntriesLearned s r × DistinctLevels C (other σ) (s.variables ∷ variables_before) r

abbrev DistinctKept : Clauses → Side → List KeptLevel → List LevelState → Type 0
DistinctKept C σ [] f = All (λ e. ⊥) (entries_of f) × DistinctLevels C σ [] f
DistinctKept C σ (p ∷ back) f = T (not (excluded C (other σ) (played back) p.state p.kept)) × DistinctKept C (other σ) back (p.state ∷ f)

abbrev variables_before : List KeptLevel → List (List ℕ)
variables_before [] = []
variables_before (p ∷ back) = p.state.variables ∷ variables_before back

abbrev DistinctState : Clauses → State → Type 0
DistinctState C (playing σ back f) = DistinctKept C σ back f
DistinctState C (decided w σ states) = DistinctLevels C σ [] states

-- of lists
in_extend : (x : Values) (π : Play) (xs : List Values) (U : List Play) → In x xs → In π U → In (x ∷ π) (prepend_each xs U)
in_extend x π [] U h k = absurd h
in_extend x π (y ∷ xs) U (inl e) k =
    in_left (x ∷ π) (each (λ ρ. y ∷ ρ) U) (prepend_each xs U) (subst (λ z. In (x ∷ π) (each (λ ρ. z ∷ ρ) U)) e (in_map (λ ρ. x ∷ ρ) π U k))
in_extend x π (y ∷ xs) U (inr h) k = in_right (x ∷ π) (each (λ ρ. y ∷ ρ) U) (prepend_each xs U) (in_extend x π xs U h k)

length_extend : (xs : List Values) (U : List Play) → length (prepend_each xs U) ≡ length xs * length U
length_extend [] U = sym (native.Mathlib.Nat.zero-mul (length U))
length_extend (x ∷ xs) U =
    omega (arith, length-append (each (λ ρ. x ∷ ρ) U) (prepend_each xs U), length-map U (λ (ρ : Play). x ∷ ρ), length_extend xs U, suc-mul (length xs) (length U))

none_left : {A : Type 0} (f : A → Bool) (l : List A) → All (λ a. ⊥) l → T (not (any f l))
none_left f [] h = tt
none_left f (x ∷ l) h = absurd h.0

-- what the facts give
own_superset : (C : Clauses) (σ : Side) (U : List Play) (es : List Entry) → OwnPlays C σ U es → NoSuperset es
own_superset C σ U [] h = tt
own_superset C σ U (e ∷ es) h = (go es h.0.3, own_superset C σ U es h.1)
  where
    π : Play
    π = h.0.0

    sub : (σ : Side) (e' : Entry) → T (fits C σ π e) → T (not (fits C σ π e')) → T (not (all (λ i. elem i e.set) e'.set))
    sub Ours e' f n = not_T (all (λ i. elem i e.set) e'.set) (λ a. clash (fits C Ours π e')
        (all_from (hit C π) e'.set (λ i m. all_at (hit C π) e.set f i (all_at (λ j. elem j e.set) e'.set a i m))) n)
    sub Device e' f n = not_T (all (λ i. elem i e.set) e'.set) (λ a. clash (fits C Device π e')
        (all_from (λ i. not (hit C π i)) e'.set (λ i m. all_at (λ j. not (hit C π j)) e.set f i (all_at (λ j. elem j e.set) e'.set a i m))) n)

    go : (l : List Entry) → T (not (any (fits C σ π) l)) → All (λ e'. T (not (all (λ i. elem i e.set) e'.set))) l
    go [] n = tt
    go (e' ∷ l) n = (sub σ e' h.0.2 (nor_l (fits C σ π e') (any (fits C σ π) l) n), go l (nor_r (fits C σ π e') (any (fits C σ π) l) n))

own_few : (C : Clauses) (σ : Side) (U : List Play) (es : List Entry) → OwnPlays C σ U es → length es ≤ count (λ π. any (fits C σ π) es) U
own_few C σ U [] h = omega arith
own_few C σ U (e ∷ es) h =
    let c : count (λ π. any (fits C σ π) es) U < count (λ π. any (fits C σ π) (e ∷ es)) U =
    count_lt (λ π. any (fits C σ π) es) (λ π. any (fits C σ π) (e ∷ es)) U h.0.0 (λ π k. or_r (fits C σ π e) (any (fits C σ π) es) k)
    h.0.1 h.0.3 (or_l (fits C σ h.0.0 e) (any (fits C σ h.0.0) es) h.0.2) in
    omega (arith, own_few C σ U es h.1)

-- how many variables, the nearest level first
abbrev bound_before : List (List ℕ) → ℕ
bound_before [] = 0
bound_before (vs ∷ b) = length vs + bound_before b

plays_length : (b : List (List ℕ)) → length (plays b) ≡ 2 ^ bound_before b
plays_length [] = refl
plays_length (vs ∷ b) = length_extend (choices vs) (plays b) ∙ ap₂ ◌*◌ (choices-length vs) (plays_length b) ∙ sym (pow-add 2 (length vs) (bound_before b))

distinct_few : (C : Clauses) (σ : Side) (b : List (List ℕ)) (f : List LevelState) → DistinctLevels C σ b f → FewEntries (bound_before b) f
distinct_few C σ b [] h = tt
distinct_few C σ b (s ∷ r) h = (
  own_superset C σ (plays b) s.entries h.0,
  omega (arith, own_few C σ (plays b) s.entries h.0, count_length (λ π. any (fits C σ π) s.entries) (plays b), plays_length b),
  distinct_few C (other σ) (s.variables ∷ b) r h.2,
)

-- the levels from the present one on
distinct_front : (C : Clauses) (σ : Side) (back : List KeptLevel) (f : List LevelState) → DistinctKept C σ back f → DistinctLevels C σ (variables_before back) f
distinct_front C σ [] f h = h.1
distinct_front C Ours (p ∷ back) f h = (distinct_front C Device back (p.state ∷ f) h.1).2
distinct_front C Device (p ∷ back) f h = (distinct_front C Ours back (p.state ∷ f) h.1).2

distinct_grow : (C : Clauses) (σ : Side) (back : List KeptLevel) (f f' : List LevelState) → entries_of f ≡ entries_of f' → DistinctLevels C σ (variables_before back) f' → DistinctKept C σ back f → DistinctKept C σ back f'
distinct_grow C σ [] f f' e t h = (subst (λ l. All (λ x. ⊥) l) e h.0, t)
distinct_grow C Ours (p ∷ back) f f' e t h =
    let k : DistinctLevels C Device (variables_before back) (p.state ∷ f) = distinct_front C Device back (p.state ∷ f) h.1 in
    (h.0, distinct_grow C Device back (p.state ∷ f) (p.state ∷ f') refl (k.0, subst (λ l. All (λ x. Any (λ A. A ≡ x.set) p.state.learned) l) e k.1, t) h.1)
distinct_grow C Device (p ∷ back) f f' e t h =
    let k : DistinctLevels C Ours (variables_before back) (p.state ∷ f) = distinct_front C Ours back (p.state ∷ f) h.1 in
    (h.0, distinct_grow C Ours back (p.state ∷ f) (p.state ∷ f') refl (k.0, subst (λ l. All (λ x. Any (λ A. A ≡ x.set) p.state.learned) l) e k.1, t) h.1)

kept_few : (C : Clauses) (σ : Side) (back : List KeptLevel) (f : List LevelState) → DistinctKept C σ back f → FewEntries 0 (all_levels back f)
kept_few C σ [] f h = distinct_few C σ [] f h.1
kept_few C σ (p ∷ back) f h = kept_few C (other σ) back (p.state ∷ f) h.1

-- the kept values are choices of their levels, so what was played is among the plays
kept_play : (C : Clauses) (σ : Side) (back : List KeptLevel) (f : List LevelState) → SoundKept C σ back f → In (played back) (plays (variables_before back))
kept_play C σ [] f h = inl refl
kept_play C σ (p ∷ back) f h = in_extend p.kept (played back) (choices_at p.state) (plays (variables_before back)) h.0 (kept_play C (other σ) back (p.state ∷ f) h.1)

-- no entry of the level n after a level q fits the play that ends with values that q does not exclude
exclude_fit : (C : Clauses) (σ : Side) (π : Play) (e : Entry) → T (fits C (other σ) π e) → T (excludes C σ π e.set)
exclude_fit C Ours π e h = h
exclude_fit C Device π e h = h

fit_exclude : (C : Clauses) (σ : Side) (π : Play) (A : List ℕ) (x : Values) → T (excludes C σ π A) → T (fits C (other σ) π (record { set = A; values = x }))
fit_exclude C Ours π A x h = h
fit_exclude C Device π A x h = h

none_fit : (C : Clauses) (σ : Side) (π : Play) (q n : LevelState) (r : List LevelState) (z : Values) → EntriesLearned q (n ∷ r) → T (not (excluded C σ π q z))
    → T (not (any (fits C (other σ) (z ∷ π)) n.entries))
none_fit C σ π q n r z lk u =
    none_of (fits C (other σ) (z ∷ π)) n.entries
    (all_map (λ e. Any (λ A. A ≡ e.set) q.learned) (λ e. T (not (fits C (other σ) (z ∷ π) e))) n.entries
    (λ e a. not_T (fits C (other σ) (z ∷ π) e) (λ f. clash (excluded C σ π q z) (one_excludes e q.learned a (exclude_fit C σ (z ∷ π) e f)) u)) lk)
  where
    one_excludes : (e : Entry) (l : List (List ℕ)) → Any (λ A. A ≡ e.set) l → T (excludes C σ (z ∷ π) e.set) → T (any (excludes C σ (z ∷ π)) l)
    one_excludes e [] a b = a
    one_excludes e (A ∷ l) (inl q) b = or_l (excludes C σ (z ∷ π) A) (any (excludes C σ (z ∷ π)) l) (subst (λ B. T (excludes C σ (z ∷ π) B)) (sym q) b)
    one_excludes e (A ∷ l) (inr a) b = or_r (excludes C σ (z ∷ π) A) (any (excludes C σ (z ∷ π)) l) (one_excludes e l a b)

learned_more : (B : List ℕ) (s : LevelState) (es : List Entry) → All (λ e. Any (λ A. A ≡ e.set) s.learned) es → All (λ e. Any (λ A. A ≡ e.set) (B ∷ s.learned)) es
learned_more B s es h = all_map (λ e. Any (λ A. A ≡ e.set) s.learned) (λ e. Any (λ A. A ≡ e.set) (B ∷ s.learned)) es (λ e a. inr a) h

-- the return to the level q, from the level n after it that gets the entry
back_distinct : (C : Clauses) (σ : Side) (back : List KeptLevel) (q n : LevelState) (z x : Values) (r : List LevelState) (A : List ℕ) → In (z ∷ played back) (plays (q.variables ∷ variables_before back))
    → T (excludes C σ (z ∷ played back) A) → T (not (excluded C σ (played back) q z)) → DistinctKept C σ back (q ∷ n ∷ r)
    → DistinctKept C σ back (learn A q ∷ enter A x n ∷ r)
back_distinct C σ back q n z x r A m bar u h =
    let k : DistinctLevels C σ (variables_before back) (q ∷ n ∷ r) = distinct_front C σ back (q ∷ n ∷ r) h in
    distinct_grow C σ back (q ∷ n ∷ r) (learn A q ∷ enter A x n ∷ r) refl (
      k.0,
      (inl refl, learned_more A q n.entries k.1),
      (((z ∷ played back, m, fit_exclude C σ (z ∷ played back) A x bar, none_fit C σ (played back) q n r z k.1 u), k.2.0), k.2.1, k.2.2),
    ) h

step_distinct : (C : Clauses) (τ : Side) (levels : List (List ℕ)) {a b : State} → MeaningStep C a b → SoundState C τ levels a → DistinctState C a → DistinctState C b
step_distinct C τ levels (no_level_ours e) h t = tt
step_distinct C τ levels (no_level_device e) h t = tt
step_distinct C τ levels (yes_below_last {σ} {back} {s} {n} {r} x a) h t = go σ a h.2 t
  where
    go : (σ : Side) → YesMeaning C σ (played back) s (n ∷ r) x → SoundKept C σ back (s ∷ n ∷ r) → DistinctKept C σ back (s ∷ n ∷ r)
        → DistinctKept C (other σ) (record { state = s; kept = x } ∷ back) (n ∷ r)
    go Ours a h t = (yes_unexcluded C Ours (played back) s n r x a (kept_front C Ours back (s ∷ n ∷ r) h).0.small, t)
    go Device a h t = (yes_unexcluded C Device (played back) s n r x a (kept_front C Device back (s ∷ n ∷ r) h).0.small, t)
step_distinct C τ levels (yes_only_level {s} x a) h t =
    ((([], inl refl, last_excludes C [] x, none_left (fits C Ours []) s.entries t.0), t.1.0), t.1.1, tt)
step_distinct C τ levels (yes_at_last {p} {back} {s} x a) h t =
    back_distinct C Device back p.state s p.kept x [] (last_entry_set C (hit C (played (p ∷ back))) x) (kept_play C Ours (p ∷ back) (s ∷ []) h.2) (last_excludes C (played (p ∷ back)) x) t.0 t.1
step_distinct C τ levels (no_first A a) h t = t.1
step_distinct C τ levels (no_second {σ} {p} {s} {r} A a) h t =
    ((([], inl refl, first_fit σ a, none_left (fits C (other σ) []) p.state.entries t.1.0), t.1.1.0), t.1.1.1, t.1.1.2)
  where
    first_fit : (σ : Side) → NoMeaning C σ (p.kept ∷ []) s r A → T (fits C (other σ) [] (record { set = entry_set C σ A p.kept; values = p.kept }))
    first_fit Ours a = all_from (λ i. true) A (λ i m. tt)
    first_fit Device a = all_from (λ i. false) (entry_set C Device A p.kept)
        (λ i m. ⊎_elim (λ g. absurd (clash (hits C p.kept i) g (kept_passes (λ j. not (hits C p.kept j)) A i m))) (λ g. g)
        (or_cases (hits C p.kept i) false (a.named i (kept_in (λ j. not (hits C p.kept j)) A i m))))
step_distinct C τ levels (no_later {σ} {p} {q} {back} {s} {r} A a) h t = go σ a h.2 t
  where
    go : (σ : Side) → NoMeaning C σ (played (p ∷ q ∷ back)) s r A → SoundKept C σ (p ∷ q ∷ back) (s ∷ r) → DistinctKept C σ (p ∷ q ∷ back) (s ∷ r)
        → DistinctKept C σ back (learn (entry_set C σ A p.kept) q.state ∷ enter (entry_set C σ A p.kept) p.kept p.state ∷ s ∷ r)
    go Ours a h t =
        back_distinct C Ours back q.state p.state q.kept p.kept (s ∷ r) A (kept_play C Device (q ∷ back) (p.state ∷ s ∷ r) h.1)
        (no_excludes C Ours (played back) p.kept q.kept s r A a) t.1.0 t.1.1
    go Device a h t =
        back_distinct C Device back q.state p.state q.kept p.kept (s ∷ r) (entry_set C Device A p.kept) (kept_play C Ours (q ∷ back) (p.state ∷ s ∷ r) h.1)
        (no_excludes C Device (played back) p.kept q.kept s r A a) t.1.0 t.1.1

steps_distinct : (C : Clauses) (τ : Side) (levels : List (List ℕ)) {n : ℕ} {a b : State} → MeaningSteps C n a b → SoundState C τ levels a → DistinctState C a → DistinctState C b
steps_distinct C τ levels here h t = t
steps_distinct C τ levels (more ss s) h t = step_distinct C τ levels s (steps_keep C τ levels ss h) (steps_distinct C τ levels ss h t)

new_distinct : (C : Clauses) (σ : Side) (b levels : List (List ℕ)) → DistinctLevels C σ b (each new_level levels)
new_distinct C σ b [] = tt
new_distinct C σ b (v ∷ []) = (tt, tt, tt)
new_distinct C σ b (v ∷ w ∷ vs) = (tt, tt, new_distinct C (other σ) (v ∷ b) (w ∷ vs))

new_empty : (levels : List (List ℕ)) → All (λ e. ⊥) (entries_of (each new_level levels))
new_empty [] = tt
new_empty (v ∷ vs) = tt

distinct_state_few : (C : Clauses) (b : State) → DistinctState C b → FewEntries 0 (states_of b)
distinct_state_few C (playing σ back f) h = kept_few C σ back f h
distinct_state_few C (decided w σ states) h = distinct_few C σ [] states h

pub entries_few : (C : Clauses) (σ : Side) (levels : List (List ℕ)) (n : ℕ) (b : State) → MeaningSteps C n (opened σ levels) b → FewEntries 0 (states_of b)
entries_few C σ levels n b ss =
    distinct_state_few C b (steps_distinct C σ levels ss (opened_sound C σ levels) (new_empty levels, new_distinct C σ [] levels))
