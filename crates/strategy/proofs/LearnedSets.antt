-- What a level has learned is what the next level has entered.
use Rattle.std.proofs.Common.{◌≡◌, ℕ, ◌+◌, ◌^◌, ◌≤◌, List, [], ◌∷◌, length, sym, refl, ap, ◌∙◌, subst, arith}
use Rattle.std.proofs.lemmas.List.{length-map}
use Rattle.formula.specs.Game.{Values, Clauses, hit}
use Rattle.formula.specs.Lists.{each}
use Rattle.strategy.specs.Counts.{FewEntries, sets_of, LearnedAreEntries, FewLearned}
use Rattle.strategy.specs.Entries.{Entry, LevelState, entries_of}
use Rattle.strategy.specs.Steps.{KeptLevel, played, State, learn, enter, last_entry_set, entry_set, no_level_ours, no_level_device, yes_below_last, yes_only_level, yes_at_last, no_first, no_second, no_later, here, more, new_level, opened, all_levels, states_of}
use Rattle.strategy.proofs.ByMeaning.{MeaningStep, MeaningSteps}
use Rattle.strategy.proofs.EntryCount.{entries_few}
use Rattle.formula.specs.declared.side.Side.{Side}

learned_front : (back : List KeptLevel) (f : List LevelState) → LearnedAreEntries (all_levels back f) → LearnedAreEntries f
learned_front [] f h = h
learned_front (p ∷ back) f h = (learned_front back (p.state ∷ f) h).1

learned_entries_grow : (back : List KeptLevel) (f f' : List LevelState) → sets_of (entries_of f) ≡ sets_of (entries_of f') → LearnedAreEntries f' → LearnedAreEntries (all_levels back f) → LearnedAreEntries (all_levels back f')
learned_entries_grow [] f f' e k h = k
learned_entries_grow (p ∷ back) f f' e k h =
    learned_entries_grow back (p.state ∷ f) (p.state ∷ f') refl ((learned_front back (p.state ∷ f) h).0 ∙ e, k) h

learned_back : (back : List KeptLevel) (q n : LevelState) (r : List LevelState) (A : List ℕ) (x : Values) → LearnedAreEntries (all_levels back (q ∷ n ∷ r)) → LearnedAreEntries (all_levels back (learn A q ∷ enter A x n ∷ r))
learned_back back q n r A x h =
    let k : LearnedAreEntries (q ∷ n ∷ r) = learned_front back (q ∷ n ∷ r) h in
    learned_entries_grow back (q ∷ n ∷ r) (learn A q ∷ enter A x n ∷ r) refl (ap {B = List (List ℕ)} (λ l. A ∷ l) k.0, (k.1.0, k.1.1)) h

step_learned : (C : Clauses) {a b : State} → MeaningStep C a b → LearnedAreEntries (states_of a) → LearnedAreEntries (states_of b)
step_learned C (no_level_ours e) h = h
step_learned C (no_level_device e) h = h
step_learned C (yes_below_last x a) h = h
step_learned C (yes_only_level x a) h = (h.0, h.1)
step_learned C (yes_at_last {p} {back} {s} x a) h = learned_back back p.state s [] (last_entry_set C (hit C (played (p ∷ back))) x) x h
step_learned C (no_first A a) h = h
step_learned C (no_second A a) h = (h.0, h.1)
step_learned C (no_later {σ} {p} {q} {back} {s} {r} A a) h = learned_back back q.state p.state (s ∷ r) (entry_set C σ A p.kept) p.kept h

steps_learned : (C : Clauses) {n : ℕ} {a b : State} → MeaningSteps C n a b → LearnedAreEntries (states_of a) → LearnedAreEntries (states_of b)
steps_learned C here h = h
steps_learned C (more ss s) h = step_learned C s (steps_learned C ss h)

new_learned : (levels : List (List ℕ)) → LearnedAreEntries (each new_level levels)
new_learned [] = tt
new_learned (v ∷ []) = (refl, tt)
new_learned (v ∷ w ∷ r) = (refl, new_learned (w ∷ r))

pub learned_entered : (C : Clauses) (σ : Side) (levels : List (List ℕ)) (n : ℕ) (b : State) → MeaningSteps C n (opened σ levels) b → LearnedAreEntries (states_of b)
learned_entered C σ levels n b ss = steps_learned C ss (new_learned levels)

few : (r : ℕ) (f : List LevelState) → LearnedAreEntries f → FewEntries r f → FewLearned r f
few r [] h k = tt
few r (s ∷ []) h k = (subst (λ l. length l ≤ 2 ^ (length s.variables + r)) (sym h.0) (omega arith), tt)
few r (s ∷ n ∷ f) h k =
    (subst (λ l. length l ≤ 2 ^ (length s.variables + r)) (sym h.0) (omega (arith, length-map n.entries (λ (e : Entry). e.set), k.2.1)), few (length s.variables + r) (n ∷ f) h.1 k.2)

pub learned_few : (C : Clauses) (σ : Side) (levels : List (List ℕ)) (n : ℕ) (b : State) → MeaningSteps C n (opened σ levels) b → FewLearned 0 (states_of b)
learned_few C σ levels n b ss = few 0 (states_of b) (learned_entered C σ levels n b ss) (entries_few C σ levels n b ss)
