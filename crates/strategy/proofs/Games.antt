-- Games with an engine's answers, in records: they are games by meaning, each answer makes a step, and some answer is always there.
use Rattle.std.proofs.Common.{ℕ, zero, suc, ◌+◌, ◌^◌, ◌<◌, ◌≤◌, List, [], ◌∷◌, sym, refl, subst, ⊎_elim, arith}
use Rattle.formula.specs.Lists.{All}
use Rattle.formula.specs.Game.{Clauses, Qbf}
use Rattle.strategy.specs.Entries.{LevelState, variables_of}
use Rattle.formula.specs.Model.{bound_in}
use Rattle.strategy.specs.WellFormed.{ProperLevel, WellFormed}
use Rattle.strategy.specs.Questions.{YesAt, NoAt}
use Rattle.strategy.specs.Steps.{KeptLevel, played, State, playing, decided, all_levels, no_level_ours, no_level_device, yes_below_last, yes_only_level, yes_at_last, no_first, no_second, no_later, here, more, opened, Step, Reached}
use Rattle.strategy.specs.Next.{Answer, satisfied, refused, next, Answers}
use Rattle.strategy.specs.Potential.{present_term, potential}
use Rattle.strategy.proofs.Ascents.{well_proper}
use Rattle.strategy.proofs.ByMeaning.{MeaningStep, MeaningSteps}
use Rattle.strategy.proofs.Growth.{kept_front}
use Rattle.strategy.proofs.Verdicts.{SoundState, steps_keep, opened_sound}
use Rattle.strategy.proofs.AnswerMeaning.{yes_meaning, no_meaning, meaning_yes, meaning_no}
use Rattle.strategy.proofs.AnswerSteps.{answer_step, sound_last, HasPresent, opened_present, steps_present}
use Rattle.strategy.proofs.AnswerExists.{level_answer}
use Rattle.strategy.proofs.Falls.{present_pos, step_falls}
use Rattle.strategy.proofs.StepBound.{steps_fall, start_potential}
use Rattle.formula.specs.declared.side.Side.{Side}

-- the levels from the present one on have proper variables
proper_front : (n : ℕ) (back : List KeptLevel) (f : List LevelState) → All (ProperLevel n) (variables_of (all_levels back f)) → All (ProperLevel n) (variables_of f)
proper_front n [] f h = h
proper_front n (p ∷ back) f h = (proper_front n back (p.state ∷ f) h).1

abbrev ProperFront : ℕ → State → Type 0
ProperFront n (playing σ back f) = All (ProperLevel n) (variables_of f)
ProperFront n (decided w σ states) = Unit {0}

sound_proper : (C : Clauses) (n : ℕ) (τ : Side) (levels : List (List ℕ)) (a : State) → All (ProperLevel n) levels → SoundState C τ levels a → ProperFront n a
sound_proper C n τ levels (playing σ back f) p h = proper_front n back f (subst (λ l. All (ProperLevel n) l) (sym h.1) p)
sound_proper C n τ levels (decided w σ states) p h = tt

step_meaning : (q : Qbf) {a b : State} → ProperFront q.variables a → Step q a b → MeaningStep q.clauses a b
step_meaning q p (no_level_ours e) = no_level_ours e
step_meaning q p (no_level_device e) = no_level_device e
step_meaning q p (yes_below_last {σ} {back} {s} {n} {r} x a) = yes_below_last x (yes_meaning q.clauses q.variables σ (played back) s (n ∷ r) p.0 x a)
step_meaning q p (yes_only_level {s} x a) = yes_only_level x (yes_meaning q.clauses q.variables _ [] s [] p.0 x a)
step_meaning q p (yes_at_last {p = k} {back} {s} x a) = yes_at_last x (yes_meaning q.clauses q.variables _ (played (k ∷ back)) s [] p.0 x a)
step_meaning q p (no_first {σ} {s} {r} A a) = no_first A (no_meaning q.clauses q.variables σ [] s r p.0 A a)
step_meaning q p (no_second {σ} {p = k} {s} {r} A a) = no_second A (no_meaning q.clauses q.variables σ (played (k ∷ [])) s r p.0 A a)
step_meaning q p (no_later {σ} {p = k} {q = l} {back} {s} {r} A a) = no_later A (no_meaning q.clauses q.variables σ (played (k ∷ l ∷ back)) s r p.0 A a)

module _ (q : Qbf) (well : WellFormed q) where
  pub reached_meaning : {m : ℕ} {b : State} → Reached q m b → MeaningSteps q.clauses m (opened q.first q.levels) b
  reached_meaning here = here
  reached_meaning (more {b = b} ss s) =
      more (reached_meaning ss) (step_meaning q (sound_proper q.clauses q.variables q.first q.levels b (well_proper q well)
      (steps_keep q.clauses q.first q.levels (reached_meaning ss) (opened_sound q.clauses q.first q.levels))) s)

  pub reached_sound : {m : ℕ} {b : State} → Reached q m b → SoundState q.clauses q.first q.levels b
  reached_sound ss = steps_keep q.clauses q.first q.levels (reached_meaning ss) (opened_sound q.clauses q.first q.levels)

  -- an answer makes a step
  pub answer_makes_step : (m : ℕ) (a : State) (x : Answer) → Reached q m a → Answers q a x → Step q a (next q.clauses a x)
  answer_makes_step m a x ss k =
      answer_step q.clauses (YesAt q.clauses q.variables) (NoAt q.clauses q.variables) a x
      (sound_last q.clauses q.first q.levels a well.last_ours (reached_sound ss)) k

  -- and there is one
  answer_at : (σ : Side) (back : List KeptLevel) (f : List LevelState) → HasPresent (playing σ back f)
      → SoundState q.clauses q.first q.levels (playing σ back f) → (x : Answer) × Answers q (playing σ back f) x
  answer_at σ [] [] k h = (refused [], refl)
  answer_at σ (p ∷ back) [] k h = absurd k
  answer_at σ back (s ∷ r) k h =
      let p : ProperLevel q.variables s.variables =
      (sound_proper q.clauses q.variables q.first q.levels (playing σ back (s ∷ r)) (well_proper q well) h).0 in
      ⊎_elim (λ a. (satisfied a.0, meaning_yes q.clauses q.variables σ (played back) s r p a.0 a.1))
      (λ a. (refused a.0, meaning_no q.clauses q.variables σ (played back) s r p a.0 a.1))
      (level_answer q.clauses σ (played back) s r (kept_front q.clauses σ back (s ∷ r) h.2).0.small)

  pub answer_exists : (m : ℕ) (σ : Side) (back : List KeptLevel) (f : List LevelState) → Reached q m (playing σ back f)
      → (x : Answer) × Answers q (playing σ back f) x
  answer_exists m σ back f ss =
      answer_at σ back f
      (steps_present q.clauses (YesAt q.clauses q.variables) (NoAt q.clauses q.variables) ss (opened_present q.first q.levels))
      (reached_sound ss)

  -- how many steps
  pub reached_bound : (m : ℕ) (b : State) → Reached q m b → m + potential q.clauses b ≤ 2 ^ suc (bound_in q.levels)
  reached_bound m b ss =
      omega (
        arith,
        steps_fall q.clauses q.first q.levels (reached_meaning ss) (opened_sound q.clauses q.first q.levels),
        start_potential q.clauses q.first q.levels well.none_empty,
      )

  pub step_lowers_potential : (m : ℕ) (a b : State) → Reached q m a → Step q a b → potential q.clauses b < potential q.clauses a
  step_lowers_potential m a b ss s =
      step_falls q.clauses q.first q.levels
      (step_meaning q (sound_proper q.clauses q.variables q.first q.levels a (well_proper q well) (reached_sound ss)) s) (reached_sound ss)

  pub playing_early : (m : ℕ) (σ : Side) (back : List KeptLevel) (f : List LevelState) → Reached q m (playing σ back f) → m < 2 ^ suc (bound_in q.levels)
  playing_early m σ back f ss = omega (arith, reached_bound m (playing σ back f) ss, present_pos q.clauses σ (played back) f)

  -- a game ends
  run : (fuel m : ℕ) (a : State) → Reached q m a → potential q.clauses a ≤ fuel
      → (k : ℕ) × (w : Side) × (τ : Side) × (states : List LevelState) × Reached q k (decided w τ states)
  run fuel m (decided w σ states) ss h = (m, w, σ, states, ss)
  run zero m (playing σ back f) ss h =
      let z : 0 < present_term q.clauses σ (played back) f = present_pos q.clauses σ (played back) f in absurd (omega arith)
  run (suc fuel) m (playing σ back f) ss h =
      let x : (x : Answer) × Answers q (playing σ back f) x = answer_exists m σ back f ss in
      let s : Step q (playing σ back f) (next q.clauses (playing σ back f) x.0) = answer_makes_step m (playing σ back f) x.0 ss x.1 in
      run fuel (suc m) (next q.clauses (playing σ back f) x.0) (more ss s)
      (let l : potential q.clauses (next q.clauses (playing σ back f) x.0) < potential q.clauses (playing σ back f) =
      step_lowers_potential m (playing σ back f) (next q.clauses (playing σ back f) x.0) ss s in omega arith)

  pub game_ends : (k : ℕ) × (w : Side) × (τ : Side) × (states : List LevelState) × Reached q k (decided w τ states)
  game_ends = run (potential q.clauses (opened q.first q.levels)) 0 (opened q.first q.levels) here (omega arith)
