-- An answer makes a step, and while a game is played some level is present.
use Rattle.std.proofs.Common.{◌≡◌, ℕ, List, [], ◌∷◌, sym, refl, subst, arith}
use Rattle.formula.specs.Game.{Clauses}
use Rattle.formula.proofs.Turned.{ours_not_device}
use Rattle.strategy.specs.Entries.{LevelState, variables_of}
use Rattle.formula.specs.Proper.{LastOurs}
use Rattle.strategy.specs.Steps.{KeptLevel, State, playing, decided, all_levels, YesMeans, NoMeans, StepBy, no_level_ours, no_level_device, yes_below_last, yes_only_level, yes_at_last, no_first, no_second, no_later, StepsBy, here, more, opened}
use Rattle.strategy.specs.Next.{Answer, satisfied, refused, next, AnswerBy}
use Rattle.strategy.proofs.Verdicts.{first_side, SoundState}
use Rattle.formula.specs.declared.side.Side.{Side}
use Rattle.formula.specs.declared.side.Side.TheVariants.{Ours, Device}

cons-nil : {A : Type 0} (x : A) (l : List A) → x ∷ l ≡ [] → ⊥
cons-nil {A} x l e = subst EveryHit e tt
  where
    EveryHit : List A → Type 0
    EveryHit [] = ⊥
    EveryHit (y ∷ m) = Unit {0}

-- the last of the levels from the present one on is ours
abbrev pub LastFrontOurs : State → Type 0
LastFrontOurs (playing σ back f) = LastOurs σ (variables_of f)
LastFrontOurs (decided w σ states) = Unit {0}

pub answer_step : (C : Clauses) (Yes : YesMeans) (No : NoMeans) (a : State) (x : Answer) → LastFrontOurs a → AnswerBy Yes No a x
    → StepBy C Yes No a (next C a x)
answer_step C Yes No (decided w σ states) x h k = absurd k
answer_step [] Yes No (playing σ [] []) x h k = no_level_ours refl
answer_step (c ∷ C) Yes No (playing σ [] []) x h k = no_level_device (omega arith)
answer_step C Yes No (playing σ (p ∷ back) []) x h k = absurd (cons-nil p back k)
answer_step C Yes No (playing σ back (s ∷ n ∷ r)) (satisfied x) h k = yes_below_last x k
answer_step C Yes No (playing Ours [] (s ∷ [])) (satisfied x) h k = yes_only_level x k
answer_step C Yes No (playing Ours (p ∷ back) (s ∷ [])) (satisfied x) h k = yes_at_last x k
answer_step C Yes No (playing Device back (s ∷ [])) (satisfied x) h k = absurd (ours_not_device (sym h))
answer_step C Yes No (playing σ [] (s ∷ r)) (refused A) h k = no_first A k
answer_step C Yes No (playing σ (p ∷ []) (s ∷ r)) (refused A) h k = no_second A k
answer_step C Yes No (playing σ (p ∷ q ∷ back) (s ∷ r)) (refused A) h k = no_later A k

-- the last level of the levels from the present one on is ours
last_front : (σ : Side) (back : List KeptLevel) (s : LevelState) (r : List LevelState) → LastOurs (first_side σ back) (variables_of (all_levels back (s ∷ r))) → LastOurs σ (variables_of (s ∷ r))
last_front σ [] s r h = h
last_front Ours (p ∷ back) s r h = last_front Device back p.state (s ∷ r) h
last_front Device (p ∷ back) s r h = last_front Ours back p.state (s ∷ r) h

pub sound_last : (C : Clauses) (τ : Side) (levels : List (List ℕ)) (a : State) → LastOurs τ levels → SoundState C τ levels a → LastFrontOurs a
sound_last C τ levels (playing σ back []) h k = tt
sound_last C τ levels (playing σ back (s ∷ r)) h k =
    last_front σ back s r (subst (λ l. LastOurs (first_side σ back) l) (sym k.1) (subst (λ t. LastOurs t levels) (sym k.0) h))
sound_last C τ levels (decided w σ states) h k = tt

-- some level is left, unless there is none
abbrev pub HasPresent : State → Type 0
HasPresent (playing σ back (s ∷ r)) = Unit {0}
HasPresent (playing σ [] []) = Unit {0}
HasPresent (playing σ (p ∷ back) []) = ⊥
HasPresent (decided w σ states) = Unit {0}

step_present : (C : Clauses) (Yes : YesMeans) (No : NoMeans) {a b : State} → StepBy C Yes No a b → HasPresent b
step_present C Yes No (no_level_ours e) = tt
step_present C Yes No (no_level_device e) = tt
step_present C Yes No (yes_below_last x a) = tt
step_present C Yes No (yes_only_level x a) = tt
step_present C Yes No (yes_at_last x a) = tt
step_present C Yes No (no_first A a) = tt
step_present C Yes No (no_second A a) = tt
step_present C Yes No (no_later A a) = tt

pub opened_present : (σ : Side) (levels : List (List ℕ)) → HasPresent (opened σ levels)
opened_present σ [] = tt
opened_present σ (v ∷ r) = tt

pub steps_present : (C : Clauses) (Yes : YesMeans) (No : NoMeans) {n : ℕ} {a b : State} → StepsBy C Yes No n a b → HasPresent a → HasPresent b
steps_present C Yes No here h = h
steps_present C Yes No (more ss s) h = step_present C Yes No s
