-- The theorems of specs/Laws, put together.
use Rattle.std.proofs.Common.{◌≡◌, ℕ, Bool, true, not, T, ◌↔◌, List, [], ◌∷◌, sym, refl, ap, ◌∙◌, subst}
use Rattle.formula.specs.Lists.{All, each}
use Rattle.formula.specs.Game.{Qbf, Clauses}
use Rattle.formula.specs.Plans.{CanWin}
use Rattle.formula.specs.Truth.{truth}
use Rattle.formula.specs.Backward.{For}
use Rattle.formula.proofs.Tests.{is_true}
use Rattle.formula.proofs.Turned.{ours_not_device}
use Rattle.formula.proofs.Decides.{plan_truth}
use Rattle.strategy.specs.Entries.{Entry, LevelState, variables_of, all_entries}
use Rattle.strategy.specs.WellFormed.{ProperLevel, WellFormed}
use Rattle.strategy.specs.Steps.{State, playing, decided, states_of, more}
use Rattle.strategy.specs.Check.{LevelRecords, level_variables, level_entries}
use Rattle.strategy.specs.RecordedPlan.{RecordedPlanWins}
use Rattle.strategy.specs.Laws.{CheckImpliesWins, RecordedPlanIsAPlan, RecordedPlanDecides, VerdictIsRight, LevelsStay, StepsAreBounded, VerdictInTime, StepLowersPotential, AnswerMakesAStep, AnswerExists, GameEnds, EntriesAreFew, LearnedSetsAreEntries, LearnedSetsAreFew, ChainSatisfied, ChainUnsatisfiable}
use Rattle.strategy.proofs.Ascents.{levels_proper, well_proper}
use Rattle.strategy.proofs.ByMeaning.{MeaningCheck, RecordedWins}
use Rattle.strategy.proofs.CheckWins.{check_wins}
use Rattle.strategy.proofs.Verdicts.{SoundState}
use Rattle.strategy.proofs.ChainMeaning.{chain_meets, meets_chain}
use Rattle.strategy.proofs.AnswerMeaning.{nothing_meets_unsatisfiable, unsatisfiable_nothing_meets}
use Rattle.strategy.proofs.RecordsWin.{without_chain, records_win}
use Rattle.strategy.proofs.VerdictRecords.{check_records, entries_of_level}
use Rattle.strategy.proofs.RecordedReadable.{recorded_readable, readable_recorded, recorded_plan, recorded_plan_wins, recorded_plan_moves}
use Rattle.strategy.proofs.EntryCount.{entries_few}
use Rattle.strategy.proofs.LearnedSets.{learned_entered, learned_few}
use Rattle.strategy.proofs.Games as games
use Rattle.formula.specs.declared.side.Side.{Side}
use Rattle.formula.specs.declared.side.Side.TheVariants.{Ours, Device}

-- levels without their chains
without_variables : (levels : List LevelRecords) → variables_of (each without_chain levels) ≡ level_variables levels
without_variables [] = refl
without_variables (l ∷ r) = ap {B = List (List ℕ)} (λ v. l.variables ∷ v) (without_variables r)

without_entries : (levels : List LevelRecords) → all_entries (each without_chain levels) ≡ level_entries levels
without_entries [] = refl
without_entries (l ∷ r) = ap {B = List (List Entry)} (λ v. l.entries ∷ v) (without_entries r)

proper_levels : (n : ℕ) (levels : List LevelRecords) → All (ProperLevel n) (level_variables levels) → All (λ (l : LevelRecords). ProperLevel n l.variables) levels
proper_levels n [] h = tt
proper_levels n (l ∷ r) h = (h.0, proper_levels n r h.1)

-- 1
pub check_implies_wins : CheckImpliesWins
check_implies_wins q w levels e p v c =
    subst (RecordedPlanWins q w) (without_entries levels)
    (recorded_readable q w (each without_chain levels) (without_variables levels ∙ e)
    (records_win q.clauses q.variables w q.first levels
    (proper_levels q.variables levels (subst (λ l. All (ProperLevel q.variables) l) (sym e) (levels_proper q.variables q.levels p))) v c))

-- 2
by_meaning : (q : Qbf) (w : Side) (levels : List LevelRecords) → level_variables levels ≡ q.levels → RecordedPlanWins q w (level_entries levels)
    → RecordedWins q.clauses w q.first (each without_chain levels) []
by_meaning q w levels e h =
    readable_recorded q w (each without_chain levels) (without_variables levels ∙ e) (subst (RecordedPlanWins q w) (sym (without_entries levels)) h)

pub recorded_plan_is_a_plan : RecordedPlanIsAPlan
recorded_plan_is_a_plan q w levels e h = (
  recorded_plan q w (level_entries levels),
  subst (λ E. Rattle.formula.specs.Plans.Wins q w (recorded_plan q w E)) (without_entries levels)
      (recorded_plan_wins q w (each without_chain levels) (without_variables levels ∙ e) (by_meaning q w levels e h)),
  recorded_plan_moves q w (level_entries levels),
)

truth_decided : (b : Bool) (w : Side) → For w b → (w ≡ Ours) ↔ (b ≡ true)
truth_decided b Ours h = (λ e. is_true b h, λ e. refl)
truth_decided b Device h = (λ e. absurd (ours_not_device (sym e)), λ e. absurd (subst (λ c. T (not c)) e h))

pub decides : (q : Qbf) (w : Side) → CanWin q w → (w ≡ Ours) ↔ (truth q ≡ true)
decides q w p = truth_decided (truth q) w (plan_truth q w p)

pub recorded_plan_decides : RecordedPlanDecides
recorded_plan_decides q w levels e h =
    let p : _ = recorded_plan_is_a_plan q w levels e h in decides q w (p.0, p.1)

-- 3
verdict_at : (q : Qbf) (w σ : Side) (states : List LevelState) → WellFormed q → (σ ≡ q.first) × (variables_of states ≡ q.levels) × MeaningCheck q.clauses w σ states
    → RecordedWins q.clauses w q.first states []
verdict_at q w σ states well h = subst (λ τ. RecordedWins q.clauses w τ states []) h.0 (check_wins q.clauses w σ states h.2)

pub verdict_is_right : VerdictIsRight
verdict_is_right q well m w σ states ss =
    let h : (σ ≡ q.first) × (variables_of states ≡ q.levels) × MeaningCheck q.clauses w σ states = games.reached_sound q well ss in
    let r : RecordedWins q.clauses w q.first states [] = verdict_at q w σ states well h in
    let c : CanWin q w = (recorded_plan q w (all_entries states), recorded_plan_wins q w states h.1 r) in (
      h.0,
      h.1,
      check_records q.clauses q.variables w σ states (subst (λ l. All (ProperLevel q.variables) l) (sym h.1) (well_proper q well)) h.2,
      recorded_readable q w states h.1 r,
      c,
      decides q w c,
    )

sound_levels : (C : Clauses) (τ : Side) (levels : List (List ℕ)) (b : State) → SoundState C τ levels b → variables_of (states_of b) ≡ levels
sound_levels C τ levels (playing σ back f) h = h.1
sound_levels C τ levels (decided w σ states) h = h.1

pub levels_stay : LevelsStay
levels_stay q well m σ b ss = (
  sound_levels q.clauses q.first q.levels b (games.reached_sound q well ss),
  entries_of_level q.clauses q.variables q.first σ q.levels m b (games.reached_meaning q well ss),
)

-- 4
pub steps_are_bounded : StepsAreBounded
steps_are_bounded q well m b ss = games.reached_bound q well m b ss

pub verdict_in_time : VerdictInTime
verdict_in_time q well m σ back f ss = games.playing_early q well m σ back f ss

pub step_lowers_potential : StepLowersPotential
step_lowers_potential q well m a b ss s = games.step_lowers_potential q well m a b ss s

pub answer_makes_a_step : AnswerMakesAStep
answer_makes_a_step q well m a x ss k = (games.answer_makes_step q well m a x ss k, more ss (games.answer_makes_step q well m a x ss k))

pub answer_exists : AnswerExists
answer_exists q well m σ back f ss = games.answer_exists q well m σ back f ss

pub game_ends : GameEnds
game_ends q well = games.game_ends q well

-- 5
pub entries_are_few : EntriesAreFew
entries_are_few q well m b ss = entries_few q.clauses q.first q.levels m b (games.reached_meaning q well ss)

pub learned_sets_are_entries : LearnedSetsAreEntries
learned_sets_are_entries q well m b ss = learned_entered q.clauses q.first q.levels m b (games.reached_meaning q well ss)

pub learned_sets_are_few : LearnedSetsAreFew
learned_sets_are_few q well m b ss = learned_few q.clauses q.first q.levels m b (games.reached_meaning q well ss)

-- 6
pub chain_satisfied : ChainSatisfied
chain_satisfied C n σ s r α p = (chain_meets C n σ s r α p, meets_chain C n σ s r α p)

pub chain_unsatisfiable : ChainUnsatisfiable
chain_unsatisfiable C n σ s r F p = (unsatisfiable_nothing_meets C n σ s r F p, nothing_meets_unsatisfiable C n σ s r F p)
