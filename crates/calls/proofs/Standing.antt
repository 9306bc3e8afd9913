-- What is known of a table that holds a game of q after m steps: table and pool show a state that the theory's game of q reaches by m steps.
use Rattle.std.proofs.Common.{◌≡◌, ℕ, zero, suc, ◌+◌, ◌-◌, ◌^◌, ◌<◌, ◌≤◌, Bool, true, ◌↔◌, List, [], ◌∷◌, length, get_or, take, ℤ, Some, None, Ok, Err, Option, Result, sym, refl, ap, ◌∙◌, subst, ap₂, zero-add, arith}
use mathlib.Core.Option.{some}
use Rattle.std.proofs.lemmas.Bool.{false≢true}
use Rattle.formula.specs.Game.{other, Qbf, Clauses, PlayOf}
use Rattle.formula.specs.Lists.{each, from}
use Rattle.formula.specs.Plans.{CanWin}
use Rattle.formula.specs.Truth.{truth}
use Rattle.formula.specs.declared.side.Side.{Side}
use Rattle.formula.specs.declared.side.Side.TheVariants.{Ours, Device}
use Rattle.strategy.specs.Entries.{LevelState, variables_of}
use Rattle.strategy.specs.RecordedPlan.{move, RecordedPlanWins}
use Rattle.strategy.specs.WellFormed.{WellFormed, bound}
use Rattle.strategy.specs.Steps.{State, states_of, Reached}
use Rattle.strategy.specs.Check.{LevelRecords, Check, EntriesOfLevel, level_variables, level_entries, records_of}
use Rattle.strategy.specs.View.{LevelView, GameView, Shows, ShowsFront, shown_records}
use Rattle.strategy.proofs.Proved.{check_implies_wins, levels_stay, steps_are_bounded, decides}
use Rattle.strategy.proofs.ViewGames.{view_records, view_front}
use Rattle.strategy.proofs.ViewVerdicts.{view_decided, view_undecided}
use Rattle.layout.specs.declared.game.Level.{Level}
use Rattle.layout.specs.declared.game.Game.{Game}
use Rattle.layout.specs.Table.{Limits, Filled, nought, level_of}
use Rattle.layout.specs.Viewed.{view_level, maybe, view_of, clauses_of, signals_of}
use Rattle.layout.specs.Shown.{variables_at, levels_of, entries_in}
use Rattle.soundness.specs.Soundness.{SoundPool}
use Rattle.plan.specs.MoveLaws.{all_entries_in}
use Rattle.plan.proofs.Moving.{recorded}
use Rattle.plan_check.specs.declared.faults.CheckFault.{CheckFault}
use Rattle.plan_check.specs.declared.faults.CheckFault.TheVariants.{EmptyTable, UnsoundPool, TooManySignals}
use Rattle.plan_check.specs.Checked.{levels_shown, Accepts, Checked}
use Rattle.calls.specs.Places.{Place}
use Rattle.calls.specs.Laws.{Won, MovesWin, GameLaw}

pub record Standing (q : Qbf) (m : ℕ) (p : Place) : Type 0 where
  pub held : p.holds ≡ true
  pub well : WellFormed q
  pub limits : Limits p.game
  pub filled : Filled p.game
  pub variables : p.game.variables ≡ q.variables
  pub clauses : clauses_of p.game p.words ≡ q.clauses
  pub sound : SoundPool p.game p.words
  pub state : State
  pub reached : Reached q m state
  pub shows : Shows q.clauses q.variables state (view_of p.game p.words)

-- lists by places
module _ {A B : Type 0} (f : A → B) (h : ℕ → B) (d : A) where
  each_by_place : (ls : List A) (i k : ℕ) → k ≤ length ls → ((m : ℕ) → m < k → f (get_or ls m d) ≡ h (i + m)) → each f (take k ls) ≡ each h (from i k)
  each_by_place ls i zero b e = refl
  each_by_place [] i (suc k) b e = absurd (omega arith)
  each_by_place (x ∷ ls) i (suc k) b e =
      ap₂ {C = List B} (λ (y : B) r. y ∷ r) (e 0 (omega arith) ∙ ap h (omega arith)) (each_by_place ls (suc i) k (omega arith) (λ m l. e (suc m) (omega arith) ∙ ap h (omega arith)))

each-each : {A B D : Type 0} (f : B → D) (h : A → B) (ls : List A) → each f (each h ls) ≡ each (λ x. f (h x)) ls
each-each f h [] = refl
each-each f h (x ∷ ls) = ap (λ r. f (h x) ∷ r) (each-each f h ls)

module _ (g : Game) (pool : List ℤ) (limits : Limits g) (filled : Filled g) where
  long : g.depth ≤ length g.levels
  long = let a = limits.2 in let b = filled.2 in omega arith

  -- the levels and the entries that check is asked about are those of the game
  levels_shown_lem : level_variables (levels_shown g pool) ≡ levels_of g
  levels_shown_lem =
      each-each (λ (l : LevelRecords). l.variables) (λ (v : LevelView). record { variables = v.variables; chain = v.chain; entries = v.entries }) (view_of g pool).levels
      ∙ each-each (λ (v : LevelView). v.variables) (view_level g.variables pool) (take g.depth g.levels)
      ∙ each_by_place (λ (l : Level). (view_level g.variables pool l).variables) (variables_at g) nought g.levels 0 g.depth long (λ m h. ap (variables_at g) (sym (zero-add m)))

  entries_shown : level_entries (levels_shown g pool) ≡ all_entries_in g pool
  entries_shown =
      each-each (λ (l : LevelRecords). l.entries) (λ (v : LevelView). record { variables = v.variables; chain = v.chain; entries = v.entries }) (view_of g pool).levels
      ∙ each-each (λ (v : LevelView). v.entries) (view_level g.variables pool) (take g.depth g.levels)
      ∙ each_by_place (λ (l : Level). (view_level g.variables pool l).entries) (entries_in g pool) nought g.levels 0 g.depth long (λ m h. ap (entries_in g pool) (sym (zero-add m)))

-- the first level's side does not matter where there is no level
no_levels : (C : Clauses) (n : ℕ) (w σ τ : Side) → Check C n w σ [] → Check C n w τ []
no_levels C n Ours σ τ c = record { starts = c.starts; rules = tt }
no_levels C n Device σ τ c = record { starts = c.starts; rules = tt }

-- check's condition by the side of the first level, which is the formula's
module _ (C : Clauses) (n : ℕ) (w τ : Side) (states : List LevelState) (f : Level → LevelView) (same : (l : Level) → (f l).side ≡ l.side) where
  first_side_lem : (d : ℕ) (ls : List Level) → ShowsFront C n τ states (each f (take d ls))
      → Check C n w τ (shown_records (each f (take d ls))) ↔ Check C n w (get_or ls 0 nought).side (shown_records (each f (take d ls)))
  first_side_lem zero ls h = (no_levels C n w τ (get_or ls 0 nought).side, no_levels C n w (get_or ls 0 nought).side τ)
  first_side_lem (suc d) [] h = (no_levels C n w τ Ours, no_levels C n w Ours τ)
  first_side_lem (suc d) (l ∷ ls) h =
      let e : τ ≡ l.side = sym (shown_side (f l) (each f (take d ls)) states h) ∙ same l in
      let levels = shown_records (each f (take (suc d) (l ∷ ls))) in
      ((λ c. subst (λ σ. Check C n w σ levels) e c), (λ c. subst (λ σ. Check C n w σ levels) (sym e) c))
    where
      shown_side : (v : LevelView) (vs : List LevelView) (states : List LevelState) → ShowsFront C n τ states (v ∷ vs) → v.side ≡ τ
      shown_side v vs [] h = absurd h
      shown_side v vs (s ∷ r) h = h.0.0

module _ (q : Qbf) (m : ℕ) (p : Place) (st : Standing q m p) where
  abbrev g : Game
  g = p.game

  abbrev view : GameView
  view = view_of p.game p.words

  front : ShowsFront q.clauses q.variables q.first (states_of st.state) view.levels
  front = view_front q st.well m st.state view st.reached st.shows

  -- what check asks, in the formula's words
  accepts_is : (w : Side) → Check q.clauses q.variables w q.first (levels_shown g p.words) ↔ Accepts g p.words w
  accepts_is w =
      let both = first_side_lem q.clauses q.variables w q.first (states_of st.state) (view_level g.variables p.words) (λ l. refl) g.depth g.levels front in
      let to : (c : Clauses) (n : ℕ) → c ≡ q.clauses → n ≡ q.variables → Check c n w (level_of g 0).side (levels_shown g p.words) ↔ Check q.clauses q.variables w (level_of g 0).side (levels_shown g p.words) =
      λ c n a b. subst (λ k. Check k n w (level_of g 0).side (levels_shown g p.words) ↔ Check q.clauses q.variables w (level_of g 0).side (levels_shown g p.words)) (sym a)
      (subst (λ k. Check q.clauses k w (level_of g 0).side (levels_shown g p.words) ↔ Check q.clauses q.variables w (level_of g 0).side (levels_shown g p.words)) (sym b) ((λ x. x), (λ x. x))) in
      let there = to (clauses_of g p.words) g.variables st.clauses st.variables in
      ((λ c. there.1 (both.0 c)), (λ c. both.1 (there.0 c)))

  records : levels_shown g p.words ≡ records_of q.clauses q.variables q.first (states_of st.state)
  records = view_records q st.well m st.state view st.reached st.shows

  stay : (variables_of (states_of st.state) ≡ q.levels) × EntriesOfLevel (records_of q.clauses q.variables q.first (states_of st.state))
  stay = levels_stay q st.well m q.first st.state st.reached

  record_variables : (C : Clauses) (n : ℕ) (σ : Side) (states : List LevelState) → level_variables (records_of C n σ states) ≡ variables_of states
  record_variables C n σ [] = refl
  record_variables C n σ (s ∷ r) = ap (λ l. s.variables ∷ l) (record_variables C n (other σ) r)

  levels_are : level_variables (levels_shown g p.words) ≡ q.levels
  levels_are = ap level_variables records ∙ record_variables q.clauses q.variables q.first (states_of st.state) ∙ stay.0

  pub game_levels : levels_of g ≡ q.levels
  game_levels = sym (levels_shown_lem g p.words st.limits st.filled) ∙ levels_are

  -- check's condition makes the recorded plan win
  accepted_wins : (w : Side) → Accepts g p.words w → RecordedPlanWins q w (all_entries_in g p.words)
  accepted_wins w a =
      subst (RecordedPlanWins q w) (entries_shown g p.words st.limits st.filled)
      (check_implies_wins q w (levels_shown g p.words) levels_are st.well.ascending (subst EntriesOfLevel (sym records) stay.1) ((accepts_is w).1 a))

  verdict_shown : (w : Side) → Won p w → view.verdict ≡ some w
  verdict_shown w e = ap maybe e

  brings : (w : Side) → Won p w → Check q.clauses q.variables w q.first (shown_records view.levels) × RecordedPlanWins q w (level_entries (shown_records view.levels)) × CanWin q w × ((w ≡ Ours) ↔ (truth q ≡ true))
  brings w e = view_decided q st.well m st.state view w st.reached st.shows (verdict_shown w e)

  moves_win : (w : Side) → Won p w → MovesWin q p w
  moves_win w e = record {
    wins = subst (RecordedPlanWins q w) (entries_shown g p.words st.limits st.filled) (brings w e).1;
    moves = λ level π is play.
        recorded g p.words w level π is (subst (λ ls. PlayOf (take (level - 1) ls) π) (sym game_levels) play) ∙ ap (λ c. move c w (all_entries_in g p.words) π) st.clauses;
  }

  answer_accepts : (w : Side) → Won p w → (most : ℕ) (r : Result Bool CheckFault) → signals_of g ≤ most → Checked most p.holds g p.words w r → r ≡ Ok true
  answer_accepts w e most (Ok b) few c = ap (λ x. Ok x) (c.3.1 ((accepts_is w).0 (brings w e).0))
  answer_accepts w e most (Err EmptyTable) few c = absurd (false≢true (sym c ∙ st.held))
  answer_accepts w e most (Err UnsoundPool) few c = absurd (c.1 st.sound)
  answer_accepts w e most (Err TooManySignals) few c = absurd (omega (arith, c.2))

  in_time : 2 ^ suc (bound q) ≤ m → (w : Side) × Won p w
  in_time enough = by g.verdict refl
    where
      by : (o : Option Side) → g.verdict ≡ o → (w : Side) × Won p w
      by None e = let early : m < 2 ^ suc (bound q) = view_undecided q st.well m st.state view st.reached st.shows (ap maybe e) in absurd (omega arith)
      by (Some w) e = (w, e)

  -- the law of a game that stands
  pub standing_law : GameLaw q m p
  standing_law = record {
    few_steps = let h = steps_are_bounded q st.well m st.state st.reached in omega arith;
    in_time = in_time;
    plan = λ w e. ((λ is. subst (CanWin q) is (brings w e).2), (λ can. (brings w e).3.1 ((decides q Ours can).0 refl)));
    true_formula = λ w e. (brings w e).3;
    moves_win = moves_win;
    accepted = answer_accepts;
    accepts_winners = λ w most c. accepted_wins w (c.3.0 refl);
  }
