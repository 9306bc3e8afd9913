-- Every call keeps what is known of a table; and so the law holds after any run.
use Rattle.std.proofs.Common.{◌≡◌, ℕ, zero, suc, ◌<◌, ◌≤◌, Bool, true, false, cond, eqb, ltb, List, [], ◌∷◌, length, get_or, set, replicate, ℤ, None, Some, Ok, Err, Option, Result, sym, refl, ap, ◌∙◌, subst, ⊎_elim, arith}
use mathlib.Core.Option.{none, some}
use mathlib.Core.Option.{Option as Maybe}
use Rattle.std.proofs.lemmas.List.{get_or-set_same, get_or-set_other, length-set}
use Rattle.std.proofs.lemmas.Bool.{cond-true, cond-false, cases_eq, eq-eqb, ne_eqb, false≢true, ltb-false}
use Rattle.formula.specs.Game.{Qbf}
use Rattle.formula.specs.Lists.{All}
use Rattle.formula.specs.declared.side.Side.{Side}
use Rattle.reader.specs.Text.{reads}
use Rattle.reader.specs.declared.faults.TextFault.{TextFault}
use Rattle.strategy.specs.Steps.{State, playing, decided, opened, here, Reached}
use Rattle.strategy.specs.View.{Shows, AnswersView}
use Rattle.strategy.specs.View.{stepped as stepped_view}
use Rattle.strategy.proofs.ViewGames.{view_follows}
use Rattle.layout.specs.declared.game.Game.{Game}
use Rattle.layout.specs.Table.{Limits, Filled, blank, blank_game}
use Rattle.layout.specs.Laying.{laid}
use Rattle.layout.specs.Opening.{open_chains, words_needed}
use Rattle.layout.specs.Opened.{new_levels, unused, opened_game}
use Rattle.layout.specs.Viewed.{view_of, maybe}
use Rattle.layout.proofs.Begun.{chains_some, length_put}
use Rattle.rules.proofs.Noted.{length_clauses}
use Rattle.game.specs.declared.faults.GameFault.{GameFault}
use Rattle.game.specs.declared.faults.GameFault.TheVariants.{Text, PoolTooLong, PoolTooShort}
use Rattle.game.specs.declared.refusals.StepFault.{StepFault}
use Rattle.game.specs.declared.verdict.Verdict.{Verdict}
use Rattle.game.specs.Opens.{fitting, opening, open_gives, pool_after, game_after, holds_after}
use Rattle.game.specs.Steps.{Played, StepGives}
use Rattle.game.specs.Verdicts.{is_verdict_of, retiring}
use Rattle.game.specs.Verdicts.{holds_after as holds_retired, game_after as game_retired}
use Rattle.game.proofs.OpeningFits.{never_both, same_ok}
use Rattle.calls.specs.Acts.{Act, open_text, retire, Told, no_table, no_verdict, moved, checked, answered}
use Rattle.calls.specs.Acts.{opened as opened-so, stepped as stepped-so, retired as retired-so}
use Rattle.calls.specs.Places.{Place, nowhere}
use Rattle.calls.specs.Happening.{Happens, opens, steps, moves, moves_without, checks, retires, retires_without, asks, OpenedSo, side_said, taken}
use Rattle.calls.specs.Runs.{Event, Run, none_held, call, call_nowhere, formula_of, formula_after, formula_held, steps_after, steps_made}
use Rattle.calls.specs.Laws.{LawOfAllRuns}
use Rattle.calls.proofs.Standing.{Standing, standing_law}

-- what is known of a table: it holds no game, or one of q after m steps
abbrev Fits : Maybe Qbf → ℕ → Place → Type 0
Fits none m p = p.holds ≡ false
Fits (some q) m p = Standing q m p

-- the verdict that is kept does not matter
fits_same : (f : Maybe Qbf) (m : ℕ) (p p' : Place) → p'.holds ≡ p.holds → p'.game ≡ p.game → p'.words ≡ p.words → Fits f m p → Fits f m p'
fits_same none m p p' a b c h = a ∙ h
fits_same (some q) m p p' a b c st =
    let st' : Standing q m (record { holds = p.holds; game = p.game; words = p.words; verdict = p'.verdict }) = record {
      held = st.held;
      well = st.well;
      limits = st.limits;
      filled = st.filled;
      variables = st.variables;
      clauses = st.clauses;
      sound = st.sound;
      state = st.state;
      reached = st.reached;
      shows = st.shows;
    } in
    subst (λ h. Standing q m (record { holds = h; game = p'.game; words = p'.words; verdict = p'.verdict })) (sym a)
    (subst (λ g. Standing q m (record { holds = p.holds; game = g; words = p'.words; verdict = p'.verdict })) (sym b)
    (subst (λ w. Standing q m (record { holds = p.holds; game = p.game; words = w; verdict = p'.verdict })) (sym c) st'))

-- open: the formula is the one that the text reads as
module _ (size : ℕ) (q : Qbf) where
  fitted : (read : Result Qbf TextFault) → fitting size read ≡ Ok q → read ≡ Ok q
  fitted (Err e) is = absurd (never_both (Err (Text e)) (Text e) q refl is)
  fitted (Ok q') is = by (ltb size (words_needed q')) is
    where
      by : (b : Bool) → cond b (Err PoolTooShort) (Ok q') ≡ Ok q → ◌≡◌ {A = Result Qbf TextFault} (Ok q') (Ok q)
      by true e = absurd (never_both (Err PoolTooShort) PoolTooShort q refl e)
      by false e = ap (λ x. Ok x) (same_ok (Ok q') q' q refl e)

  pub read_so : (read : Result Qbf TextFault) → opening size read ≡ Ok q → (read ≡ Ok q) × (size ≤ 1048576)
  read_so read is = by (ltb 1048576 size) refl is
    where
      by : (b : Bool) → ltb 1048576 size ≡ b → cond b (Err PoolTooLong) (fitting size read) ≡ Ok q → (read ≡ Ok q) × (size ≤ 1048576)
      by true e i = absurd (never_both (Err PoolTooLong) PoolTooLong q refl i)
      by false e i = (fitted read i, ltb-false 1048576 size e)

opened_stands : (text : List ℕ) (number : ℕ) (p p' : Place) (r : Result (Unit {0}) GameFault) (so : OpenedSo text number p r p') (q : Qbf)
    → opening (length p.words) (reads text) ≡ Ok q → Standing q 0 p'
opened_stands text number p p' r so q is =
    let begun = so.begins q is in
    let size = (read_so (length p.words) q (reads text) is).1 in
    let proper = begun.proper in
    let game : p'.game ≡ opened_game q number p.words = so.game ∙ ap (game_after p.game number p.words) is in
    let limits : Limits (opened_game q number p.words) = (proper.few_variables, proper.few_clauses, proper.few_levels, omega arith) in
    let filled : Filled (opened_game q number p.words) =
    (chains_some (unused p.words) (open_chains q) (omega arith), size, length_put 0 (new_levels q.clauses q.variables (laid (unused p.words) q.clauses) q.first q.levels) (replicate 32 blank)) in
    record {
      held = so.holds ∙ ap (holds_after p.holds) is;
      well = record { last_ours = proper.last_ours; none_empty = proper.none_empty; ascending = proper.ascending };
      limits = subst Limits (sym game) limits;
      filled = subst Filled (sym game) filled;
      variables = ap (λ (g : Game). g.variables) game;
      clauses = begun.clauses;
      sound = so.sound q is;
      state = opened q.first q.levels;
      reached = here;
      shows = begun.shows;
    }

open_fits : (text : List ℕ) (number : ℕ) (p p' : Place) (r : Result (Unit {0}) GameFault) → OpenedSo text number p r p' → (f : Maybe Qbf) (m : ℕ) → Fits f m p
    → Fits (formula_after (open_text text number) (opened-so r) f) (steps_after (opened-so r) m) p'
open_fits text number p p' (Ok u) so f m fits = by (opening (length p.words) (reads text)) refl
  where
    by : (o : Result Qbf GameFault) → opening (length p.words) (reads text) ≡ o → Fits (formula_of (reads text)) 0 p'
    by (Ok q) e = subst (λ x. Fits x 0 p') (sym (ap formula_of (read_so (length p.words) q (reads text) e).0)) (opened_stands text number p p' (Ok u) so q e)
    by (Err x) e = absurd (never_both (Err x) x u refl (sym (so.gives ∙ ap open_gives e)))
open_fits text number p p' (Err x) so f m fits = by (opening (length p.words) (reads text)) refl
  where
    by : (o : Result Qbf GameFault) → opening (length p.words) (reads text) ≡ o → Fits f m p'
    by (Ok q) e = absurd (never_both (Err x) x tt refl (so.gives ∙ ap open_gives e))
    by (Err y) e = fits_same f m p p' (so.holds ∙ ap (holds_after p.holds) e) (so.game ∙ ap (game_after p.game number p.words) e) (so.words ∙ ap (pool_after p.words) e) fits

-- step: the state that is shown makes a step
stepped_stands : (q : Qbf) (m : ℕ) (p p' : Place) → Standing q m p → p.game.verdict ≡ None → p'.holds ≡ true → Played p.game p.words p'.game p'.words → Standing q (suc m) p'
stepped_stands q m p p' st undecided holds played = by st.state st.reached st.shows
  where
    by : (a : State) → Reached q m a → Shows q.clauses q.variables a (view_of p.game p.words) → Standing q (suc m) p'
    by (decided w σ states) reached shows = absurd (no_side w (sym (ap maybe undecided) ∙ shows.0))
      where
        no_side : (w : Side) → ◌≡◌ {A = Maybe Side} none (some w) → ⊥
        no_side w e = let z : ◌≡◌ {A = ℕ} 0 1 = cc in omega arith
    by (playing σ back front) reached shows =
        let C = q.clauses in
        let n = q.variables in
        let count : p.game.clauses ≡ length C = sym (length_clauses p.game p.words st.sound.formula) ∙ ap (λ (c : List (List ℤ)). length c) st.clauses in
        let answers : AnswersView n (length C) (view_of p.game p.words) played.answer =
        subst (λ k. AnswersView n k (view_of p.game p.words) played.answer) count (subst (λ k. AnswersView k p.game.clauses (view_of p.game p.words) played.answer) st.variables played.answers) in
        let on = view_follows q st.well m σ back front (view_of p.game p.words) played.answer reached shows answers in
        let shown : view_of p'.game p'.words ≡ stepped_view C n (view_of p.game p.words) played.answer =
        played.shows ∙ ap (λ c. stepped_view c p.game.variables (view_of p.game p.words) played.answer) st.clauses ∙ ap (λ k. stepped_view C k (view_of p.game p.words) played.answer) st.variables in
        record {
          held = holds;
          well = st.well;
          limits = played.limits;
          filled = played.filled;
          variables = played.variables ∙ st.variables;
          clauses = played.clauses ∙ st.clauses;
          sound = played.sound;
          state = _;
          reached = on.0;
          shows = subst (Shows C n _) (sym shown) on.1;
        }

step_fits : (most : ℕ) (p p' : Place) (r : Result (Option Verdict) StepFault) → StepGives most p.holds p.game p.words p'.holds p'.game p'.words r
    → (f : Maybe Qbf) (m : ℕ) → Fits f m p → Fits f (steps_after (stepped-so (side_said r)) m) p'
step_fits most p p' (Err fault) h f m fits = fits_same f m p p' h.1 h.2 h.3 fits
step_fits most p p' (Ok None) h none m fits = absurd (false≢true (sym fits ∙ h.0.playing.held))
step_fits most p p' (Ok None) h (some q) m fits = stepped_stands q m p p' fits h.0.playing.undecided h.1 h.2
step_fits most p p' (Ok (Some v)) h none m fits = absurd (false≢true (sym fits ∙ h.0.playing.held))
step_fits most p p' (Ok (Some v)) h (some q) m fits = stepped_stands q m p p' fits h.0.playing.undecided h.1 h.2

-- retire: the table is empty, or as it was
retire_fits : (p p' : Place) (b : Bool) (v : Verdict) → b ≡ taken (retiring p.holds p.game v) → p'.holds ≡ holds_retired p.holds p.game v → p'.game ≡ game_retired p.holds p.game v
    → p'.words ≡ p.words → (f : Maybe Qbf) (m : ℕ) → Fits f m p → Fits (formula_after retire (retired-so b) f) (steps_after (retired-so b) m) p'
retire_fits p p' b v is holds game words f m fits = by (is_verdict_of p.holds p.game v) refl
  where
    by : (z : Bool) → is_verdict_of p.holds p.game v ≡ z → Fits (formula_after retire (retired-so b) f) (steps_after (retired-so b) m) p'
    by true e =
        subst (λ x. Fits (formula_after retire (retired-so x) f) (steps_after (retired-so x) m) p') (sym (is ∙ ap taken (cond-true _ _ _ e)))
        (holds ∙ cond-true (is_verdict_of p.holds p.game v) false p.holds e)
    by false e =
        subst (λ x. Fits (formula_after retire (retired-so x) f) (steps_after (retired-so x) m) p') (sym (is ∙ ap taken (cond-false _ _ _ e)))
        (fits_same f m p p' (holds ∙ cond-false (is_verdict_of p.holds p.game v) false p.holds e) (game ∙ cond-false (is_verdict_of p.holds p.game v) blank_game p.game e) words fits)

happens_fits : (most : ℕ) {act : Act} {p p' : Place} {told : Told} → Happens most act p told p' → (f : Maybe Qbf) (m : ℕ) → Fits f m p → Fits (formula_after act told f) (steps_after told m) p'
happens_fits most (opens {text = text} {number = number} {p = p} {p' = p'} {r = r} so) f m fits = open_fits text number p p' r so f m fits
happens_fits most (steps {p = p} {p' = p'} {said = said} r e h v) f m fits = subst (λ s. Fits f (steps_after (stepped-so s) m) p') (sym e) (step_fits most p p' r h f m fits)
happens_fits most (moves v e h) f m fits = fits
happens_fits most (moves_without e) f m fits = fits
happens_fits most (checks h) f m fits = fits
happens_fits most (retires {p = p} {p' = p'} {b = b} v e is holds game words w) f m fits = retire_fits p p' b v is holds game words f m fits
happens_fits most (retires_without e) f m fits = fits
happens_fits most (asks {told = answered r words} h) f m fits = fits
happens_fits most (asks {told = no_table} h) f m fits = absurd h
happens_fits most (asks {told = no_verdict} h) f m fits = absurd h
happens_fits most (asks {told = opened-so r} h) f m fits = absurd h
happens_fits most (asks {told = stepped-so r} h) f m fits = absurd h
happens_fits most (asks {told = moved r values} h) f m fits = absurd h
happens_fits most (asks {told = checked r} h) f m fits = absurd h
happens_fits most (asks {told = retired-so b} h) f m fits = absurd h

all_held : (places : List Place) → All (λ (p : Place). p.holds ≡ false) places → (j : ℕ) → j < length places → (get_or places j nowhere).holds ≡ false
all_held [] h j b = absurd (omega arith)
all_held (p ∷ places) h zero b = h.0
all_held (p ∷ places) h (suc j) b = all_held places h.1 j (omega arith)

run_fits : {events : List Event} {places : List Place} → Run events places → (j : ℕ) → j < length places → Fits (formula_held events j) (steps_made events j) (get_or places j nowhere)
run_fits (none_held {places = places} h) j b = all_held places h j b
run_fits (call {events = events} {places = places} most table act told after run there happens) j b =
    let here : j < length places = subst (λ k. j < k) (length-set places table after) b in
    ⊎_elim
    (λ e. let t = eq-eqb table j e in
    let now : get_or (set places table after) j nowhere ≡ after = ap (λ k. get_or (set places table after) k nowhere) (sym e) ∙ get_or-set_same places table after nowhere there in
    let before : Fits (formula_held events j) (steps_made events j) (get_or places table nowhere) = subst (λ k. Fits (formula_held events j) (steps_made events j) (get_or places k nowhere)) (sym e) (run_fits run j here) in
    subst (λ p. Fits (cond (eqb table j) (formula_after act told (formula_held events j)) (formula_held events j)) (cond (eqb table j) (steps_after told (steps_made events j)) (steps_made events j)) p) (sym now)
    (subst (λ z. Fits (cond z (formula_after act told (formula_held events j)) (formula_held events j)) (cond z (steps_after told (steps_made events j)) (steps_made events j)) after) (sym t)
    (happens_fits most happens (formula_held events j) (steps_made events j) before)))
    (λ e. let t = ne_eqb table j e in
    let now : get_or (set places table after) j nowhere ≡ get_or places j nowhere = get_or-set_other places table j after nowhere (λ i. e (sym i)) in
    subst (λ p. Fits (cond (eqb table j) (formula_after act told (formula_held events j)) (formula_held events j)) (cond (eqb table j) (steps_after told (steps_made events j)) (steps_made events j)) p) (sym now)
    (subst (λ z. Fits (cond z (formula_after act told (formula_held events j)) (formula_held events j)) (cond z (steps_after told (steps_made events j)) (steps_made events j)) (get_or places j nowhere)) (sym t) (run_fits run j here)))
    (cases_eq table j)
run_fits (call_nowhere {events = events} {places = places} table act run past) j b =
    let t : eqb table j ≡ false = ne_eqb table j (λ e. omega arith) in
    subst (λ z. Fits (cond z (formula_held events j) (formula_held events j)) (cond z (steps_made events j) (steps_made events j)) (get_or places j nowhere)) (sym t) (run_fits run j b)

pub law_of_all_runs : LawOfAllRuns
law_of_all_runs events places run j q there is = standing_law q (steps_made events j) (get_or places j nowhere) (subst (λ f. Fits f (steps_made events j) (get_or places j nowhere)) is (run_fits run j there))
