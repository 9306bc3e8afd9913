-- Every rule of a step, as table and pool show it.
use Rattle.std.proofs.Common.{◌≡◌, ℕ, zero, suc, ◌<◌, ◌≤◌, Bool, true, false, ◌||◌, ltb, leb, List, length, get_or, take, set, ℤ, Some, None, Option, sym, refl, ap, ◌∙◌, subst, ap₂, ⊎_elim, arith}
use mathlib.Core.Path.{fun_ext}
use Rattle.std.proofs.lemmas.List.{get_or-set_same, get_or-set_other, length-set, length-take-le, length-map}
use Rattle.std.proofs.lemmas.Bool.{cond-true, cond-false, cases_lt, cases_eq, lt-ltb, le-ltb, lt-leb, le-leb}
use Rattle.formula.specs.Lists.{each}
use Rattle.formula.specs.Game.{other, Values, hits}
use Rattle.formula.specs.Proper.{Ascending}
use Rattle.formula.specs.declared.side.Side.{Side}
use Rattle.formula.specs.declared.side.Side.TheVariants.{Ours}
use Rattle.strategy.specs.Records.{values_of}
use Rattle.strategy.specs.Steps.{last_entry_set, entry_set}
use Rattle.strategy.specs.Next.{no_level_winner}
use Rattle.strategy.specs.Next.{Answer as Said, satisfied, refused}
use Rattle.strategy.specs.View.{LevelView, GameView, at, keeping, beginning, entering, learning, no_level, still_playing, won_by, yes_below, yes_last, no_at, answered}
use Rattle.strategy.specs.View.{stepped as stepped_view}
use Rattle.layout.specs.declared.game.Level.{Level}
use Rattle.layout.specs.declared.game.Game.{Game}
use Rattle.layout.specs.Table.{nought, level_of}
use Rattle.layout.specs.Viewed.{values_in, view_level, maybe, view_of, clauses_of}
use Rattle.layout.specs.Shown.{variables_at}
use Rattle.rules.specs.Changes.{held, values_to, satisfied_to, flags_for, satisfied_after, kept, decided_for, finished, given_back, changed, stepped, Marked}
use Rattle.rules.specs.Spare.{Spare, OfLevel}
use Rattle.rules.proofs.Chosen.{values_kept}
use Rattle.rules.proofs.Rearranged.{Alike, sound_rearranged}
use Rattle.rules.proofs.Growing.{each_set, each_at}
use Rattle.rules.proofs.Stepping.{Follows, level_views, noted_first, noted_next, last_ascending, entry_ascending}

module _ (g : Game) (pool : List ℤ) (spare : Spare g pool) (long : g.depth ≤ length g.levels) (undecided : g.verdict ≡ None) where
  pub view_at : (m : ℕ) → m < g.depth → at (level_views g pool) m ≡ view_level g.variables pool (level_of g m)
  view_at m h = each_at (view_level g.variables pool) g.levels g.depth m nought no_level h (omega arith)

  as_shown : view_of g pool ≡ still_playing g.present (level_views g pool)
  as_shown = ap (λ (o : Option Side). record { present = g.present; levels = level_views g pool; verdict = maybe o }) undecided

  alike : (m : ℕ) → Alike (level_of g m) (level_of g m)
  alike m = record { side = refl; variables = refl; chain = refl; entries = refl }

  decided_follows : (w : Side) → Follows g pool (decided_for w (held g pool)) (won_by w g.present (level_views g pool))
  decided_follows w =
      record { shows = refl; limits = spare.limits; filled = spare.filled; sound = sound_rearranged g g.levels g.present (Some w) alike pool spare.sound; clauses = refl; variables = refl }

  -- yes below the last level
  module _ (α : ℕ → Bool) (below_last : suc g.present < g.depth) (marked : Marked g pool (satisfied (values_of α (variables_at g g.present)))) where
    abbrev m : ℕ
    m = g.present

    abbrev x : Values
    x = values_of α (variables_at g m)

    abbrev level₁ : Level
    level₁ = values_to (flags_for x) (level_of g m)

    abbrev level₂ : Level
    level₂ = satisfied_to (satisfied_after (clauses_of g pool) x (level_of g m)) (level_of g (suc m))

    level_alike : (i : ℕ) → Alike (get_or (set (set g.levels m level₁) (suc m) level₂) i nought) (level_of g i)
    level_alike i =
        ⊎_elim
        (λ e. subst (λ j. Alike (get_or (set (set g.levels m level₁) (suc m) level₂) j nought) (level_of g j)) (sym e)
        (subst (λ l. Alike l (level_of g (suc m))) (sym (get_or-set_same (set g.levels m level₁) (suc m) level₂ nought (subst (λ k. suc m < k) (sym (length-set g.levels m level₁)) (omega arith))))
        (record { side = refl; variables = refl; chain = refl; entries = refl })))
        (λ e. subst (λ l. Alike l (level_of g i)) (sym (get_or-set_other (set g.levels m level₁) (suc m) i level₂ nought e))
        (⊎_elim
        (λ d. subst (λ j. Alike (get_or (set g.levels m level₁) j nought) (level_of g j)) (sym d)
        (subst (λ l. Alike l (level_of g m)) (sym (get_or-set_same g.levels m level₁ nought (omega arith))) (record { side = refl; variables = refl; chain = refl; entries = refl })))
        (λ d. subst (λ l. Alike l (level_of g i)) (sym (get_or-set_other g.levels m i level₁ nought d)) (alike i))
        (cases_eq i m)))
        (cases_eq i (suc m))

    level_keeps : view_level g.variables pool level₁ ≡ keeping x (at (level_views g pool) m)
    level_keeps =
        let v = view_level g.variables pool (level_of g m) in
        ap (λ y. keeping y v) (values_kept α g.variables (level_of g m) spare.limits.0) ∙ ap (keeping x) (sym (view_at m (omega arith)))

    level_begins : view_level g.variables pool level₂ ≡ beginning (λ i. hits (clauses_of g pool) x i || (at (level_views g pool) m).before i) (at (level_views g pool) (suc m))
    level_begins =
        ap (λ (b : ℕ → Bool). beginning b (view_level g.variables pool (level_of g (suc m)))) (fun_ext (marked below_last))
        ∙ ap₂ {C = LevelView} (λ (u v : LevelView). beginning (λ i. hits (clauses_of g pool) x i || u.before i) v) (sym (view_at m (omega arith))) (sym (view_at (suc m) below_last))

    kept_follows : Follows g pool (kept g pool x) (yes_below (clauses_of g pool) (level_views g pool) m x)
    kept_follows =
        let L = level_views g pool in
        let view = view_level g.variables pool in
        let l = spare.limits in
        record {
          shows = ap₂ {C = GameView} (λ (o : Option Side) (V : List LevelView). record { present = suc m; levels = V; verdict = maybe o }) undecided
              (each_set view (set g.levels m level₁) g.depth (suc m) level₂ ∙ ap₂ {C = List LevelView} (λ (V : List LevelView) (v : LevelView). set V (suc m) v)
              (each_set view g.levels g.depth m level₁ ∙ ap (set L m) level_keeps) level_begins);
          limits = (l.0, l.1, l.2, omega arith);
          filled = (spare.filled.0, spare.filled.1, length-set (set g.levels m level₁) (suc m) level₂ ∙ length-set g.levels m level₁ ∙ spare.filled.2);
          sound = sound_rearranged g (set (set g.levels m level₁) (suc m) level₂) (suc m) g.verdict level_alike pool spare.sound;
          clauses = refl;
          variables = refl;
        }

  -- yes at the last level
  finished_follows : (m : ℕ) → g.present ≡ m → m < g.depth → (α : ℕ → Bool)
      → Follows g pool (finished g pool m (values_of α (variables_at g m))) (yes_last (clauses_of g pool) g.variables (level_views g pool) m (values_of α (variables_at g m)))
  finished_follows zero is here α =
      let x = values_of α (variables_at g 0) in
      let C = clauses_of g pool in
      let L = level_views g pool in
      subst (Follows g pool (finished g pool zero x))
      (ap₂ {C = GameView} (λ (p : ℕ) (v : LevelView). won_by Ours p (set L 0 (entering (last_entry_set C v.before x) x (at L 0)))) is (sym (view_at 0 here)))
      (noted_first g pool spare long undecided Ours here (last_entry_set C (λ i. get_or (level_of g 0).satisfied i false) x) α (last_ascending g pool spare (λ i. get_or (level_of g 0).satisfied i false) x))
  finished_follows (suc i) is here α =
      let x = values_of α (variables_at g (suc i)) in
      let C = clauses_of g pool in
      let L = level_views g pool in
      subst (Follows g pool (finished g pool (suc i) x))
      (ap (λ (v : LevelView). still_playing i (set (set L (suc i) (entering (last_entry_set C v.before x) x (at L (suc i)))) i (learning C g.variables (last_entry_set C v.before x) (at L i)))) (sym (view_at (suc i) here)))
      (noted_next g pool spare long undecided Ours i here (last_entry_set C (λ j. get_or (level_of g (suc i)).satisfied j false) x) α (last_ascending g pool spare (λ j. get_or (level_of g (suc i)).satisfied j false) x))

  -- no
  given_back_follows : (m : ℕ) → g.present ≡ m → m < g.depth → (A : List ℕ) → Ascending 0 g.clauses (each (λ i. suc i) A)
      → Follows g pool (given_back g pool m A) (no_at (clauses_of g pool) g.variables (level_views g pool) m A)
  given_back_follows zero is here A a =
      let L = level_views g pool in
      let w = other (level_of g zero).side in
      subst (Follows g pool (decided_for w (held g pool))) (ap₂ {C = GameView} (λ (p : ℕ) (v : LevelView). won_by (other v.side) p L) is (sym (view_at 0 here))) (decided_follows w)
  given_back_follows (suc zero) is here A a =
      let L = level_views g pool in
      let C = clauses_of g pool in
      let σ = (level_of g 1).side in
      let x = values_in g.variables (level_of g 0) in
      let first : 0 < g.depth = omega arith in
      subst (Follows g pool (given_back g pool 1 A))
      (ap (λ p. won_by (other σ) p (set L 0 (entering (entry_set C σ A x) x (at L 0)))) is
      ∙ ap₂ {C = GameView} (λ (u v : LevelView). won_by (other u.side) 1 (set L 0 (entering (entry_set C u.side A v.kept) v.kept (at L 0)))) (sym (view_at 1 here)) (sym (view_at 0 first)))
      (noted_first g pool spare long undecided (other σ) first (entry_set C σ A x) (λ v. get_or (level_of g 0).values v false) (entry_ascending C σ A x g.clauses a))
  given_back_follows (suc (suc i)) is here A a =
      let L = level_views g pool in
      let C = clauses_of g pool in
      let σ = (level_of g (suc (suc i))).side in
      let x = values_in g.variables (level_of g (suc i)) in
      let before : suc i < g.depth = omega arith in
      subst (Follows g pool (given_back g pool (suc (suc i)) A))
      (ap₂ {C = GameView}
      (λ (u v : LevelView). still_playing i (set (set L (suc i) (entering (entry_set C u.side A v.kept) v.kept (at L (suc i)))) i (learning C g.variables (entry_set C u.side A v.kept) (at L i))))
      (sym (view_at (suc (suc i)) here)) (sym (view_at (suc i) before)))
      (noted_next g pool spare long undecided (other σ) i before (entry_set C σ A x) (λ v. get_or (level_of g (suc i)).values v false) (entry_ascending C σ A x g.clauses a))

  count : length (level_views g pool) ≡ g.depth
  count = length-map (take g.depth g.levels) (view_level g.variables pool) ∙ length-take-le g.depth g.levels long

  changed_follows : (a : Said) → g.present < g.depth → OfLevel g a → Marked g pool a → Follows g pool (changed g pool a) (answered (clauses_of g pool) g.variables (level_views g pool) g.present a)
  changed_follows (refused A) here of marked = given_back_follows g.present refl here A of
  changed_follows (satisfied y) here of marked =
      let C = clauses_of g pool in
      let L = level_views g pool in
      let m = g.present in
      let both : (z : Values) → y ≡ z → Follows g pool (kept g pool z) (yes_below C L m z) → Follows g pool (kept g pool y) (yes_below C L m y) = λ z e f. subst (λ (v : Values). Follows g pool (kept g pool v) (yes_below C L m v)) (sym e) f in
      let ends : (z : Values) → y ≡ z → Follows g pool (finished g pool m z) (yes_last C g.variables L m z) → Follows g pool (finished g pool m y) (yes_last C g.variables L m y) = λ z e f. subst (λ (v : Values). Follows g pool (finished g pool m v) (yes_last C g.variables L m v)) (sym e) f in
      let z = values_of of.0 (variables_at g m) in
      ⊎_elim
      (λ h. let t = lt-ltb (suc m) g.depth h in
      let t' : ltb (suc m) (length L) ≡ true = ap (ltb (suc m)) count ∙ t in
      subst (λ s. Follows g pool s (answered C g.variables L m (satisfied y))) (sym (cond-true _ _ _ t))
      (subst (Follows g pool (kept g pool y)) (sym (cond-true _ _ _ t')) (both z of.1 (kept_follows of.0 h (subst (λ (v : Values). Marked g pool (satisfied v)) of.1 marked)))))
      (λ h. let t = le-ltb (suc m) g.depth h in
      let t' : ltb (suc m) (length L) ≡ false = ap (ltb (suc m)) count ∙ t in
      subst (λ s. Follows g pool s (answered C g.variables L m (satisfied y))) (sym (cond-false _ _ _ t))
      (subst (Follows g pool (finished g pool m y)) (sym (cond-false _ _ _ t')) (ends z of.1 (finished_follows m refl here of.0))))
      (cases_lt (suc m) g.depth)

  -- with a level: what an answer changes; with none, the verdict comes unasked
  pub answer_follows : (a : Said) → g.present < g.depth → OfLevel g a → Marked g pool a → Follows g pool (stepped g pool a) (stepped_view (clauses_of g pool) g.variables (view_of g pool) a)
  answer_follows a here of marked =
      let C = clauses_of g pool in
      let L = level_views g pool in
      let no : leb g.depth g.present ≡ false = lt-leb g.depth g.present here in
      let no' : leb (length L) g.present ≡ false = ap (λ d. leb d g.present) count ∙ no in
      subst (λ s. Follows g pool s (stepped_view C g.variables (view_of g pool) a)) (sym (cond-false _ _ _ no))
      (subst (Follows g pool (changed g pool a)) (sym (ap (λ v. stepped_view C g.variables v a) as_shown ∙ cond-false _ _ _ no')) (changed_follows a here of marked))

  pub unasked_follows : (a : Said) → g.depth ≤ g.present → Follows g pool (stepped g pool a) (stepped_view (clauses_of g pool) g.variables (view_of g pool) a)
  unasked_follows a none =
      let C = clauses_of g pool in
      let L = level_views g pool in
      let all : leb g.depth g.present ≡ true = le-leb g.depth g.present none in
      let all' : leb (length L) g.present ≡ true = ap (λ d. leb d g.present) count ∙ all in
      subst (λ s. Follows g pool s (stepped_view C g.variables (view_of g pool) a)) (sym (cond-true _ _ _ all))
      (subst (Follows g pool (decided_for (no_level_winner C) (held g pool))) (sym (ap (λ v. stepped_view C g.variables v a) as_shown ∙ cond-true _ _ _ all')) (decided_follows (no_level_winner C)))
