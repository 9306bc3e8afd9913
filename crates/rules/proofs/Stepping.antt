-- A step as table and pool show it: the rules word for word are the rules of the theory, and the pool stays sound.
use Rattle.std.proofs.Common.{◌≡◌, ℕ, zero, suc, ◌+◌, ◌-◌, ◌<◌, ◌≤◌, Bool, false, not, ◌&&◌, List, [], ◌∷◌, length, get_or, take, set, ℤ, Some, None, Option, sym, refl, ap, ◌∙◌, subst, ap₂, arith}
use Rattle.std.proofs.lemmas.List.{get_or-set_other, length-set, length-map}
use Rattle.std.proofs.lemmas.Bool.{cond_both}
use Rattle.formula.specs.Lists.{keep, All, each, from, below}
use Rattle.formula.specs.Game.{Clauses, Values, hits}
use Rattle.formula.specs.Backward.{turned}
use Rattle.formula.specs.Proper.{Ascending}
use Rattle.formula.specs.declared.side.Side.{Side}
use Rattle.formula.specs.declared.side.Side.TheVariants.{Ours, Device}
use Rattle.pool.specs.Append.{Room}
use Rattle.strategy.specs.Records.{values_of, entry_record, learned_record}
use Rattle.strategy.specs.Steps.{last_entry_set, entry_set}
use Rattle.strategy.specs.View.{LevelView, GameView, at, entering, learning, no_level, still_playing, won_by}
use Rattle.layout.specs.declared.game.Game.{Game}
use Rattle.layout.specs.Table.{Limits, Filled, level_of}
use Rattle.layout.specs.Viewed.{view_level, maybe, view_of, clauses_of}
use Rattle.layout.specs.Shown.{variables_at}
use Rattle.soundness.specs.Soundness.{SoundPool}
use Rattle.rules.specs.Changes.{Held, entered, learned, noted}
use Rattle.rules.specs.Spare.{Spare, SetOf, bound_by}
use Rattle.rules.proofs.Lengths.{length_entry, length_learned}
use Rattle.rules.proofs.Noted.{length_clauses, entry_room, entered_room}
use Rattle.rules.proofs.SetsOf.{all_at, level_few}
use Rattle.rules.proofs.Rearranged.{Alike, sound_rearranged}
use Rattle.rules.proofs.Growing.{clauses_same}
use Rattle.rules.proofs.Entering.{entry_named, learned_named, entry_sound, entry_views, learned_sound, learned_views}

-- sets in ascending order
ascending_few : (low k : ℕ) (A : List ℕ) → low ≤ k → Ascending low k (each (λ i. suc i) A) → length A + low ≤ k
ascending_few low k [] h a = omega arith
ascending_few low k (i ∷ A) h a = let rest = ascending_few (suc i) k A a.1 a.2 in let l = a.0 in omega arith

ascending_small : (low k : ℕ) (A : List ℕ) → Ascending low k (each (λ i. suc i) A) → All (λ i. i < k) A
ascending_small low k [] a = tt
ascending_small low k (i ∷ A) a = (a.1, ascending_small (suc i) k A a.2)

pub ascending_lower : (low low' k : ℕ) (A : List ℕ) → low' ≤ low → Ascending low k (each (λ i. suc i) A) → Ascending low' k (each (λ i. suc i) A)
ascending_lower low low' k [] h a = tt
ascending_lower low low' k (i ∷ A) h a = let l = a.0 in (omega arith, a.1, a.2)

pub ascending_keep : (p : ℕ → Bool) (low k : ℕ) (A : List ℕ) → Ascending low k (each (λ i. suc i) A) → Ascending low k (each (λ i. suc i) (keep p A))
ascending_keep p low k [] a = tt
ascending_keep p low k (i ∷ A) a =
    let l = a.0 in
    let rest = ascending_keep p (suc i) k A a.2 in
    cond_both (p i) (i ∷ keep p A) (keep p A) (λ r. Ascending low k (each (λ j. suc j) r)) (λ t. (a.0, a.1, rest)) (λ f. ascending_lower (suc i) low k (keep p A) (omega arith) rest)

pub ascending_from : (i n k : ℕ) → i + n ≤ k → Ascending i k (each (λ j. suc j) (from i n))
ascending_from i zero k h = tt
ascending_from i (suc n) k h = (omega arith, omega arith, ascending_from (suc i) n k (omega arith))

pub ascending_set : (g : Game) (A : List ℕ) → Ascending 0 g.clauses (each (λ i. suc i) A) → SetOf g A
ascending_set g A a = let h = ascending_few 0 g.clauses A (omega arith) a in record { few = omega arith; clauses = all_at g.clauses A (ascending_small 0 g.clauses A a) }

pub last_ascending : (g : Game) (pool : List ℤ) → Spare g pool → (before : ℕ → Bool) (x : Values) → Ascending 0 g.clauses (each (λ i. suc i) (last_entry_set (clauses_of g pool) before x))
last_ascending g pool spare before x =
    let C = clauses_of g pool in
    let count = length_clauses g pool spare.sound.formula in
    ascending_keep (λ i. before i && not (hits C x i)) 0 g.clauses (below (length C)) (ascending_from 0 (length C) g.clauses (omega arith))

pub entry_ascending : (C : Clauses) (σ : Side) (A : List ℕ) (x : Values) (k : ℕ) → Ascending 0 k (each (λ i. suc i) A) → Ascending 0 k (each (λ i. suc i) (entry_set C σ A x))
entry_ascending C Ours A x k a = a
entry_ascending C Device A x k a = ascending_keep (λ i. not (hits C x i)) 0 k A a

-- What is to be shown: the view is that of the theory's rule, and table, pool and clauses stay in order.
pub record Follows (g : Game) (pool : List ℤ) (s : Held) (view : GameView) : Type 0 where
  pub shows : view_of s.game s.words ≡ view
  pub limits : Limits s.game
  pub filled : Filled s.game
  pub sound : SoundPool s.game s.words
  pub clauses : clauses_of s.game s.words ≡ clauses_of g pool
  pub variables : s.game.variables ≡ g.variables

abbrev pub level_views : Game → List ℤ → List LevelView
level_views g pool = each (view_level g.variables pool) (take g.depth g.levels)

module _ (g : Game) (pool : List ℤ) (spare : Spare g pool) (long : g.depth ≤ length g.levels) (undecided : g.verdict ≡ None) where
  count : length (clauses_of g pool) ≡ g.clauses
  count = length_clauses g pool spare.sound.formula

  -- an entry, and what is learned from it
  module _ (w : Side) (j : ℕ) (here : j < g.depth) (A : List ℕ) (α : ℕ → Bool) (ascending : Ascending 0 g.clauses (each (λ i. suc i) A)) where
    abbrev x : Values
    x = values_of α (variables_at g j)

    abbrev entry_numbers : List ℤ
    entry_numbers = entry_record g.variables (level_of g j).side (record { set = A; values = x })

    small : All (λ i. i < g.clauses) A
    small = ascending_small 0 g.clauses A ascending

    few : length x ≤ bound_by g
    few = subst (λ m. m ≤ bound_by g) (sym (length-map (variables_at g j) _)) (level_few g j here)

    room : Room (length pool) g.used (level_of g j).entries (length entry_numbers)
    room = subst (Room (length pool) g.used (level_of g j).entries) (sym (length_entry g.variables (level_of g j).side A x)) (entry_room g pool j A x spare here (ascending_set g A ascending) few)

    sound₁ : SoundPool (entered g pool j A x).game (entered g pool j A x).words
    sound₁ = entry_sound g pool spare.sound long j here A α ascending (entry_named g A small (level_of g j).side α (λ v. get_or (level_of g j).variables v false)) room

    views₁ : level_views (entered g pool j A x).game (entered g pool j A x).words ≡ set (level_views g pool) j (entering A x (at (level_views g pool) j))
    views₁ = entry_views g pool spare.sound long j here A α ascending (entry_named g A small (level_of g j).side α (λ v. get_or (level_of g j).variables v false)) room

    clauses₁ : clauses_of (entered g pool j A x).game (entered g pool j A x).words ≡ clauses_of g pool
    clauses₁ = ap turned (clauses_same g pool spare.sound long j here (level_of g j).entries entry_numbers room)

    filled₁ : Filled (entered g pool j A x).game
    filled₁ = (omega arith, spare.filled.1, length-set g.levels j _ ∙ spare.filled.2)

  alike : (s : Game) (m : ℕ) → Alike (level_of s m) (level_of s m)
  alike s m = record { side = refl; variables = refl; chain = refl; entries = refl }

  pub noted_first : (w : Side) (here : 0 < g.depth) (A : List ℕ) (α : ℕ → Bool) → Ascending 0 g.clauses (each (λ i. suc i) A)
      → Follows g pool (noted g pool w 0 A (values_of α (variables_at g 0)))
      (won_by w g.present (set (level_views g pool) 0 (entering A (values_of α (variables_at g 0)) (at (level_views g pool) 0))))
  noted_first w here A α a =
      let s = entered g pool 0 A (values_of α (variables_at g 0)) in
      record {
        shows = ap (won_by w g.present) (views₁ w 0 here A α a);
        limits = spare.limits;
        filled = filled₁ w 0 here A α a;
        sound = sound_rearranged s.game s.game.levels g.present (Some w) (alike s.game) s.words (sound₁ w 0 here A α a);
        clauses = clauses₁ w 0 here A α a;
        variables = refl;
      }

  pub noted_next : (w : Side) (i : ℕ) (here : suc i < g.depth) (A : List ℕ) (α : ℕ → Bool) → Ascending 0 g.clauses (each (λ i. suc i) A)
      → Follows g pool (noted g pool w (suc i) A (values_of α (variables_at g (suc i))))
      (still_playing i (set (set (level_views g pool) (suc i) (entering A (values_of α (variables_at g (suc i))) (at (level_views g pool) (suc i)))) i
      (learning (clauses_of g pool) g.variables A (at (level_views g pool) i))))
  noted_next w i here A α a =
      let x = values_of α (variables_at g (suc i)) in
      let C = clauses_of g pool in
      let s = entered g pool (suc i) A x in
      let t = learned C s i A in
      let first = sound₁ w (suc i) here A α a in
      let small = ascending_small 0 g.clauses A a in
      let few : length x ≤ bound_by g = subst (λ m. m ≤ bound_by g) (sym (length-map (variables_at g (suc i)) _)) (level_few g (suc i) here) in
      let before : i < s.game.depth = omega arith in
      let long' : s.game.depth ≤ length s.game.levels = subst (λ m. g.depth ≤ m) (sym (length-set g.levels (suc i) _)) long in
      let named = learned_named g A small C (level_of s.game i).side count in
      let back : suc i - 1 ≡ i = omega arith in
      let size : length s.words ≡ length pool = first.size ∙ sym spare.sound.size in
      let room : Room (length s.words) s.game.used (level_of s.game i).chain (length (learned_record C g.variables (level_of s.game i).side A)) =
      subst (Room (length s.words) s.game.used (level_of s.game i).chain) (sym (length_learned C g.variables (level_of s.game i).side A))
      (subst (λ m. Room m s.game.used (level_of s.game i).chain (length A)) (sym size)
      (subst (λ m. Room (length pool) s.game.used (level_of s.game m).chain (length A)) back (entered_room g pool (suc i) A x spare here (ascending_set g A a) few (λ e. omega arith)))) in
      let L = level_views g pool in
      let E = entering A x (at L (suc i)) in
      let views : level_views t.game t.words ≡ set (set L (suc i) E) i (learning C g.variables A (at L i)) =
      learned_views s.game s.words first long' i before A C named room
      ∙ ap (λ V. set V i (learning C g.variables A (at V i))) (views₁ w (suc i) here A α a)
      ∙ ap (λ v. set (set L (suc i) E) i (learning C g.variables A v)) (get_or-set_other L (suc i) i E no_level (λ e. omega arith)) in
      let l = spare.limits in
      let deep = l.2 in
      record {
        shows = ap₂ {C = GameView} (λ (o : Option Side) (V : List LevelView). record { present = i; levels = V; verdict = maybe o }) undecided views;
        limits = (l.0, l.1, l.2, omega arith);
        filled = (omega arith, spare.filled.1, length-set s.game.levels i _ ∙ length-set g.levels (suc i) _ ∙ spare.filled.2);
        sound = sound_rearranged t.game t.game.levels i g.verdict (alike t.game) t.words (learned_sound s.game s.words first long' i before A C named room);
        clauses = ap turned (clauses_same s.game s.words first long' i before (level_of s.game i).chain (learned_record C g.variables (level_of s.game i).side A) room) ∙ clauses₁ w (suc i) here A α a;
        variables = refl;
      }
