-- A record more in front of one chain of a level: the pool stays sound, and all else that table and pool show stays.
use Rattle.std.proofs.Common.{◌≡◌, ℕ, zero, suc, ◌+◌, ◌<◌, ◌≤◌, false, ◌≢◌, List, [], ◌∷◌, length, get_or, take, set, ℤ, nat_abs, sym, refl, ap, ◌∙◌, subst, ap₂, ⊎_elim, arith}
use Rattle.std.proofs.lemmas.List.{get_or-set_same, get_or-set_other}
use Rattle.std.proofs.lemmas.Bool.{cases_eq}
use Rattle.formula.specs.Lists.{keep, All, each, from}
use Rattle.formula.specs.Proper.{literals_of, Bound}
use Rattle.formula.proofs.Maps.{each_same_from}
use Rattle.pool.specs.Layout.{size_for, place_after}
use Rattle.pool.specs.Records.{records, Sound}
use Rattle.pool.specs.Append.{Room, written}
use Rattle.pool.proofs.Written.{length_written, other_sound, other_records}
use Rattle.strategy.specs.Records.{entry_of}
use Rattle.strategy.specs.View.{LevelView}
use Rattle.layout.specs.declared.game.Level.{Level}
use Rattle.layout.specs.declared.game.Game.{Game}
use Rattle.layout.specs.Table.{nought, level_of}
use Rattle.layout.specs.Viewed.{variables_in, values_in, view_level, signals_of}
use Rattle.layout.specs.Shown.{variables_at, levels_of}
use Rattle.soundness.specs.Soundness.{EntryForm, SoundFormula, SoundLevel, SoundPool}
use Rattle.rules.specs.Noting.{with_level}

-- lists of which one element is changed, and what a function makes of the first of them
module _ {A B : Type 0} (f : A → B) where
  pub each_set : (ls : List A) (d j : ℕ) (a : A) → each f (take d (set ls j a)) ≡ set (each f (take d ls)) j (f a)
  each_set [] zero j a = refl
  each_set [] (suc d) j a = refl
  each_set (x ∷ ls) zero j a = refl
  each_set (x ∷ ls) (suc d) zero a = refl
  each_set (x ∷ ls) (suc d) (suc j) a = ap (λ r. f x ∷ r) (each_set ls d j a)

  pub each_at : (ls : List A) (d m : ℕ) (a : A) (b : B) → m < d → m < length ls → get_or (each f (take d ls)) m b ≡ f (get_or ls m a)
  each_at [] d m a b h k = absurd (omega arith)
  each_at (x ∷ ls) zero m a b h k = absurd (omega arith)
  each_at (x ∷ ls) (suc d) zero a b h k = refl
  each_at (x ∷ ls) (suc d) (suc m) a b h k = each_at ls d m a b (omega arith) (omega arith)

  pub each_alike : (f' : A → B) (ls : List A) (d : ℕ) (a : A) → ((m : ℕ) → m < d → f (get_or ls m a) ≡ f' (get_or ls m a)) → each f (take d ls) ≡ each f' (take d ls)
  each_alike f' [] zero a h = refl
  each_alike f' [] (suc d) a h = refl
  each_alike f' (x ∷ ls) zero a h = refl
  each_alike f' (x ∷ ls) (suc d) a h = ap₂ {C = List B} (λ (y : B) r. y ∷ r) (h 0 (omega arith)) (each_alike f' ls d a (λ m k. h (suc m) (omega arith)))

-- the view of a level shows the records of its two chains
pub same_view : (n : ℕ) (pool pool' : List ℤ) (l : Level) → records pool' l.chain ≡ records pool l.chain → records pool' l.entries ≡ records pool l.entries → view_level n pool' l ≡ view_level n pool l
same_view n pool pool' l c e =
    ap₂ {C = LevelView}
    (λ (cs es : List (List ℤ)). record { side = l.side; variables = variables_in n l; chain = cs; entries = each (entry_of n) es; before = λ i. get_or l.satisfied i false; kept = values_in n l }) c e

-- the pool with the record xs in front of the chain at h, and the game with the level l at j that heads it
abbrev pub grown_pool : Game → List ℤ → ℕ → List ℤ → List ℤ
grown_pool g pool h xs = written pool g.used h xs

abbrev pub grown_used : Game → List ℤ → ℕ
grown_used g xs = place_after g.used + size_for (length xs)

abbrev pub grown_game : Game → ℕ → Level → List ℤ → Game
grown_game g j l xs = with_level g j l (grown_used g xs)

-- what is to be shown of the level that has the record
pub record NewLevel (g : Game) (pool : List ℤ) (j : ℕ) (h : ℕ) (xs : List ℤ) (l : Level) : Type 0 where
  pub chain : Sound (signals_of g) (grown_pool g pool h xs) (grown_used g xs) l.chain
  pub entries : Sound (signals_of g) (grown_pool g pool h xs) (grown_used g xs) l.entries
  pub forms : All (EntryForm g.variables g.clauses (level_of g j).side (variables_at g j)) (records (grown_pool g pool h xs) l.entries)

module _ (g : Game) (pool : List ℤ) (sound : SoundPool g pool) (long : g.depth ≤ length g.levels) (j : ℕ) (here : j < g.depth) (h : ℕ) (xs : List ℤ)
    (room : Room (length pool) g.used h (length xs)) where
  -- every sound chain stays
  pub chain_sound : (o : ℕ) → Sound (signals_of g) pool g.used o → Sound (signals_of g) (grown_pool g pool h xs) (grown_used g xs) o
  chain_sound o s = other_sound (signals_of g) pool g.used h xs room o s

  pub chain_same : (o : ℕ) → Sound (signals_of g) pool g.used o → records (grown_pool g pool h xs) o ≡ records pool o
  chain_same o s = other_records (signals_of g) pool g.used h xs room o s

  pub clauses_same : records (grown_pool g pool h xs) g.formula ≡ records pool g.formula
  clauses_same = chain_same g.formula sound.formula.chain

  level_view : (m : ℕ) → m < g.depth → view_level g.variables (grown_pool g pool h xs) (level_of g m) ≡ view_level g.variables pool (level_of g m)
  level_view m k = same_view g.variables pool (grown_pool g pool h xs) (level_of g m) (chain_same _ (sound.levels m k).chain) (chain_same _ (sound.levels m k).entries.chain)

  -- what the levels show
  pub views_grown : (l : Level) → each (view_level g.variables (grown_pool g pool h xs)) (take g.depth (grown_game g j l xs).levels)
      ≡ set (each (view_level g.variables pool) (take g.depth g.levels)) j (view_level g.variables (grown_pool g pool h xs) l)
  views_grown l =
      each_set (view_level g.variables (grown_pool g pool h xs)) g.levels g.depth j l
      ∙ ap (λ vs. set vs j (view_level g.variables (grown_pool g pool h xs) l)) (each_alike (view_level g.variables (grown_pool g pool h xs)) (view_level g.variables pool) g.levels g.depth nought level_view)

  module _ (l : Level) (side : l.side ≡ (level_of g j).side) (variables : l.variables ≡ (level_of g j).variables) where
    level_here : level_of (grown_game g j l xs) j ≡ l
    level_here = get_or-set_same g.levels j l nought (omega arith)

    level_other : (m : ℕ) → m ≢ j → level_of (grown_game g j l xs) m ≡ level_of g m
    level_other m k = get_or-set_other g.levels j m l nought k

    same_side_lem : (m : ℕ) → (level_of (grown_game g j l xs) m).side ≡ (level_of g m).side
    same_side_lem m = ⊎_elim (λ e. ap (λ k. (level_of (grown_game g j l xs) k).side) e ∙ ap (λ (v : Level). v.side) level_here ∙ side ∙ ap (λ k. (level_of g k).side) (sym e)) (λ k. ap (λ (v : Level). v.side) (level_other m k)) (cases_eq m j)

    same_flags : (m : ℕ) → (level_of (grown_game g j l xs) m).variables ≡ (level_of g m).variables
    same_flags m = ⊎_elim (λ e. ap (λ k. (level_of (grown_game g j l xs) k).variables) e ∙ ap (λ (v : Level). v.variables) level_here ∙ variables ∙ ap (λ k. (level_of g k).variables) (sym e)) (λ k. ap (λ (v : Level). v.variables) (level_other m k)) (cases_eq m j)

    same_variables : (m : ℕ) → variables_at (grown_game g j l xs) m ≡ variables_at g m
    same_variables m = ap (λ flags. keep (λ v. get_or flags v false) (from 1 g.variables)) (same_flags m)

    same_levels : levels_of (grown_game g j l xs) ≡ levels_of g
    same_levels = each_same_from (variables_at (grown_game g j l xs)) (variables_at g) 0 g.depth (λ m k. same_variables m)

    formula_grown : SoundFormula (grown_game g j l xs) (grown_pool g pool h xs)
    formula_grown =
        let f = sound.formula in
        record {
          chain = chain_sound g.formula f.chain;
          count = ap (λ (c : List (List ℤ)). length c) clauses_same ∙ f.count;
          few = subst (λ c. literals_of c ≤ 4096) (sym clauses_same) f.few;
          bound = subst (λ ls. All (λ c. All (λ v. Bound ls (nat_abs v)) c) (records (grown_pool g pool h xs) g.formula)) (sym same_levels)
              (subst (λ cs. All (λ c. All (λ v. Bound (levels_of g) (nat_abs v)) c) cs) (sym clauses_same) f.bound);
        }

    forms_at : (m : ℕ) (rs : List (List ℤ)) → All (EntryForm g.variables g.clauses (level_of g m).side (variables_at g m)) rs
        → All (EntryForm g.variables g.clauses (level_of (grown_game g j l xs) m).side (variables_at (grown_game g j l xs) m)) rs
    forms_at m rs f =
        subst (λ σ. All (EntryForm g.variables g.clauses σ (variables_at (grown_game g j l xs) m)) rs) (sym (same_side_lem m))
        (subst (λ vs. All (EntryForm g.variables g.clauses (level_of g m).side vs) rs) (sym (same_variables m)) f)

    level_grown : NewLevel g pool j h xs l → (m : ℕ) → m < g.depth → SoundLevel (grown_game g j l xs) (grown_pool g pool h xs) m
    level_grown new m k =
        let sound-at : ℕ → Type 0 = Sound (signals_of g) (grown_pool g pool h xs) (grown_used g xs) in
        ⊎_elim
        (λ e. let is : level_of (grown_game g j l xs) m ≡ l = ap (level_of (grown_game g j l xs)) e ∙ level_here in
        record {
          chain = subst (λ (v : Level). sound-at v.chain) (sym is) new.chain;
          entries = record {
            chain = subst (λ (v : Level). sound-at v.entries) (sym is) new.entries;
            forms = forms_at m _ (subst (λ i. All (EntryForm g.variables g.clauses (level_of g i).side (variables_at g i)) (records (grown_pool g pool h xs) (level_of (grown_game g j l xs) m).entries)) (sym e)
                (subst (λ (v : Level). All (EntryForm g.variables g.clauses (level_of g j).side (variables_at g j)) (records (grown_pool g pool h xs) v.entries)) (sym is) new.forms));
          };
        })
        (λ e. let is = level_other m e in
        let old = sound.levels m k in
        record {
          chain = subst (λ (v : Level). sound-at v.chain) (sym is) (chain_sound _ old.chain);
          entries = record {
            chain = subst (λ (v : Level). sound-at v.entries) (sym is) (chain_sound _ old.entries.chain);
            forms = forms_at m _ (subst (λ (v : Level). All (EntryForm g.variables g.clauses (level_of g m).side (variables_at g m)) (records (grown_pool g pool h xs) v.entries)) (sym is)
                (subst (All (EntryForm g.variables g.clauses (level_of g m).side (variables_at g m))) (sym (chain_same _ old.entries.chain)) old.entries.forms));
          };
        })
        (cases_eq m j)

    pub pool_grown : NewLevel g pool j h xs l → SoundPool (grown_game g j l xs) (grown_pool g pool h xs)
    pool_grown new =
        record { size = length_written (signals_of g) pool g.used h xs room ∙ sound.size; formula = formula_grown; levels = level_grown new }
