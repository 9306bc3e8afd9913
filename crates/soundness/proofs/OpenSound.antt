-- The pool is sound after open: the formula's chain and the chains of the levels are, and no level has entries.
use Rattle.std.proofs.Common.{◌≡◌, ℕ, zero, suc, ◌+◌, ◌*◌, ◌<◌, ◌≤◌, false, List, [], ◌∷◌, length, get_or, replicate, ℤ, nat_abs, sym, refl, ap, ◌∙◌, subst, add-zero, zero-add, arith}
use Rattle.std.specs.List.{AllByRecursion}
use Rattle.std.proofs.lemmas.List.{get_or-take, length-replicate}
use Rattle.formula.specs.Lists.{All, keep, each, from}
use Rattle.formula.specs.Game.{other, Clauses, Qbf}
use Rattle.formula.specs.Backward.{onto, turned}
use Rattle.formula.specs.Proper.{literals_of, Ascending, Bound, Proper}
use Rattle.formula.specs.declared.side.Side.{Side}
use Rattle.pool.specs.Records.{records, Literal, Sound}
use Rattle.strategy.specs.Records.{open_records}
use Rattle.strategy.proofs.ListPlaces.{length-onto}
use Rattle.layout.specs.declared.game.Level.{Level}
use Rattle.layout.specs.Table.{blank, nought, level_of}
use Rattle.layout.specs.Shown.{variables_at, levels_of}
use Rattle.layout.specs.Laying.{Laid, laid, fresh, laid_chains, EnoughChains}
use Rattle.layout.specs.Opening.{level_chains, open_chains, words_needed}
use Rattle.layout.specs.Opened.{flags_of, new_levels, put_from, unused, opened_pool, opened_game}
use Rattle.layout.proofs.Begun.{enough_first, enough_others}
use Rattle.layout.proofs.Grown.{SoundIn, laid_long, laid_grows, fresh_sound, chains_keep, chains_long}
use Rattle.layout.proofs.Named.{formula_named, level_named}
use Rattle.layout.proofs.Shown.{flags_read, put_taken, length_new}
use Rattle.soundness.specs.Soundness.{EntryForm, SoundPool}

-- lists that are turned round, and a list read place by place
literals_onto : (C D : Clauses) → literals_of (onto C D) ≡ literals_of C + literals_of D
literals_onto [] D = omega arith
literals_onto (c ∷ C) D = omega (arith, literals_onto C (c ∷ D))

all-onto : {A : Type 0} (P : A → Type 0) (l m : List A) → All P l → All P m → All P (onto l m)
all-onto P [] m a b = b
all-onto P (x ∷ l) m a b = all-onto P l (x ∷ m) a.1 (a.0, b)

all_at : {A : Type 0} (P : A → Type 0) (l : List A) (m : ℕ) (d : A) → All P l → m < length l → P (get_or l m d)
all_at P [] m d a h = absurd (omega arith)
all_at P (x ∷ l) zero d a h = a.0
all_at P (x ∷ l) (suc m) d a h = all_at P l m d a.1 (omega arith)

each_row : {B : Type 0} (f : ℕ → B) (l : List B) (i : ℕ) (d : B) → ((m : ℕ) → m < length l → f (i + m) ≡ get_or l m d) → each f (from i (length l)) ≡ l
each_row f [] i d h = refl
each_row f (x ∷ l) i d h =
    ap (λ y. y ∷ each f (from (suc i) (length l))) (ap f (sym (add-zero i)) ∙ h 0 (omega arith))
    ∙ ap (λ r. x ∷ r) (each_row f l (suc i) d (λ m k. ap f (omega arith) ∙ h (suc m) (omega arith)))

-- the levels that open writes: their variables, their chains, and no entries
module _ (C : Clauses) (n : ℕ) where
  flags_new : (levels : List (List ℕ)) (s : Laid) (σ : Side) (m : ℕ) → m < length levels → (get_or (new_levels C n s σ levels) m nought).variables ≡ flags_of (get_or levels m [])
  flags_new [] s σ m h = absurd (omega arith)
  flags_new (vs ∷ after) s σ zero h = refl
  flags_new (vs ∷ after) s σ (suc m) h = flags_new after (laid (fresh s) (open_records C n σ vs after)) (other σ) m (omega arith)

  module _ (named : AllByRecursion (AllByRecursion (Literal (n + 2 * length C))) C) (size : ℕ) where
    chains_new : (levels : List (List ℕ)) (s : Laid) (σ : Side) (m : ℕ) → length s.words ≡ size → EnoughChains size s (level_chains C n σ levels) → m < length levels
        → SoundIn (n + 2 * length C) (laid_chains s (level_chains C n σ levels)) (get_or (new_levels C n s σ levels) m nought).chain × ((get_or (new_levels C n s σ levels) m nought).entries ≡ 0)
    chains_new [] s σ m long e h = absurd (omega arith)
    chains_new (vs ∷ after) s σ zero long e h =
        let S = n + 2 * length C in
        let rs = open_records C n σ vs after in
        let t = laid (fresh s) rs in
        let rest = level_chains C n (other σ) after in
        let first = enough_first size s rs rest e in
        let grown = laid_grows S size (fresh s) rs long first (fresh_sound S size s rs long first) (level_named n S C vs named (omega arith) σ after) in
        ((chains_keep S size t rest t.head (laid_long S size (fresh s) rs long first) (enough_others size s rs rest e) grown.0).0, refl)
    chains_new (vs ∷ after) s σ (suc m) long e h =
        let rs = open_records C n σ vs after in
        let rest = level_chains C n (other σ) after in
        let first = enough_first size s rs rest e in
        chains_new after (laid (fresh s) rs) (other σ) m (laid_long (n + 2 * length C) size (fresh s) rs long first) (enough_others size s rs rest e) (omega arith)

module _ (q : Qbf) (number : ℕ) (pool : List ℤ) (p : Proper q) where
  -- the levels stand at their places
  level_opened : (m : ℕ) → m < length q.levels → level_of (opened_game q number pool) m ≡ get_or (new_levels q.clauses q.variables (laid (unused pool) q.clauses) q.first q.levels) m nought
  level_opened m h =
      let ls = new_levels q.clauses q.variables (laid (unused pool) q.clauses) q.first q.levels in
      let k = length q.levels in
      let long = length_new q.clauses q.variables q.levels (laid (unused pool) q.clauses) q.first in
      let top = p.few_levels in
      sym (get_or-take k (put_from 0 ls (replicate 32 blank)) m nought h)
      ∙ ap (λ (l : List Level). get_or l m nought) (put_taken ls (replicate 32 blank) 0 k (sym long ∙ sym (zero-add (length ls))) (subst (λ j. k ≤ j) (sym (length-replicate 32 blank)) top))

  variables_opened : (m : ℕ) → m < length q.levels → variables_at (opened_game q number pool) m ≡ get_or q.levels m []
  variables_opened m h =
      ap (λ (l : Level). keep (λ v. get_or l.variables v false) (from 1 q.variables)) (level_opened m h)
      ∙ ap (λ flags. keep (λ v. get_or flags v false) (from 1 q.variables)) (flags_new q.clauses q.variables q.levels (laid (unused pool) q.clauses) q.first m h)
      ∙ flags_read q.variables (get_or q.levels m []) p.few_variables (all_at (Ascending 0 q.variables) q.levels m [] p.ascending h)

  levels_opened : levels_of (opened_game q number pool) ≡ q.levels
  levels_opened = each_row (variables_at (opened_game q number pool)) q.levels 0 [] (λ m h. ap (variables_at (opened_game q number pool)) (zero-add m) ∙ variables_opened m h)

pub open_sound : (q : Qbf) (number : ℕ) (pool : List ℤ) → Proper q → words_needed q ≤ length pool → length pool ≤ 1048576 → SoundPool (opened_game q number pool) (opened_pool q pool)
open_sound q number pool p fits few =
    let C = q.clauses in
    let n = q.variables in
    let S = n + 2 * length C in
    let size = length pool in
    let g = opened_game q number pool in
    let after = opened_pool q pool in
    let rest = level_chains C n q.first q.levels in
    let all : EnoughChains size (unused pool) (open_chains q) = record { some = omega arith; within = omega arith; indexed = omega arith } in
    let first = enough_first size (unused pool) C rest all in
    let others = enough_others size (unused pool) C rest all in
    let t = laid (unused pool) C in
    let named = formula_named q S p (omega arith) in
    let long = laid_long S size (unused pool) C refl first in
    let grown = laid_grows S size (unused pool) C refl first (fresh_sound S size (unused pool) C refl first) named in
    let kept = chains_keep S size t rest t.head long others grown.0 in
    let clauses : records after g.formula ≡ turned C = kept.1 ∙ grown.1 in
    record {
      size = chains_long S size (unused pool) (open_chains q) refl all;
      formula = record {
        chain = kept.0;
        count = ap (λ (c : List (List ℤ)). length c) clauses ∙ length-onto C [] ∙ add-zero (length C);
        few = subst (λ c. literals_of c ≤ 4096) (sym clauses) (subst (λ j. j ≤ 4096) (sym (literals_onto C [] ∙ add-zero (literals_of C))) p.few_literals);
        bound = subst (λ ls. All (λ c. All (λ l. Bound ls (nat_abs l)) c) (records after g.formula)) (sym (levels_opened q number pool p))
            (subst (λ cs. All (λ c. All (λ l. Bound q.levels (nat_abs l)) c) cs) (sym clauses) (all-onto (λ c. All (λ l. Bound q.levels (nat_abs l)) c) C [] p.all_bound tt));
      };
      levels = λ m h.
          let is = level_opened q number pool p m h in
          let new = chains_new C n named size q.levels t q.first m long others h in
          let none : (level_of g m).entries ≡ 0 = ap (λ (l : Level). l.entries) is ∙ new.1 in
          record {
            chain = subst (λ (l : Level). Sound S after g.used l.chain) (sym is) new.0;
            entries = record {
              chain = subst (Sound S after g.used) (sym none) (kept.0.0, refl);
              forms = subst (λ head. All (EntryForm n (length C) (level_of g m).side (variables_at g m)) (records after head)) (sym none) tt;
            };
          };
    }
