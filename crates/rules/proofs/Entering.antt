-- An entry and a learned record, as table and pool show them then; and that the pool stays sound.
use Rattle.std.proofs.Common.{◌≡◌, ℕ, zero, suc, ◌+◌, ◌<◌, ◌≤◌, Bool, true, false, cond, List, [], ◌∷◌, ◌++◌, length, take, set, ℤ, pos, neg_ℤ, sym, refl, ap, ◌∙◌, subst, ap₂, arith}
use Rattle.std.specs.List.{AllByRecursion as AllOf}
use Rattle.formula.specs.Lists.{keep, All, each, from}
use Rattle.formula.specs.Game.{Clauses}
use Rattle.formula.specs.Proper.{Ascending}
use Rattle.formula.specs.declared.side.Side.{Side}
use Rattle.formula.specs.declared.side.Side.TheVariants.{Ours, Device}
use Rattle.pool.specs.Layout.{place_after}
use Rattle.pool.specs.Records.{records, Literal}
use Rattle.pool.specs.Append.{Room}
use Rattle.pool.proofs.Written.{new_sound, new_records}
use Rattle.strategy.specs.Entries.{Entry}
use Rattle.strategy.specs.Records.{learned_record, entry_record, entry_of, values_of}
use Rattle.strategy.specs.View.{LevelView, entering, learning, at, no_level}
use Rattle.strategy.specs.WellFormed.{ProperLevel}
use Rattle.strategy.proofs.Assignments.{values_in_lem}
use Rattle.strategy.proofs.Numbers.{entry_read_back}
use Rattle.layout.specs.declared.game.Level.{Level}
use Rattle.layout.specs.declared.game.Game.{Game}
use Rattle.layout.specs.Table.{nought, level_of}
use Rattle.layout.specs.Viewed.{view_level, signals_of}
use Rattle.layout.specs.Shown.{binds_in, variables_at}
use Rattle.layout.proofs.ProperRows.{row_proper}
use Rattle.soundness.specs.Soundness.{EntryForm, SoundPool}
use Rattle.rules.specs.Noting.{entries_to, chain_to}
use Rattle.rules.proofs.Growing.{grown_pool, grown_game, NewLevel, chain_sound, chain_same, views_grown, pool_grown, each_at}

-- the numbers of an entry and of a learned record name signals
all-each : (P : ℤ → Type 0) (f : ℕ → ℤ) (k : ℕ) (A : List ℕ) → All (λ i. i < k) A → ((i : ℕ) → i < k → P (f i)) → AllOf P (each f A)
all-each P f k [] h p = tt
all-each P f k (i ∷ A) h p = (p i h.0, all-each P f k A h.1 p)

all_append : (P : ℤ → Type 0) (l m : List ℤ) → AllOf P l → AllOf P m → AllOf P (l ++ m)
all_append P [] m a b = b
all_append P (x ∷ l) m a b = (a.0, all_append P l m a.1 b)

value_named : (S : ℕ) (b : Bool) (v : ℕ) → 0 < v → v ≤ S → Literal S (cond b (pos v) (neg_ℤ (pos v)))
value_named S true v a h = (a, h)
value_named S false zero a h = absurd (omega arith)
value_named S false (suc v) a h = (omega arith, h)

values_named : (α : ℕ → Bool) (n S : ℕ) (vs : List ℕ) → n ≤ S → ProperLevel n vs → AllOf (Literal S) (values_of α vs)
values_named α n S [] few p = tt
values_named α n S (v ∷ vs) few p = let high = p.1 in (value_named S (α v) v p.0 (omega arith), values_named α n S vs few p.3)

module _ (g : Game) (A : List ℕ) (small : All (λ i. i < g.clauses) A) where
  pub entry_named : (σ : Side) (α : ℕ → Bool) (p : ℕ → Bool) → AllOf (Literal (signals_of g)) (entry_record g.variables σ (record { set = A; values = values_of α (keep p (from 1 g.variables)) }))
  entry_named Ours α p =
      all_append (Literal (signals_of g)) (each (λ i. pos (suc (g.variables + i))) A) _ (all-each (Literal (signals_of g)) (λ i. pos (suc (g.variables + i))) g.clauses A small (λ i h. (omega arith, omega arith)))
      (values_named α g.variables (signals_of g) _ (omega arith) (row_proper p g.variables))
  entry_named Device α p =
      all_append (Literal (signals_of g)) (each (λ i. neg_ℤ (pos (suc (g.variables + i)))) A) _
      (all-each (Literal (signals_of g)) (λ i. neg_ℤ (pos (suc (g.variables + i)))) g.clauses A small (λ i h. (omega arith, omega arith)))
      (values_named α g.variables (signals_of g) _ (omega arith) (row_proper p g.variables))

  pub learned_named : (C : Clauses) (σ : Side) → length C ≡ g.clauses → AllOf (Literal (signals_of g)) (learned_record C g.variables σ A)
  learned_named C Ours e = all-each (Literal (signals_of g)) (λ i. neg_ℤ (pos (suc (g.variables + length C + i)))) g.clauses A small (λ i h. (omega arith, omega arith))
  learned_named C Device e = all-each (Literal (signals_of g)) (λ i. pos (suc (g.variables + length C + i))) g.clauses A small (λ i h. (omega arith, omega arith))

module _ (g : Game) (pool : List ℤ) (sound : SoundPool g pool) (long : g.depth ≤ length g.levels) (j : ℕ) (here : j < g.depth) (A : List ℕ) where
  -- an entry at the level j
  module _ (α : ℕ → Bool) (ascending : Ascending 0 g.clauses (each (λ i. suc i) A))
      (named : AllOf (Literal (signals_of g)) (entry_record g.variables (level_of g j).side (record { set = A; values = values_of α (variables_at g j) })))
      (room : Room (length pool) g.used (level_of g j).entries (length (entry_record g.variables (level_of g j).side (record { set = A; values = values_of α (variables_at g j) })))) where
    abbrev entry : Entry
    entry = record { set = A; values = values_of α (variables_at g j) }

    abbrev numbers : List ℤ
    numbers = entry_record g.variables (level_of g j).side entry

    abbrev after : List ℤ
    after = grown_pool g pool (level_of g j).entries numbers

    abbrev level : Level
    level = entries_to (place_after g.used) (level_of g j)

    entry_records : records after (place_after g.used) ≡ numbers ∷ records pool (level_of g j).entries
    entry_records = new_records (signals_of g) pool g.used (level_of g j).entries numbers room (sound.levels j here).entries.chain named

    entry_new : NewLevel g pool j (level_of g j).entries numbers level
    entry_new =
        let old = sound.levels j here in
        let form : EntryForm g.variables g.clauses (level_of g j).side (variables_at g j) numbers = (entry, ascending, values_in_lem α (variables_at g j), refl) in
        record {
          chain = chain_sound g pool sound long j here (level_of g j).entries numbers room (level_of g j).chain old.chain;
          entries = new_sound (signals_of g) pool g.used (level_of g j).entries numbers room old.entries.chain named;
          forms = subst (All (EntryForm g.variables g.clauses (level_of g j).side (variables_at g j))) (sym entry_records) (form, old.entries.forms);
        }

    pub entry_sound : SoundPool (grown_game g j level numbers) after
    entry_sound = pool_grown g pool sound long j here (level_of g j).entries numbers room level refl refl entry_new

    entry_view : view_level g.variables after level ≡ entering A (values_of α (variables_at g j)) (view_level g.variables pool (level_of g j))
    entry_view =
        let v = view_level g.variables pool (level_of g j) in
        let back : entry_of g.variables numbers ≡ entry = entry_read_back g.variables (level_of g j).side (variables_at g j) entry (row_proper (binds_in g j) g.variables) (values_in_lem α (variables_at g j)) in
        ap₂ {C = LevelView} (λ (c : List (List ℤ)) (e : List Entry). record { side = v.side; variables = v.variables; chain = c; entries = e; before = v.before; kept = v.kept })
        (chain_same g pool sound long j here (level_of g j).entries numbers room (level_of g j).chain (sound.levels j here).chain)
        (ap (each (entry_of g.variables)) entry_records ∙ ap (λ e. e ∷ each (entry_of g.variables) (records pool (level_of g j).entries)) back)

    pub entry_views : each (view_level g.variables after) (take g.depth (grown_game g j level numbers).levels)
        ≡ set (each (view_level g.variables pool) (take g.depth g.levels)) j (entering A (values_of α (variables_at g j)) (at (each (view_level g.variables pool) (take g.depth g.levels)) j))
    entry_views =
        let L = each (view_level g.variables pool) (take g.depth g.levels) in
        views_grown g pool sound long j here (level_of g j).entries numbers room level
        ∙ ap (set L j) (entry_view ∙ ap (entering A (values_of α (variables_at g j))) (sym (each_at (view_level g.variables pool) g.levels g.depth j nought no_level here (omega arith))))

  -- a record that the level j learns
  module _ (C : Clauses) (named : AllOf (Literal (signals_of g)) (learned_record C g.variables (level_of g j).side A))
      (room : Room (length pool) g.used (level_of g j).chain (length (learned_record C g.variables (level_of g j).side A))) where
    abbrev learned_numbers : List ℤ
    learned_numbers = learned_record C g.variables (level_of g j).side A

    abbrev learned_pool : List ℤ
    learned_pool = grown_pool g pool (level_of g j).chain learned_numbers

    abbrev learned_level : Level
    learned_level = chain_to (place_after g.used) (level_of g j)

    learned_records : records learned_pool (place_after g.used) ≡ learned_numbers ∷ records pool (level_of g j).chain
    learned_records = new_records (signals_of g) pool g.used (level_of g j).chain learned_numbers room (sound.levels j here).chain named

    learned_new : NewLevel g pool j (level_of g j).chain learned_numbers learned_level
    learned_new =
        let old = sound.levels j here in
        record {
          chain = new_sound (signals_of g) pool g.used (level_of g j).chain learned_numbers room old.chain named;
          entries = chain_sound g pool sound long j here (level_of g j).chain learned_numbers room (level_of g j).entries old.entries.chain;
          forms = subst (All (EntryForm g.variables g.clauses (level_of g j).side (variables_at g j)))
              (sym (chain_same g pool sound long j here (level_of g j).chain learned_numbers room (level_of g j).entries old.entries.chain)) old.entries.forms;
        }

    pub learned_sound : SoundPool (grown_game g j learned_level learned_numbers) learned_pool
    learned_sound = pool_grown g pool sound long j here (level_of g j).chain learned_numbers room learned_level refl refl learned_new

    learned_view : view_level g.variables learned_pool learned_level ≡ learning C g.variables A (view_level g.variables pool (level_of g j))
    learned_view =
        let v = view_level g.variables pool (level_of g j) in
        ap₂ {C = LevelView} (λ (c : List (List ℤ)) (e : List Entry). record { side = v.side; variables = v.variables; chain = c; entries = e; before = v.before; kept = v.kept })
        learned_records (ap (each (entry_of g.variables)) (chain_same g pool sound long j here (level_of g j).chain learned_numbers room (level_of g j).entries (sound.levels j here).entries.chain))

    pub learned_views : each (view_level g.variables learned_pool) (take g.depth (grown_game g j learned_level learned_numbers).levels)
        ≡ set (each (view_level g.variables pool) (take g.depth g.levels)) j (learning C g.variables A (at (each (view_level g.variables pool) (take g.depth g.levels)) j))
    learned_views =
        let L = each (view_level g.variables pool) (take g.depth g.levels) in
        views_grown g pool sound long j here (level_of g j).chain learned_numbers room learned_level
        ∙ ap (set L j) (learned_view ∙ ap (learning C g.variables A) (sym (each_at (view_level g.variables pool) g.levels g.depth j nought no_level here (omega arith))))
