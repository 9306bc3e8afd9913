-- The levels that check is asked about, from a place on.
use Rattle.std.proofs.Common.{◌≡◌, ℕ, zero, suc, ◌+◌, ◌<◌, ◌≤◌, eqb, List, [], ◌∷◌, length, get_or, take, ℤ, sym, refl, ap, ◌∙◌, ⊎_elim, arith}
use Rattle.std.proofs.lemmas.List.{drop_more, drop_all, get_or-take, length-take, length-take-le, length-map}
use Rattle.std.proofs.lemmas.Bool.{cases_eq, eq-eqb, ne_eqb}
use Rattle.formula.specs.Lists.{each}
use Rattle.formula.specs.Game.{Clauses}
use Rattle.formula.specs.declared.side.Side.{Side}
use Rattle.strategy.specs.Check.{LevelRecords}
use Rattle.strategy.specs.Records.{open_records}
use Rattle.strategy.specs.View.{LevelView}
use Rattle.strategy.proofs.ListPlaces.{length-onto}
use Rattle.pool.specs.Records.{records}
use Rattle.layout.specs.declared.game.Game.{Game}
use Rattle.layout.specs.Table.{nought}
use Rattle.layout.specs.Viewed.{view_level, clauses_of}
use Rattle.layout.specs.Opening.{level_records, is_nil}
use Rattle.layout.proofs.Counted.{open_records_lem}
use Rattle.soundness.specs.Soundness.{SoundFormula}
use Rattle.plan_check.specs.Checked.{levels_shown}
use Rattle.plan_check.specs.Places.{level_shown, shown_from}
use Rattle.plan_check.specs.Readable.{Readable}

each_at : {A B : Type 0} (f : A → B) (l : List A) (m : ℕ) (d : A) (e : B) → m < length l → get_or (each f l) m e ≡ f (get_or l m d)
each_at f [] m d e h = absurd (omega arith)
each_at f (x ∷ l) zero d e h = refl
each_at f (x ∷ l) (suc m) d e h = each_at f l m d e (omega arith)

abbrev shown : LevelView → LevelRecords
shown v = record { variables = v.variables; chain = v.chain; entries = v.entries }

-- a readable game has a place for each of its levels
pub levels_fit : (g : Game) (pool : List ℤ) → Readable g pool → g.depth ≤ length g.levels
levels_fit g pool readable = omega (arith, readable.limits.2, readable.places)

module _ (g : Game) (pool : List ℤ) where
  count : length (levels_shown g pool) ≡ length (take g.depth g.levels)
  count = length-map (each (view_level g.variables pool) (take g.depth g.levels)) shown ∙ length-map (take g.depth g.levels) (view_level g.variables pool)

  pub shown_here : (m : ℕ) → m < g.depth → g.depth ≤ length g.levels → shown_from g pool m ≡ level_shown g pool m ∷ shown_from g pool (m + 1)
  shown_here m h long =
      let size = length-take-le g.depth g.levels long in
      let views = each (view_level g.variables pool) (take g.depth g.levels) in
      let views-long = length-map (take g.depth g.levels) (view_level g.variables pool) in
      let d : LevelRecords = level_shown g pool m in
      let e : LevelView = view_level g.variables pool nought in
      drop_more (levels_shown g pool) m d (omega (arith, count))
      ∙ ap (λ l. l ∷ shown_from g pool (m + 1))
      (each_at shown views m e d (omega (arith, views-long))
      ∙ ap shown (each_at (view_level g.variables pool) (take g.depth g.levels) m nought e (omega arith) ∙ ap (view_level g.variables pool) (get_or-take g.depth g.levels m nought h)))

  pub shown_end : (m : ℕ) → g.depth ≤ m → shown_from g pool m ≡ []
  shown_end m h = drop_all m (levels_shown g pool) (omega (arith, count, length-take g.depth g.levels))

-- the formula has as many clauses as the game
pub clauses_count : (g : Game) (pool : List ℤ) → SoundFormula g pool → length (clauses_of g pool) ≡ g.clauses
clauses_count g pool sound = omega (arith, length-onto (records pool g.formula) [], sound.count)

-- the records of a level at open, by whether it is the last
pub open_here : (g : Game) (pool : List ℤ) (C : Clauses) (n : ℕ) (σ : Side) (vs : List ℕ) (m : ℕ) → m < g.depth → g.depth ≤ length g.levels
    → open_records C n σ vs (shown_from g pool (m + 1)) ≡ level_records C n σ vs (eqb (m + 1) g.depth)
open_here g pool C n σ vs m h long =
    open_records_lem C n σ vs (shown_from g pool (m + 1))
    ∙ ap (level_records C n σ vs)
    (⊎_elim (λ last. ap is_nil (shown_end g pool (m + 1) (omega arith)) ∙ sym (eq-eqb (m + 1) g.depth last))
    (λ more. ap is_nil (shown_here g pool (m + 1) (omega arith) long) ∙ sym (ne_eqb (m + 1) g.depth more)) (cases_eq (m + 1) g.depth))
