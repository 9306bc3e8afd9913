-- There is room for what a step writes, and an entry below the first level is learned from.
use Rattle.std.proofs.Common.{◌≡◌, ℕ, zero, suc, ◌+◌, ◌-◌, ◌<◌, ◌≤◌, List, [], length, ℤ, sym, refl, ap, ◌∙◌, subst, add-zero, arith}
use Rattle.std.proofs.lemmas.List.{get_or-set_other}
use Rattle.formula.specs.Game.{Values}
use Rattle.formula.specs.declared.side.Side.{Side}
use Rattle.strategy.proofs.ListPlaces.{length-onto}
use Rattle.pool.specs.Records.{records, Sound}
use Rattle.pool.specs.Append.{Room}
use Rattle.layout.specs.declared.game.Level.{Level}
use Rattle.layout.specs.declared.game.Game.{Game}
use Rattle.layout.specs.Table.{Limits, nought, level_of}
use Rattle.layout.specs.Viewed.{clauses_of}
use Rattle.soundness.specs.Soundness.{SoundFormula}
use Rattle.rules.specs.Changes.{Held, held, entered, learned, present_at, noted}
use Rattle.rules.specs.Spare.{Spare, SetOf, bound_by}
use Rattle.rules.proofs.Lengths.{length_entry}

-- the head of a sound chain lies among the words in use
pub head_below : (s : ℕ) (pool : List ℤ) (used head : ℕ) → Sound s pool used head → 0 < used → head < used
head_below s pool used zero sound some = some
head_below s pool used (suc q) sound some = let h = sound.1.0.lies.ends in omega arith

pub length_clauses : (g : Game) (pool : List ℤ) → SoundFormula g pool → length (clauses_of g pool) ≡ g.clauses
length_clauses g pool sound = length-onto (records pool g.formula) [] ∙ add-zero (length (records pool g.formula)) ∙ sound.count

module _ (g : Game) (pool : List ℤ) (j : ℕ) (A : List ℕ) (x : Values) (spare : Spare g pool) (here : j < g.depth) (small : SetOf g A) (few : length x ≤ bound_by g) where
  pub entry_room : Room (length pool) g.used (level_of g j).entries (length A + length x)
  entry_room =
      let some = spare.filled.0 in
      let top = spare.filled.1 in
      let head = head_below _ pool g.used (level_of g j).entries (spare.sound.levels j here).entries.chain some in
      let size = spare.sound.size in
      let room = spare.room in
      let a = small.few in
      record { below = omega arith; within = omega arith; indexed = omega arith }

  module _ (later : j ≡ 0 → ⊥) where
    other_level : level_of (entered g pool j A x).game (j - 1) ≡ level_of g (j - 1)
    other_level = get_or-set_other g.levels j (j - 1) _ nought (λ e. later (omega arith))

    pub entered_room : Room (length pool) (entered g pool j A x).game.used (level_of (entered g pool j A x).game (j - 1)).chain (length A)
    entered_room =
        let some = spare.filled.0 in
        let top = spare.filled.1 in
        let before : j - 1 < g.depth = omega arith in
        let head = head_below _ pool g.used (level_of g (j - 1)).chain (spare.sound.levels (j - 1) before).chain some in
        let size = spare.sound.size in
        let room = spare.room in
        let a = small.few in
        let long = length_entry g.variables (level_of g j).side A x in
        subst (λ (l : Level). Room (length pool) (entered g pool j A x).game.used l.chain (length A)) (sym other_level)
        (record { below = omega arith; within = omega arith; indexed = omega arith })

    pub after_entry : (g' : Game) (pool' : List ℤ) → held g' pool' ≡ entered g pool j A x → length pool' ≡ length pool
        → Limits g' × ((j - 1 < 32) × (SetOf g' A × Room (length pool') g'.used (level_of g' (j - 1)).chain (length A)))
    after_entry g' pool' is same =
        let lim = spare.limits in
        let deep = lim.2 in
        subst (λ m. Limits g' × ((j - 1 < 32) × (SetOf g' A × Room m g'.used (level_of g' (j - 1)).chain (length A)))) (sym same)
        (subst (λ (h : Held). Limits h.game × ((j - 1 < 32) × (SetOf h.game A × Room (length pool) h.game.used (level_of h.game (j - 1)).chain (length A)))) (sym is)
        ((lim.0, lim.1, lim.2, lim.3), (omega arith, (record { few = small.few; clauses = small.clauses }, entered_room))))

pub noted_later : (g : Game) (pool : List ℤ) (w : Side) (j : ℕ) (A : List ℕ) (x : Values) → (j ≡ 0 → ⊥)
    → present_at (j - 1) (learned (clauses_of g pool) (entered g pool j A x) (j - 1) A) ≡ noted g pool w j A x
noted_later g pool w zero A x later = absurd (later refl)
noted_later g pool w (suc i) A x later =
    let back : suc i - 1 ≡ i = omega arith in
    ap (λ m. present_at m (learned (clauses_of g pool) (entered g pool (suc i) A x) m A)) back
