-- The newest entry that fits the marked clauses is the next move, which is the recorded plan's.
use Rattle.std.proofs.Common.{◌≡◌, ℕ, suc, ◌-◌, ◌<◌, ◌≤◌, Bool, true, false, ltb, leb, List, [], ◌∷◌, length, get_or, take, ℤ, sym, refl, ap, ◌∙◌, subst, zero-add, arith}
use Rattle.std.proofs.lemmas.Bool.{and_parts, leb-true, ltb-true, false≢true}
use Rattle.std.proofs.lemmas.List.{length-take-le, length-map}
use Rattle.formula.specs.Lists.{find, All, In, each, below}
use Rattle.formula.specs.Game.{choices, Play, PlayOf, hits}
use Rattle.formula.specs.Sides.{same_side}
use Rattle.formula.specs.declared.side.Side.{Side}
use Rattle.formula.specs.declared.side.Side.TheVariants.{Ours, Device}
use Rattle.pool.specs.Records.{records}
use Rattle.formula.proofs.Tests.{is_true}
use Rattle.formula.proofs.Ranges.{length_from}
use Rattle.formula.proofs.Looked.{each-from_at}
use Rattle.strategy.specs.Entries.{Entry, fits_when}
use Rattle.strategy.specs.RecordedPlan.{values_in, flat, flat_move}
use Rattle.strategy.specs.Records.{entry_of}
use Rattle.strategy.specs.WellFormed.{ProperLevel}
use Rattle.strategy.proofs.Flats.{flat_plays, flat_moves}
use Rattle.strategy.proofs.Numbers.{entry_read_back}
use Rattle.layout.specs.Table.{level_of}
use Rattle.layout.specs.Shown.{binds_in, variables_at, levels_of, entries_in}
use Rattle.layout.specs.Viewed.{clauses_of}
use Rattle.soundness.specs.Soundness.{EntryForm, SoundEntries}
use Rattle.plan.specs.NextMove.{is_level_of, next_move}
use Rattle.plan.specs.MoveLaws.{all_entries_in, PlaysAreTaken, MoveIsRecorded, EntriesHaveValues}
use Rattle.layout.specs.declared.game.Game.{Game}
use Rattle.soundness.proofs.Rows.{test_true}
use Rattle.layout.proofs.ProperRows.{row_proper}
use Rattle.plan.proofs.Entered.{find_agree}

pub same_sides : (σ τ : Side) → same_side σ τ ≡ true → σ ≡ τ
same_sides Ours Ours e = refl
same_sides Ours Device e = absurd (false≢true e)
same_sides Device Ours e = absurd (false≢true e)
same_sides Device Device e = refl

-- a level that is there, by its place, is of its side
pub level_there : (g : Game) (w : Side) (level : ℕ) → is_level_of g w level ≡ true → (0 < level) × (level ≤ g.depth) × ((level_of g (level - 1)).side ≡ w)
level_there g w level e =
    let both = and_parts _ (same_side (level_of g (level - 1)).side w) e in
    let range = and_parts (ltb 0 level) (leb level g.depth) both.0 in
    (ltb-true 0 level range.0, leb-true level g.depth range.1, same_sides _ w both.1)

pub move_found : (g : Game) (pool : List ℤ) (w : Side) (level : ℕ) (play : List ℤ) (marked : List Bool)
    → SoundEntries g pool (level - 1) → (level_of g (level - 1)).side ≡ w → ((i : ℕ) → i < g.clauses → get_or marked i false ≡ hits (clauses_of g pool) play i)
    → values_in (find (fits_when (level_of g (level - 1)).side (λ i. get_or marked i false)) (entries_in g pool (level - 1))) ≡ next_move g pool w level play
move_found g pool w level play marked sound side agree =
    let m = level - 1 in
    ap values_in (find_agree (level_of g m).side (λ i. get_or marked i false) (hits (clauses_of g pool) play) g.clauses agree g.variables (variables_at g m)
    (row_proper (binds_in g m) g.variables) (records pool (level_of g m).entries) sound.forms)
    ∙ ap (λ σ. values_in (find (fits_when σ (hits (clauses_of g pool) play)) (entries_in g pool m))) side

-- a list is taken as a play exactly when it is one
pub plays_taken : PlaysAreTaken
plays_taken g level ρ =
    let both = flat_plays (take (level - 1) (levels_of g)) ρ in
    ((λ e. both.0 (test_true _ e)), (λ p. is_true _ (both.1 p)))

-- a play of so many levels is so long
play_length : (levels : List (List ℕ)) (π : Play) → PlayOf levels π → length π ≡ length levels
play_length [] [] h = refl
play_length [] (x ∷ π) h = absurd h
play_length (vs ∷ r) [] h = absurd h
play_length (vs ∷ r) (x ∷ π) h = ap suc (play_length r π h.1)

pub recorded : MoveIsRecorded
recorded g pool w level π is play =
    let there = level_there g w level is in
    let m = level - 1 in
    let count : length (levels_of g) ≡ g.depth = length-map (below g.depth) (variables_at g) ∙ length_from 0 g.depth in
    let in' : level - 1 < g.depth = omega (arith, there.0, there.1) in
    let long : length π ≡ level - 1 = play_length _ π play ∙ length-take-le m (levels_of g) (omega arith) in
    let at : get_or (all_entries_in g pool) (length π) [] ≡ entries_in g pool m =
    ap (λ j. get_or (all_entries_in g pool) j []) long ∙ each-from_at (entries_in g pool) 0 g.depth m [] in' ∙ ap (entries_in g pool) (zero-add m) in
    sym (flat_moves (clauses_of g pool) w (all_entries_in g pool) π ∙ ap (λ es. flat_move (clauses_of g pool) w es (flat π)) at)

forms_values : (n k : ℕ) (σ : Side) (vs : List ℕ) → ProperLevel n vs → (rs : List (List ℤ)) → All (EntryForm n k σ vs) rs → All (λ e. In e.values (choices vs)) (each (entry_of n) rs)
forms_values n k σ vs proper [] h = tt
forms_values n k σ vs proper (rec ∷ rs) h =
    let form = h.0 in
    let e = form.0 in
    let is : entry_of n rec ≡ e = ap (entry_of n) form.3 ∙ entry_read_back n σ vs e proper form.2 in
    (subst (λ (x : Entry). In x.values (choices vs)) (sym is) form.2, forms_values n k σ vs proper rs h.1)

pub values_of_entries : EntriesHaveValues
values_of_entries g pool sound m here =
    forms_values g.variables g.clauses (level_of g m).side (variables_at g m) (row_proper (binds_in g m) g.variables) (records pool (level_of g m).entries) (sound.levels m here).entries.forms
