use Rattle.std.proofs.Common.{◌≡◌, ℕ, ◌-◌, ◌≤◌, Bool, false, length, get_or, pos, sym, ap, ◌∙◌, subst}
use Rattle.std.proofs.lemmas.List.{length-map}
use lib.Signed.{lt_z}
use Rattle.formula.specs.Game.{Values}
use Rattle.formula.specs.declared.side.Side.TheVariants.{Ours}
use Rattle.strategy.specs.Records.{values_of}
use Rattle.strategy.specs.Steps.{last_entry_set}
use Rattle.layout.specs.Table.{level_of}
use Rattle.layout.specs.Viewed.{variables_in, values_in, clauses_of}
use Rattle.rules.specs.Changes.{Held, values_to, noted}
use Rattle.rules.specs.Spare.{SetOf, bound_by}
use Rattle.rules.proofs.Chosen.{values_kept}
use Rattle.rules.proofs.Noted.{length_clauses}
use Rattle.rules.proofs.SetsOf.{last_set_of, level_few}
use Rattle.rules.proofs.answers.finish.Goals as goal

pub note-requires : goal.note-requires
note-requires c =
    let g = c.args.game.now in
    let l = level_of g g.present in
    let C = clauses_of g c.args.pool.now in
    let before : ℕ → Bool = λ i. get_or l.satisfied i false in
    let x = values_in g.variables (values_to c.read_level_values-chosen.result l) in
    let is : c.as_slice.result.now ≡ last_entry_set C before x = c.as_slice.ensures.value ∙ c.last_set-set.ensures.clauses in
    let few : length x ≤ bound_by g =
    subst (λ m. m ≤ bound_by g) (sym (length-map (variables_in g.variables l) _)) (level_few g g.present c.requires.1.0) in
    (c.requires.0, (c.requires.1.0, (subst (SetOf g) (sym is) (last_set_of g C before x (length_clauses g c.args.pool.now c.requires.0.sound.formula)), few)))

pub returns : goal.returns
returns c =
    let g = c.args.game.now in
    let pool = c.args.pool.now in
    let l = level_of g g.present in
    let C = clauses_of g pool in
    let before : ℕ → Bool = λ i. get_or l.satisfied i false in
    let α : ℕ → Bool = λ v. lt_z (pos 0) (get_or c.args.words.now (v - 1) (pos 0)) in
    let y = values_in g.variables (values_to c.read_level_values-chosen.result l) in
    let played : y ≡ values_of α (variables_in g.variables l) = ap (λ f. values_in g.variables (values_to f l)) c.read_level_values-chosen.ensures ∙ values_kept α g.variables l c.requires.0.limits.0 in
    let is : c.as_slice.result.now ≡ last_entry_set C before y = c.as_slice.ensures.value ∙ c.last_set-set.ensures.clauses in
    c.note.ensures
    ∙ ap (λ A. noted g pool Ours g.present A y) is
    ∙ ap {B = Held} (λ (z : Values). noted g pool Ours g.present (last_entry_set C before z) z) played
