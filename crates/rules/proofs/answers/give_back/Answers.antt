use Rattle.std.proofs.Common.{◌≡◌, ◌-◌, ◌<◌, ◌≤◌, length, sym, ◌∙◌, subst, arith}
use Rattle.std.proofs.lemmas.List.{length-map}
use Rattle.strategy.specs.Questions.{clauses_named}
use Rattle.strategy.specs.Steps.{entry_set}
use Rattle.layout.specs.Table.{level_of}
use Rattle.layout.specs.Viewed.{variables_in, values_in, clauses_of}
use Rattle.rules.specs.Spare.{SetOf, bound_by}
use Rattle.rules.proofs.SetsOf.{named_set_of, level_few}
use Rattle.rules.proofs.answers.give_back.Goals as goal

pub note-requires : goal.note-requires
note-requires c =
    let g = c.args.game.now in
    let m = g.present in
    let σ = (level_of g m).side in
    let C = clauses_of g c.args.pool.now in
    let x = values_in g.variables (level_of g (m - 1)) in
    let is : c.as_slice.result.now ≡ entry_set C σ (clauses_named g.variables g.clauses σ c.args.names.now) x = c.as_slice.ensures.value ∙ c.named_set-set.ensures.clauses in
    let here : m - 1 < g.depth = omega (arith, c.requires.1.1.0) in
    let few : length x ≤ bound_by g = subst (λ n. n ≤ bound_by g) (sym (length-map (variables_in g.variables (level_of g (m - 1))) _)) (level_few g (m - 1) here) in
    (c.requires.0, (here, (subst (SetOf g) (sym is) (named_set_of g C σ c.args.names.now x c.requires.1.1.1.0 c.requires.1.1.1.1), few)))
