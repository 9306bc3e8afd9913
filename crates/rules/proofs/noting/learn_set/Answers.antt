use Rattle.std.proofs.Common.{[], length, replicate, sym, ap, ◌∙◌, subst}
use Rattle.std.proofs.lemmas.List.{length-replicate}
use Rattle.pool.specs.Append.{Room}
use Rattle.formula.specs.Game.{Clauses}
use Rattle.layout.specs.Table.{level_of}
use Rattle.rules.proofs.Lengths.{length_learned}
use Rattle.rules.proofs.noting.learn_set.Goals as goal

pub lay-after-requires : goal.lay-after-requires
lay-after-requires c =
    let g = c.args.game.now in
    let C : Clauses = replicate g.clauses [] in
    let long = ap length (c.as_slice.ensures.value ∙ c.learned_of-learned.ensures C (length-replicate g.clauses [])) ∙ length_learned C g.variables (level_of g c.args.j).side c.args.set.now in
    subst (Room (length c.args.pool.now) g.used (level_of g c.args.j).chain) (sym long) c.requires.1.1.1
