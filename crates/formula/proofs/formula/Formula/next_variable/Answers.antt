use Rattle.std.proofs.Common.{◌≡◌, true, leb, ltb, ◌&&◌, length, sym, refl, ap, ◌∙◌, rules}
use Rattle.formula.specs.Lists.{keep}
use Rattle.formula.specs.Found.{first_of, binds_at, variables_of}
use Rattle.formula.specs.Model.{qbf}
use Rattle.formula.proofs.Looked.{level_there, next_in}
use Rattle.formula.proofs.formula.Formula.next_variable.Goals as goal

pub returns : goal.returns
returns c =
    let p = c.args.self.now.parts in
    let q = qbf p in
    let yes : (leb 1 c.args.level && leb c.args.level (length q.levels)) ≡ true = search rules in
    c.next_variable.ensures
    ∙ next_in (binds_at p.bound c.args.level) p.variables c.args.after
    ∙ sym (ap (λ l. first_of (keep (ltb c.args.after) l)) (level_there q (variables_of p.variables p.bound) p.levels refl c.args.level yes))
