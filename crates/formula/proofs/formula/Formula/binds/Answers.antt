use Rattle.std.proofs.Common.{◌≡◌, ◌<◌, true, false, leb, ◌&&◌, length, get_or, sym, refl, ap, ◌∙◌, arith, rules}
use Rattle.std.proofs.lemmas.Bool.{ne_eqb}
use Rattle.std.proofs.lemmas.Bool.Decides.{nat_tests}
use Rattle.formula.specs.Lists.{elem}
use Rattle.formula.specs.Found.{binds_at, variables_of}
use Rattle.formula.specs.Model.{qbf}
use Rattle.formula.proofs.Looked.{level_there, level_absent, bound_there, elem_high}
use Rattle.formula.proofs.formula.Formula.binds.Goals as goal
use Rattle.formula.proofs.formula.Formula.binds.Goals.{then-has_level, else-has_level}

pub returns-then-variable-self : goal.returns-then-variable-self
returns-then-variable-self c =
    let f = c.args.self.now in
    let p = f.parts in
    let q = qbf p in
    let yes : (leb 1 c.args.level && leb c.args.level (length q.levels)) ≡ true = search rules in
    let few : leb c.args.variable p.variables ≡ true = search rules in
    let none : get_or p.bound 0 0 ≡ c.args.level → ⊥ = λ e. grind (arith, nat_tests, f.declared 0) in
    sym (ap (elem c.args.variable) (level_there q (variables_of p.variables p.bound) p.levels refl c.args.level yes)
    ∙ bound_there (binds_at p.bound c.args.level) p.variables c.args.variable (ne_eqb _ _ none) (grind (arith, nat_tests)))

pub returns-else-variable-self : goal.returns-else-variable-self
returns-else-variable-self c =
    let p = c.args.self.now.parts in
    let q = qbf p in
    c.if-variable-self.false
    ∙ sym (elim c.if-has_level.branch [
      | then-has_level w ↦
          let yes : (leb 1 c.args.level && leb c.args.level (length q.levels)) ≡ true = search rules in
          let above : p.variables < c.args.variable = grind (arith, nat_tests) in
          ap (elem c.args.variable) (level_there q (variables_of p.variables p.bound) p.levels refl c.args.level yes)
          ∙ elem_high (binds_at p.bound c.args.level) 1 p.variables c.args.variable (omega arith)
      | else-has_level w ↦
          let no : (leb 1 c.args.level && leb c.args.level (length q.levels)) ≡ false = search rules in
          ap (elem c.args.variable) (level_absent q c.args.level no)
    ])
