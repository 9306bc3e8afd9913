use Rattle.std.proofs.Common.{refl, subst}
use Rattle.engine.specs.declared.question.Answer.TheVariants.{No}
use Rattle.engine.specs.Asking.{asked}
use Rattle.engine.specs.Meaning.{Given, clauses}
use Rattle.engine.proofs.Parts.{clash_more}
use Rattle.engine.proofs.asking.says_no.Goals as goal

pub returns-in-Ok-No : goal.returns-in-Ok-No
returns-in-Ok-No g c =
    let q = asked c.args.question in
    let given : Given q c.args.out.now c.ask.new.out (No c.in-Ok-No.field-0-0) =
    subst (Given q c.args.out.now c.ask.new.out) c.in-Ok-No.field-0-is c.in-Ok-No.ensures.1 in
    (λ e. clash_more (clauses q) given.2 given.3, λ e. refl)
