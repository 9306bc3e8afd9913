use Rattle.engine.proofs.Parts.{part_each}
use Rattle.engine.proofs.asking.answers_agree.Goals as goal

pub returns : goal.returns
returns c m n q before after before' after' k said denied =
    let a = said.1.0 in
    denied.1.3 a (said.1.1.0, part_each a denied.1.2 said.1.1.1)
