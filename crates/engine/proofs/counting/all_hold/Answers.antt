use Rattle.std.proofs.Common.{refl, pos, rules}
use Rattle.std.specs.List.{All}
use Rattle.std.proofs.lemmas.List.Elements.{All-from_recursion}
use Rattle.std.proofs.lemmas.List.Recursion.{and_is}
use Rattle.std.proofs.iter.runs.Made.{chains}
use Rattle.std.proofs.iter.Serving.{serving}
use Rattle.pool.specs.Records.{Literal}
use Rattle.engine.specs.Truth.{literal, each}
use Rattle.engine.specs.Count.{numbered}
use Rattle.engine.proofs.counting.all_hold.Goals as goal

pub all-requires-clause-callable : goal.all-requires-clause-callable
all-requires-clause-callable c =
    let named : All (Literal c.args.s) c.args.numbers.now = All-from_recursion (Literal c.args.s) c.args.numbers.now c.requires.1 in
    grind serving

pub returns : goal.returns
returns c =
    let a = numbered c.args.s c.args.n in
    and_is (each a) (literal a) refl (λ _ _. refl) c.args.numbers.now (pos 0) c.all.result (search (rules, chains)) (search (rules, chains))
