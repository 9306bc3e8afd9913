use Rattle.std.proofs.Common.{◌+◌, ◌<◌, ◌≤◌, pos, nat_abs}
use Rattle.std.specs.List.{All}
use Rattle.std.proofs.lemmas.List.Elements.{All-from_get_or}
use Rattle.std.proofs.iter.Serving.{serving}
use Rattle.plan.proofs.fitting.are_wanted.Goals as goal

pub all-requires-clause-can : goal.all-requires-clause-can
all-requires-clause-can c =
    let named : All (λ x. (c.args.base < nat_abs x) × (nat_abs x ≤ c.args.base + 512)) c.args.signals.now = All-from_get_or (λ x. (c.args.base < nat_abs x) × (nat_abs x ≤ c.args.base + 512)) c.args.signals.now (pos 0) c.requires.1 in
    grind serving

pub all-requires-clause-callable : goal.all-requires-clause-callable
all-requires-clause-callable c =
    let named : All (λ x. (c.args.base < nat_abs x) × (nat_abs x ≤ c.args.base + 512)) c.args.signals.now = All-from_get_or (λ x. (c.args.base < nat_abs x) × (nat_abs x ≤ c.args.base + 512)) c.args.signals.now (pos 0) c.requires.1 in
    grind serving
