use Rattle.std.proofs.Common.{◌≡◌, map, take, vec_items, vec_len}
use Rattle.calls.specs.Acts.{told_by}
use Rattle.calls.specs.Places.{place_of}
use Rattle.calls.specs.Runs.{events_of}
use Rattle.calls.specs.Laws.{Continues}
use Rattle.calls.proofs.running.run.Given as goal

abbrev pub invariant-loop-call : goal.invariant-loop-call
invariant-loop-call g l =
    (vec_len l.outcomes ≡ l.call-index) × Continues (events_of (take l.call-index l.calls) (map told_by (vec_items l.outcomes))) (map place_of (vec_items l.initial.seats)) (map place_of (vec_items l.seats))
