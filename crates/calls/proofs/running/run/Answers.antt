use Rattle.std.proofs.Common.{◌≡◌, ◌+◌, [], ◌∷◌, ◌++◌, map, length, get_or, take, vec_items, sym, ap, ◌∙◌, subst, arith}
use Rattle.std.proofs.lemmas.List.{map_push, length-map, take_all}
use Rattle.calls.specs.declared.call.Call.{Call}
use Rattle.calls.specs.declared.call.Action.TheVariants.{Open}
use Rattle.calls.specs.Acts.{told_by}
use Rattle.calls.specs.Places.{place_of}
use Rattle.calls.specs.Runs.{event_of, events_of}
use Rattle.calls.specs.Laws.{Continues}
use Rattle.calls.proofs.Performed.{continues_none, continues_more, events_more}
use Rattle.calls.proofs.running.run.Goals as goal

-- what Rattle reads past the end of a list of calls
abbrev no_call : Call
no_call = record { table = 0; action = Open (record { ref_ptr = (0, 0); now = [] }) 0 }

pub loop-call-init : goal.loop-call-init
loop-call-init g c = (c.new-outcomes.ensures.len, continues_none (map place_of (vec_items c.args.seats.now)))

pub loop-call-preserved : goal.loop-call-preserved
loop-call-preserved g c =
    let calls = c.args.calls.now in
    let i = c.loop-call.call-index in
    let o = c.in_ok-outcome.outcome in
    let xs = vec_items c.loop-call.outcomes in
    let pushed = c.in_ok-push.ensures in
    let count = c.loop-call.invariant.0 in
    let long : length (map told_by xs) ≡ i = length-map xs told_by ∙ omega (arith, c.loop-call.outcomes.ok.0, count) in
    let is : events_of (take (i + 1) calls) (map told_by (vec_items c.push.new.self)) ≡ events_of (take i calls) (map told_by xs) ++ (event_of (get_or calls i no_call) (told_by o) ∷ []) =
    ap (λ os. events_of (take (i + 1) calls) (map told_by os)) pushed.items ∙ ap (events_of (take (i + 1) calls)) (map_push told_by xs o) ∙ events_more calls (map told_by xs) i no_call (told_by o) c.loop-call-test.true long in
    let before = map place_of (vec_items c.args.seats.now) in
    let after = map place_of (vec_items c.perform.new.seats) in (
      omega (arith, pushed.len, count),
      subst (λ es. Continues es before after) (sym is)
          (continues_more (events_of (take i calls) (map told_by xs)) (event_of (get_or calls i no_call) (told_by o)) before (map place_of (vec_items c.loop-call.seats)) after c.loop-call.invariant.1 c.in_ok-outcome.ensures),
    )

pub returns : goal.returns
returns g c =
    let calls = c.args.calls.now in
    let count = c.loop-call.invariant.0 in
    let all = take_all c.loop-call.call-index calls c.loop-call-test.false in (
      omega (arith, count, c.loop-call-test.false),
      subst (λ cs. Continues (events_of cs (map told_by (vec_items c.loop-call.outcomes))) (map place_of (vec_items c.args.seats.now)) (map place_of (vec_items c.loop-call.seats))) all c.loop-call.invariant.1,
    )
