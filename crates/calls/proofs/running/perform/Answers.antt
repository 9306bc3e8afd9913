use Rattle.std.proofs.Common.{refl, ◌≡◌, ◌<◌, ◌≤◌, map, length, get_or, ap, subst, arith, MatchResult}
use Rattle.std.proofs.lemmas.List.{length-map}
use Rattle.calls.specs.Acts.{act_of, told_by}
use Rattle.calls.specs.Places.{Place, place_of}
use Rattle.calls.specs.Happening.{Happens}
use Rattle.calls.proofs.Performed.{continues_nowhere, performed}
use Rattle.calls.proofs.running.perform.Goals as goal

pub returns-then-call-len : goal.returns-then-call-len
returns-then-call-len g c =
    let xs = c.args.seats.now.items in
    let past : length (map place_of xs) ≤ c.args.call.table = omega (arith, length-map xs place_of, c.len.ensures, c.args.seats.now.ok.0, c.if-call-len.true) in
    continues_nowhere (map place_of xs) c.args.call past

pub returns : goal.returns
returns g c =
    let xs = c.args.seats.now.items in
    let s = c.index_mut.result.now in
    let here : c.args.call.table < length xs = omega (arith, c.len.ensures, c.args.seats.now.ok.0, c.if-call-len.false) in
    let was : place_of s ≡ place_of (get_or xs c.args.call.table s) = ap place_of c.index_mut.ensures.value in
    let after = place_of c.act.new.self in
    performed g.E.Engine.most xs c.args.call s c.act.new.self here after c.act.result refl
    (subst (λ (p : Place). MatchResult c.act.result (λ o. Happens g.E.Engine.most (act_of c.args.call.action) p (told_by o) after) (λ _. after ≡ p)) was c.act.ensures)
