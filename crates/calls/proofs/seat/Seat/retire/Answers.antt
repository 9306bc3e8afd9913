use Rattle.std.proofs.Common.{sym, refl, ap, ◌∙◌, subst}
use Rattle.calls.specs.Acts.{no_verdict}
use Rattle.calls.specs.Acts.{retire as retire_act}
use Rattle.calls.specs.Places.{place_with, place_of}
use Rattle.calls.specs.Happening.{Happens, retires, retires_without, taken, verdict_retired}
use Rattle.calls.proofs.seat.Seat.retire.Goals as goal

pub returns-in_default : goal.returns-in_default
returns-in_default c most =
    let s = c.args.self.now in
    let none = sym c.take.ensures.value ∙ c.in_default.is in
    subst (λ v. Happens most retire_act (place_of s) no_verdict (place_with s.table s.pool.items v)) (none ∙ sym c.take.ensures.after) (retires_without none)

pub returns-in-Ok : goal.returns-in-Ok
returns-in-Ok c most =
    let e = c.in-Ok.ensures in
    retires c.in-Some.given (sym c.take.ensures.value ∙ c.in-Some.is) (ap taken e.result) e.holds e.game refl (c.take.ensures.after ∙ ap verdict_retired e.result)

pub returns-in-Err : goal.returns-in-Err
returns-in-Err c most =
    let e = c.in-Err.ensures in
    retires c.in-Some.given (sym c.take.ensures.value ∙ c.in-Some.is) (ap taken e.result) e.holds e.game refl (ap verdict_retired e.result)
