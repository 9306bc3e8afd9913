use Rattle.std.proofs.Common.{◌≡◌, true, false, None, Ok, Err, Option, Result, sym, refl, ◌∙◌, subst, rules}
use Rattle.std.specs.Prelude.{is_ok}
use Rattle.game.specs.declared.faults.GameFault.{GameFault}
use Rattle.game.specs.declared.verdict.Verdict.{Verdict}
use Rattle.calls.specs.declared.seat.Seat.{Seat}
use Rattle.calls.specs.Acts.{open_text, opened}
use Rattle.calls.specs.Places.{place_of}
use Rattle.calls.specs.Happening.{Happens, opens, verdict_opened}
use Rattle.calls.proofs.Seated.{seated}
use Rattle.calls.proofs.seat.Seat.open.Goals as goal
use Rattle.calls.proofs.seat.Seat.open.Goals.{then-is_ok, else-is_ok}

-- the verdict that is kept: none where open was not refused, else the one of before
none_kept : (v : Option Verdict) (r : Result (Unit {0}) GameFault) → is_ok r ≡ true → None ≡ verdict_opened v r
none_kept v (Ok u) e = refl
none_kept v (Err fault) e = search rules

kept : (v : Option Verdict) (r : Result (Unit {0}) GameFault) → is_ok r ≡ false → v ≡ verdict_opened v r
kept v (Ok u) e = search rules
kept v (Err fault) e = refl

pub returns : goal.returns
returns c most =
    let s = c.args.self.now in
    let e = c.open-opened.ensures in
    let r = c.open-opened.result in
    let t' = c.open-opened.new.table in
    let out = c.open-opened.new.pool in
    let old = c.as_mut_slice.result.now in
    let long = c.open-opened.auto.pool ∙ c.as_mut_slice.ensures.len in
    elim c.if-is_ok.branch [
      | then-is_ok w ↦
          subst (λ (p : Seat). Happens most (open_text c.args.text.now c.args.number) (place_of s) (opened r) (place_of p)) (sym w.self-is)
          (seated most _ _ s old out t' None c.as_mut_slice.ensures.value long
          (opens (record { gives = e.gives; words = e.words; game = e.game; holds = e.holds; begins = e.begins; sound = e.sound; verdict = none_kept s.verdict r (search rules) })))
      | else-is_ok w ↦
          subst (λ (p : Seat). Happens most (open_text c.args.text.now c.args.number) (place_of s) (opened r) (place_of p)) (sym w.self-is)
          (seated most _ _ s old out t' s.verdict c.as_mut_slice.ensures.value long
          (opens (record { gives = e.gives; words = e.words; game = e.game; holds = e.holds; begins = e.begins; sound = e.sound; verdict = kept s.verdict r (search rules) })))
    ]
