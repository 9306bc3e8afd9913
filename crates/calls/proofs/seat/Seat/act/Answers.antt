use Rattle.std.proofs.Common.{IfOk, Ok, Err, List, ℤ, Result, sym, refl, subst, MatchResult}
use Rattle.calls.specs.Acts.{act_of, told_by}
use Rattle.calls.specs.Places.{place_of}
use Rattle.calls.specs.Happening.{Happens, asks, AnsweredSo}
use Rattle.calls.proofs.seat.Seat.act.Goals as goal

made_cases : {A E : Type 0} (r : Result A E) (P Q : A → Type 0) (R : E → Type 0) → IfOk r P → ((o : A) → P o → Q o) → ((e : E) → R e) → MatchResult r Q R
made_cases (Ok o) P Q R h f e = f o h
made_cases (Err x) P Q R h f e = e x

pub returns-in-Ask : goal.returns-in-Ask
returns-in-Ask g c =
    let s = c.args.self.now in
    let a = c.in-Ask in
    made_cases c.ask.result _ _ _ c.ask.ensures
    (λ o h. subst (λ act. Happens g.E.Engine.most (act_of act) (place_of s) (told_by o) (place_of s)) (sym c.in-Ask.is)
    (asks (subst (λ (ws : List ℤ). AnsweredSo g.E.Engine.most (record { signals = a.signals; words = ws; in_use = a.used; first = a.head; assumed = a.assumptions.now }) a.room (told_by o)) c.as_slice.ensures.value h)))
    (λ e. refl)
