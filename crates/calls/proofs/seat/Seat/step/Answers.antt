use Rattle.std.proofs.Common.{None, Some, Ok, Err, refl, ap, ◌∙◌, subst}
use Rattle.game.specs.Tables.{is_held, game_in}
use Rattle.game.specs.Steps.{StepGives}
use Rattle.calls.specs.Happening.{steps}
use Rattle.calls.proofs.Seated.{seated}
use Rattle.calls.proofs.seat.Seat.step.Goals as goal

pub returns-in-Ok-None : goal.returns-in-Ok-None
returns-in-Ok-None g c =
    let s = c.args.self.now in
    let t' = c.step.new.table.game in
    let old = c.as_mut_slice.result.now in
    seated g.E.Engine.most _ _ s old c.step.new.pool c.step.new.table s.verdict c.as_mut_slice.ensures.value (c.step.auto.pool ∙ c.as_mut_slice.ensures.len)
    (steps (Ok None) refl
    (subst (λ v. StepGives g.E.Engine.most (is_held s.table.game) (game_in s.table.game) old (is_held t') (game_in t') c.step.new.pool (Ok v)) c.in-Ok-None.field-0-is c.in-Ok-None.ensures) refl)

pub returns-in-Ok-Some : goal.returns-in-Ok-Some
returns-in-Ok-Some g c =
    let s = c.args.self.now in
    let t' = c.step.new.table.game in
    let old = c.as_mut_slice.result.now in
    seated g.E.Engine.most _ _ s old c.step.new.pool c.step.new.table (Some c.in-Ok-Some.given) c.as_mut_slice.ensures.value (c.step.auto.pool ∙ c.as_mut_slice.ensures.len)
    (steps (Ok (Some c.in-Ok-Some.given)) (ap (λ w. Ok (Some w)) c.side-side.ensures)
    (subst (λ v. StepGives g.E.Engine.most (is_held s.table.game) (game_in s.table.game) old (is_held t') (game_in t') c.step.new.pool (Ok v)) c.in-Ok-Some.field-0-is c.in-Ok-Some.ensures) refl)

pub returns-in-Err : goal.returns-in-Err
returns-in-Err g c =
    let s = c.args.self.now in
    seated g.E.Engine.most _ _ s c.as_mut_slice.result.now c.step.new.pool c.step.new.table s.verdict c.as_mut_slice.ensures.value (c.step.auto.pool ∙ c.as_mut_slice.ensures.len)
    (steps (Err c.in-Err.fault) refl c.in-Err.ensures refl)
