use Rattle.std.proofs.Common.{List, ℤ, subst}
use Rattle.game.specs.Tables.{is_held, game_in}
use Rattle.plan_check.specs.Checked.{Checked}
use Rattle.calls.specs.Happening.{checks}
use Rattle.calls.proofs.seat.Seat.check.Goals as goal

pub returns : goal.returns
returns g c =
    let s = c.args.self.now in
    checks (subst (λ (pool : List ℤ). Checked g.E.Engine.most (is_held s.table.game) (game_in s.table.game) pool c.args.side c.check.result) c.as_slice.ensures.value c.check.ensures)
