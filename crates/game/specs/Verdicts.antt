-- Which game a verdict is of, and what retiring it gives.
use Rattle.std.specs.Prelude.{ℕ, Bool, false, cond, ◌&&◌, Some, None, Ok, Err, Option, Result, ◌==◌}
use Rattle.formula.specs.Sides.{same_side}
use Rattle.formula.specs.declared.side.Side.{Side}
use Rattle.layout.specs.Table.{blank_game}
use Rattle.layout.specs.declared.game.Game.{Game}
use Rattle.game.specs.declared.verdict.Verdict.{Verdict}
use Rattle.game.specs.declared.ending.NotItsVerdict.{NotItsVerdict}

abbrev pub verdict_of : ℕ → Side → Verdict
verdict_of n w = record { number = n; side = w }

abbrev pub is_won_by : Option Side → Side → Bool
is_won_by None w = false
is_won_by (Some σ) w = same_side σ w

-- A table holds a game of this number that this side has won.
abbrev pub is_verdict_of : Bool → Game → Verdict → Bool
is_verdict_of holds g v = holds && (g.number == v.number && is_won_by g.verdict v.side)

-- The verdict back where it is not of that game; otherwise the table is emptied, as a new one is.
abbrev pub retiring : Bool → Game → Verdict → Result (Unit {0}) NotItsVerdict
retiring holds g v = cond (is_verdict_of holds g v) (Ok tt) (Err (record { verdict = v }))

abbrev pub retire_number : NotItsVerdict → ℕ
retire_number refusal = 36

abbrev pub holds_after : Bool → Game → Verdict → Bool
holds_after holds g v = cond (is_verdict_of holds g v) false holds

abbrev pub game_after : Bool → Game → Verdict → Game
game_after holds g v = cond (is_verdict_of holds g v) blank_game g
