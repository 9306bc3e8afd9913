-- The next move of a game's winner: when it is refused, and otherwise which values it is.
use Rattle.std.specs.Prelude.{◌≡◌, ℕ, ◌-◌, ◌<◌, ◌≤◌, Bool, true, false, List, ◌++◌, length, drop, ℤ, Some, None, Ok, Err, Option, Result}
use Rattle.std.proofs.Math.Option as M
use Rattle.formula.specs.Game.{Values}
use Rattle.plan.specs.NextMove.{is_level_of, is_play_before, next_move}
use Rattle.layout.specs.Shown.{variables_at}
use Rattle.soundness.specs.Soundness.{SoundPool}
use Rattle.game.specs.Verdicts.{is_verdict_of}
use Rattle.layout.specs.declared.game.Game.{Game}
use Rattle.game.specs.declared.verdict.Verdict.{Verdict}
use Rattle.game.specs.declared.moves.MoveFault.{MoveFault}
use Rattle.game.specs.declared.moves.MoveFault.TheVariants.{EmptyTable, NotItsVerdict, UnsoundPool, NotTheWinnersLevel, NotAPlay, ShortSlice}

abbrev pub move_number : MoveFault → ℕ
move_number EmptyTable = 31
move_number NotItsVerdict = 36
move_number UnsoundPool = 35
move_number NotTheWinnersLevel = 14
move_number NotAPlay = 13
move_number ShortSlice = 12

-- What a call hands in, with the length of the slice for the values.
pub record MoveCall : Type 0 where
  pub holds : Bool
  pub game : Game
  pub verdict : Verdict
  pub pool : List ℤ
  pub level : ℕ
  pub play : List ℤ
  pub room : ℕ

abbrev pub called : Bool → Game → Verdict → List ℤ → ℕ → List ℤ → ℕ → MoveCall
called holds g v pool level play room = record { holds = holds; game = g; verdict = v; pool = pool; level = level; play = play; room = room }

-- The call is refused for this, and for nothing that comes before.
abbrev pub Refused : MoveCall → MoveFault → Type 0
Refused q EmptyTable = q.holds ≡ false
Refused q NotItsVerdict = (q.holds ≡ true) × (is_verdict_of q.holds q.game q.verdict ≡ false)
Refused q UnsoundPool = (is_verdict_of q.holds q.game q.verdict ≡ true) × (SoundPool q.game q.pool → ⊥)
Refused q NotTheWinnersLevel =
    (is_verdict_of q.holds q.game q.verdict ≡ true) × SoundPool q.game q.pool × (is_level_of q.game q.verdict.side q.level ≡ false)
Refused q NotAPlay =
    (is_verdict_of q.holds q.game q.verdict ≡ true) × SoundPool q.game q.pool × (is_level_of q.game q.verdict.side q.level ≡ true)
    × (is_play_before q.game q.level q.play ≡ false)
Refused q ShortSlice =
    (is_verdict_of q.holds q.game q.verdict ≡ true) × SoundPool q.game q.pool × (is_level_of q.game q.verdict.side q.level ≡ true)
    × (is_play_before q.game q.level q.play ≡ true) × (q.room < length (variables_at q.game (q.level - 1)))

-- The call is not refused.
pub record Taken (q : MoveCall) : Type 0 where
  pub verdict : is_verdict_of q.holds q.game q.verdict ≡ true
  pub sound : SoundPool q.game q.pool
  pub level : is_level_of q.game q.verdict.side q.level ≡ true
  pub play : is_play_before q.game q.level q.play ≡ true
  pub room : length (variables_at q.game (q.level - 1)) ≤ q.room

-- Values are written to the front of the slice, and counted; no move leaves the slice as it is.
abbrev pub count_of : M.Option Values → Option ℕ
count_of M.none = None
count_of (M.some x) = Some (length x)

abbrev pub written_over : M.Option Values → List ℤ → List ℤ
written_over M.none before = before
written_over (M.some x) before = x ++ drop (length x) before

-- What the call answers, and what the slice holds then.
abbrev pub Moved : MoveCall → List ℤ → List ℤ → Result (Option ℕ) MoveFault → Type 0
Moved q before after (Ok count) =
    Taken q × (count ≡ count_of (next_move q.game q.pool q.verdict.side q.level q.play))
    × (after ≡ written_over (next_move q.game q.pool q.verdict.side q.level q.play) before)
Moved q before after (Err fault) = Refused q fault × (after ≡ before)
