-- What each call at a table does: just what the calls' own contracts say.
use Rattle.std.specs.Prelude.{◌≡◌, ℕ, Bool, true, false, List, length, replicate, ℤ, pos, Some, None, Ok, Err, Option, Result}
use Rattle.formula.specs.Game.{Qbf}
use Rattle.formula.specs.declared.side.Side.{Side}
use Rattle.reader.specs.Text.{reads}
use Rattle.engine.specs.Meaning.{Asked, Answered}
use Rattle.layout.specs.Begun.{Begun}
use Rattle.soundness.specs.Soundness.{SoundPool}
use Rattle.game.specs.declared.faults.GameFault.{GameFault}
use Rattle.game.specs.declared.refusals.StepFault.{StepFault}
use Rattle.game.specs.declared.moves.MoveFault.{MoveFault}
use Rattle.game.specs.declared.ending.NotItsVerdict.{NotItsVerdict}
use Rattle.game.specs.declared.verdict.Verdict.{Verdict}
use Rattle.game.specs.Opens.{opening, open_gives, pool_after, game_after, holds_after}
use Rattle.game.specs.Steps.{StepGives}
use Rattle.game.specs.Moves.{called, Moved}
use Rattle.game.specs.Verdicts.{retiring}
use Rattle.game.specs.Verdicts.{holds_after as holds_retired, game_after as game_retired}
use Rattle.plan_check.specs.declared.faults.CheckFault.{CheckFault}
use Rattle.plan_check.specs.Checked.{Checked}
use Rattle.calls.specs.Acts.{Act, open_text, step, move_at, check_for, retire, ask, Told, no_table, no_verdict, opened, stepped, moved, checked, retired, answered}
use Rattle.calls.specs.Places.{Place}

-- Open: refused, it changes nothing; else the new game is there, and no verdict of an older one.
abbrev pub verdict_opened : Option Verdict → Result (Unit {0}) GameFault → Option Verdict
verdict_opened v (Ok u) = None
verdict_opened v (Err fault) = v

pub record OpenedSo (text : List ℕ) (number : ℕ) (p : Place) (r : Result (Unit {0}) GameFault) (p' : Place) : Type 0 where
  pub gives : r ≡ open_gives (opening (length p.words) (reads text))
  pub words : p'.words ≡ pool_after p.words (opening (length p.words) (reads text))
  pub game : p'.game ≡ game_after p.game number p.words (opening (length p.words) (reads text))
  pub holds : p'.holds ≡ holds_after p.holds (opening (length p.words) (reads text))
  pub begins : (q : Qbf) → opening (length p.words) (reads text) ≡ Ok q → Begun q p'.game p'.words
  pub sound : (q : Qbf) → opening (length p.words) (reads text) ≡ Ok q → SoundPool p'.game p'.words
  pub verdict : p'.verdict ≡ verdict_opened p.verdict r

-- Step: the verdict that it gives is kept.
abbrev pub side_said : Result (Option Verdict) StepFault → Result (Option Side) StepFault
side_said (Ok None) = Ok None
side_said (Ok (Some v)) = Ok (Some v.side)
side_said (Err fault) = Err fault

abbrev pub verdict_stepped : Option Verdict → Result (Option Verdict) StepFault → Option Verdict
verdict_stepped old (Ok None) = old
verdict_stepped old (Ok (Some v)) = Some v
verdict_stepped old (Err fault) = old

-- Retire: the verdict is handed in, or it comes back.
abbrev pub taken : Result (Unit {0}) NotItsVerdict → Bool
taken (Ok u) = true
taken (Err refusal) = false

abbrev pub verdict_retired : Result (Unit {0}) NotItsVerdict → Option Verdict
verdict_retired (Ok u) = None
verdict_retired (Err refusal) = Some refusal.verdict

-- Ask: the engine's answer, in so many words that were 0.
abbrev pub AnsweredSo : ℕ → Asked → ℕ → Told → Type 0
AnsweredSo most q room no_table = ⊥
AnsweredSo most q room no_verdict = ⊥
AnsweredSo most q room (opened r) = ⊥
AnsweredSo most q room (stepped r) = ⊥
AnsweredSo most q room (moved r values) = ⊥
AnsweredSo most q room (checked r) = ⊥
AnsweredSo most q room (retired b) = ⊥
AnsweredSo most q room (answered r words) = Answered most q (replicate room (pos 0)) words r

-- Over an engine that takes up to `most` signals: what the call is told, and the table after it.
pub data Happens (most : ℕ) : Act → Place → Told → Place → Type 0 where
  opens : {text : List ℕ} {number : ℕ} {p p' : Place} {r : Result (Unit {0}) GameFault} → OpenedSo text number p r p' → Happens most (open_text text number) p (opened r) p'
  steps : {p p' : Place} {said : Result (Option Side) StepFault} (r : Result (Option Verdict) StepFault) → said ≡ side_said r
      → StepGives most p.holds p.game p.words p'.holds p'.game p'.words r → p'.verdict ≡ verdict_stepped p.verdict r → Happens most step p (stepped said) p'
  moves : {level : ℕ} {play : List ℤ} {p : Place} {r : Result (Option ℕ) MoveFault} {values : List ℤ} (v : Verdict) → p.verdict ≡ Some v
      → Moved (called p.holds p.game v p.words level play 256) (replicate 256 (pos 0)) values r → Happens most (move_at level play) p (moved r values) p
  moves_without : {level : ℕ} {play : List ℤ} {p : Place} → p.verdict ≡ None → Happens most (move_at level play) p no_verdict p
  checks : {w : Side} {p : Place} {r : Result Bool CheckFault} → Checked most p.holds p.game p.words w r → Happens most (check_for w) p (checked r) p
  retires : {p p' : Place} {b : Bool} (v : Verdict) → p.verdict ≡ Some v → b ≡ taken (retiring p.holds p.game v) → p'.holds ≡ holds_retired p.holds p.game v
      → p'.game ≡ game_retired p.holds p.game v → p'.words ≡ p.words → p'.verdict ≡ verdict_retired (retiring p.holds p.game v) → Happens most retire p (retired b) p'
  retires_without : {p : Place} → p.verdict ≡ None → Happens most retire p no_verdict p
  asks : {signals used head room : ℕ} {assumed : List ℤ} {p : Place} {told : Told}
      → AnsweredSo most (record { signals = signals; words = p.words; in_use = used; first = head; assumed = assumed }) room told → Happens most (ask signals used head room assumed) p told p
