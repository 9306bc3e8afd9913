-- Runs: one call after another over any number of tables, none of which holds a game at first.
use Rattle.std.specs.Prelude.{◌≡◌, ℕ, suc, ◌<◌, ◌≤◌, true, false, cond, List, [], ◌∷◌, length, Ok, Err, Result, ◌==◌, slice_index_or, slice_set}
use Rattle.std.proofs.Math.Option.{none, some, Option as Maybe}
use Rattle.formula.specs.Game.{Qbf}
use Rattle.formula.specs.Lists.{All}
use Rattle.reader.specs.Text.{reads}
use Rattle.reader.specs.declared.faults.TextFault.{TextFault}
use Rattle.calls.specs.declared.call.Call.{Call}
use Rattle.calls.specs.Acts.{act_of, Act, open_text, step, move_at, check_for, retire, ask, Told, no_table, no_verdict, opened, stepped, moved, checked, retired, answered}
use Rattle.calls.specs.Places.{Place, nowhere}
use Rattle.calls.specs.Happening.{Happens}

-- a call, made at a table, and what it was told
pub record Event : Type 0 where
  pub table : ℕ
  pub act : Act
  pub told : Told

-- calls with what they were told, in their order
abbrev pub event_of : Call → Told → Event
event_of c told = record { table = c.table; act = act_of c.action; told = told }

abbrev pub events_of : List Call → List Told → List Event
events_of [] ts = []
events_of (c ∷ cs) [] = []
events_of (c ∷ cs) (t ∷ ts) = event_of c t ∷ events_of cs ts

-- The tables after some events, the newest event first. Each call may go to another engine.
pub data Run : List Event → List Place → Type 0 where
  none_held : {places : List Place} → All (λ (p : Place). p.holds ≡ false) places → Run [] places
  call : {events : List Event} {places : List Place} (most table : ℕ) (act : Act) (told : Told) (after : Place)
      → Run events places → table < length places → Happens most act (slice_index_or places table nowhere) told after
      → Run (record { table = table; act = act; told = told } ∷ events) (slice_set places table after)
  call_nowhere : {events : List Event} {places : List Place} (table : ℕ) (act : Act)
      → Run events places → length places ≤ table → Run (record { table = table; act = act; told = no_table } ∷ events) places

-- The formula whose game a table holds: that of the text of its last open that was not refused, unless a retire that was not refused follows.
abbrev pub formula_of : Result Qbf TextFault → Maybe Qbf
formula_of (Ok q) = some q
formula_of (Err fault) = none

abbrev pub formula_read : Act → Maybe Qbf
formula_read (open_text text number) = formula_of (reads text)
formula_read step = none
formula_read (move_at level play) = none
formula_read (check_for w) = none
formula_read retire = none
formula_read (ask signals used head room assumed) = none

abbrev pub formula_after : Act → Told → Maybe Qbf → Maybe Qbf
formula_after act no_table q = q
formula_after act no_verdict q = q
formula_after act (opened (Ok u)) q = formula_read act
formula_after act (opened (Err fault)) q = q
formula_after act (stepped r) q = q
formula_after act (moved r values) q = q
formula_after act (checked r) q = q
formula_after act (retired true) q = none
formula_after act (retired false) q = q
formula_after act (answered r words) q = q

abbrev pub formula_held : List Event → ℕ → Maybe Qbf
formula_held [] j = none
formula_held (e ∷ events) j = cond (e.table == j) (formula_after e.act e.told (formula_held events j)) (formula_held events j)

-- the steps of the table's game that were not refused
abbrev pub steps_after : Told → ℕ → ℕ
steps_after no_table m = m
steps_after no_verdict m = m
steps_after (opened (Ok u)) m = 0
steps_after (opened (Err fault)) m = m
steps_after (stepped (Ok w)) m = suc m
steps_after (stepped (Err fault)) m = m
steps_after (moved r values) m = m
steps_after (checked r) m = m
steps_after (retired true) m = 0
steps_after (retired false) m = m
steps_after (answered r words) m = m

abbrev pub steps_made : List Event → ℕ → ℕ
steps_made [] j = 0
steps_made (e ∷ events) j = cond (e.table == j) (steps_after e.told (steps_made events j)) (steps_made events j)
