-- The theorem about reading.
use Rattle.std.specs.Prelude.{◌≡◌, ℕ, ◌<◌, ◌↔◌, List, length, Ok, Err}
use Rattle.formula.specs.Game.{Qbf}
use Rattle.reader.specs.declared.faults.WordFault.TheVariants.{TooLong}
use Rattle.reader.specs.declared.faults.TextFault.TheVariants.{Word}
use Rattle.reader.specs.Text.{reads}
use Rattle.reader.specs.Grammar.{Writes}

-- a formula is read exactly when the text writes it
abbrev pub ReadingIsWriting : Type 0
ReadingIsWriting = (t : List ℕ) (q : Qbf) → (reads t ≡ Ok q) ↔ Writes t q

-- a text of more than 65,536 bytes is refused before anything else
abbrev pub LongTextsRefused : Type 0
LongTextsRefused = (t : List ℕ) → 65536 < length t → reads t ≡ Err (Word TooLong)
