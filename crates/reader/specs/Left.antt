-- What a reader of words has still to give, and what a formula in arrays stands for.
use Rattle.std.specs.Prelude.{ℕ, List, length, Ok, Err, Result}
use Rattle.formula.specs.declared.draft.Draft.{Draft}
use Rattle.formula.specs.declared.formula.Formula.{Formula}
use Rattle.formula.specs.Game.{Qbf}
use Rattle.formula.specs.Built.{Built, built}
use Rattle.formula.specs.Model.{qbf}
use Rattle.reader.specs.declared.words.Words.{Words}
use Rattle.reader.specs.declared.faults.TextFault.{TextFault}
use Rattle.reader.specs.Words.{Word, left_at}

-- the words that are left, and the bytes of the whole text
abbrev pub left : Words → List Word
left w = left_at w.text.now w.at

abbrev pub size : Words → ℕ
size w = length w.text.now

abbrev pub drawn : Draft → Built
drawn d = built d.parts

-- the formula that a result holds, or its fault
abbrev pub formula_in : Result Formula TextFault → Result Qbf TextFault
formula_in (Ok f) = Ok (qbf f.parts)
formula_in (Err e) = Err e
