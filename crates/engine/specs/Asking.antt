-- A question as it is handed in, and the number of a refusal. Assumes nothing.
use Rattle.std.specs.Prelude.{ℕ}
use Rattle.engine.specs.declared.question.Question.{Question}
use Rattle.engine.specs.declared.question.Refusal.{Refusal}
use Rattle.engine.specs.declared.question.Refusal.TheVariants.{TooManySignals, ShortSlice, UnsoundQuestion}
use Rattle.engine.specs.Meaning.{Asked}

abbrev pub asked : Question → Asked
asked q = record { signals = q.signals; words = q.pool.now; in_use = q.used; first = q.head; assumed = q.assumptions.now }

abbrev pub number_of : Refusal → ℕ
number_of TooManySignals = 34
number_of ShortSlice = 12
number_of UnsoundQuestion = 18
