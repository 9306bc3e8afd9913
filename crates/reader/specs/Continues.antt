-- What a part of the reader has done: reading from where it began comes to what reading from where it stopped comes to, or it found the fault.
use Rattle.std.specs.Prelude.{◌≡◌, ℕ, List, Ok, Err, Result}
use Rattle.formula.specs.Built.{Built}
use Rattle.reader.specs.declared.faults.TextFault.{TextFault}
use Rattle.reader.specs.Words.{Word}
use Rattle.reader.specs.Text.{Place, reading}

-- from the place p with b built and the words ws left, to the place p' with b' and ws', in a text of n bytes, whatever the number of clauses
abbrev pub Goes : ℕ → Place → Built → List Word → Place → Built → List Word → Type 0
Goes n p b ws p' b' ws' = (k : ℕ) → reading k n p b ws ≡ reading k n p' b' ws'

abbrev pub Fails : ℕ → Place → Built → List Word → TextFault → Type 0
Fails n p b ws e = (k : ℕ) → reading k n p b ws ≡ Err e

-- a step that goes on at the place p, or its fault
abbrev pub Stepped : Place → Result (Place × Built) TextFault → Built → Result (Unit {0}) TextFault → Type 0
Stepped p s b (Ok u) = s ≡ Ok (p, b)
Stepped p s b (Err e) = s ≡ Err e
