-- What a chain that is being read still has. Assumes nothing.
use Rattle.std.specs.Prelude.{ℕ, Bool, List, ℤ}
use Rattle.pool.specs.declared.chain.Chain.{Chain}
use Rattle.pool.specs.Records.{records}

-- the records from where it stands on
abbrev pub records_of : Chain → List (List ℤ)
records_of c = records c.words.now c.at

-- how many signals they may name
abbrev pub signals_of : Chain → ℕ
signals_of c = c.signals

-- whether the chain that it was made from is sound
abbrev pub sound_of : Chain → Bool
sound_of c = c.whole
