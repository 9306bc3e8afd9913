-- What the meaning of an answer says of any two engines. Assumes nothing.
use Rattle.std.specs.Prelude.{ℕ, List, ℤ, Ok}
use Rattle.engine.specs.declared.question.Answer.TheVariants.{Yes, No}
use Rattle.engine.specs.Meaning.{Asked, Answered}

-- where one engine says 'yes', no engine says 'no'
abbrev pub Apart : Type 0
Apart = (m n : ℕ) (q : Asked) (before after before' after' : List ℤ) (k : ℕ) → Answered m q before after (Ok Yes) → Answered n q before' after' (Ok (No k)) → ⊥
