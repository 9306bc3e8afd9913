-- Lists of assumptions from which none can be dropped. Assumes nothing.
use Rattle.std.specs.Prelude.{ℕ, zero, suc, ◌<◌, List, [], ◌∷◌, take, ℤ, Ok, Err, Result}
use Rattle.engine.specs.declared.question.Answer.{Answer}
use Rattle.engine.specs.declared.question.Answer.TheVariants.{Yes, No}
use Rattle.engine.specs.declared.question.Refusal.{Refusal}
use Rattle.engine.specs.Meaning.{Asked, clauses, Clash}

-- a question with other assumptions
abbrev pub assuming : Asked → List ℤ → Asked
assuming q named = record { signals = q.signals; words = q.words; in_use = q.in_use; first = q.first; assumed = named }

-- a list but for the element at an index
abbrev pub without : List ℤ → ℕ → List ℤ
without [] i = []
without (x ∷ xs) zero = xs
without (x ∷ xs) (suc i) = x ∷ without xs i

-- none of the first n can be dropped: without any one of them the rest can be true together with the records
abbrev pub Needed : List (List ℤ) → List ℤ → ℕ → Type 0
Needed records named n = (k : ℕ) → k < n → Clash records (without named k) → ⊥

-- a 'no' names assumptions of which none can be dropped
abbrev pub Trimmed : Asked → List ℤ → Result Answer Refusal → Type 0
Trimmed q after (Ok Yes) = Unit {0}
Trimmed q after (Ok (No c)) = Needed (clauses q) (take c after) c
Trimmed q after (Err e) = Unit {0}
