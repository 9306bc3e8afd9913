-- Assignments in order: signal 1 leads, and false comes before true. Assumes nothing.
-- For example, of two signals the assignments in order are -1 -2, -1 2, 1 -2 and 1 2, numbered 0 to 3.
use Rattle.std.specs.Prelude.{◌≡◌, ℕ, zero, suc, ◌+◌, ◌-◌, ◌*◌, ◌/◌, ◌%◌, ◌^◌, ◌<◌, ◌≤◌, Bool, cond, List, ◌++◌, drop, ℤ, Some, None, Ok, Err, Option, Result, ◌==◌}
use Rattle.engine.specs.declared.question.Answer.{Answer}
use Rattle.engine.specs.declared.question.Answer.TheVariants.{Yes, No}
use Rattle.engine.specs.declared.question.Refusal.{Refusal}
use Rattle.engine.specs.Meaning.{Asked, clauses, Meets, values}

-- the number of an assignment of k signals, in binary with signal 1 in front
abbrev pub number : (ℕ → Bool) → ℕ → ℕ
number a zero = 0
number a (suc k) = 2 * number a k + cond (a (suc k)) 1 0

-- the assignment of s signals that has the number n
abbrev pub numbered : ℕ → ℕ → ℕ → Bool
numbered s n i = n / 2 ^ (s - i) % 2 == 1

-- the number of the first assignment of s signals that meets records and assumptions, if one does
abbrev pub Least : ℕ → List (List ℤ) → List ℤ → Option ℕ → Type 0
Least s records assumed (Some n) = (n < 2 ^ s) × Meets records assumed (numbered s n) × ((m : ℕ) → m < n → Meets records assumed (numbered s m) → ⊥)
Least s records assumed None = (m : ℕ) → m < 2 ^ s → Meets records assumed (numbered s m) → ⊥

-- 'yes' gives the first assignment that meets the question
abbrev pub First : Asked → List ℤ → List ℤ → Result Answer Refusal → Type 0
First q before after (Ok Yes) = (a : ℕ → Bool) × (after ≡ values a q.signals ++ drop q.signals before) × ((b : ℕ → Bool) → Meets (clauses q) q.assumed b → number a q.signals ≤ number b q.signals)
First q before after (Ok (No c)) = Unit {0}
First q before after (Err e) = Unit {0}

-- 'no' names all assumptions
abbrev pub AllNamed : Asked → List ℤ → List ℤ → Result Answer Refusal → Type 0
AllNamed q before after (Ok Yes) = Unit {0}
AllNamed q before after (Ok (No c)) = after ≡ q.assumed ++ drop c before
AllNamed q before after (Err e) = Unit {0}
