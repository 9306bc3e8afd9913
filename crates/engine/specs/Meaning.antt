-- Questions to an engine, and which answers and refusals are right. Assumes nothing.
use Rattle.std.specs.Prelude.{◌≡◌, ℕ, zero, suc, ◌<◌, ◌≤◌, Bool, true, cond, List, [], ◌∷◌, ◌++◌, length, drop, ℤ, pos, negsuc, Ok, Err, Result}
use Rattle.std.specs.List.{AllByRecursion}
use Rattle.pool.specs.Records.{records, Literal, Sound}
use Rattle.engine.specs.declared.question.Answer.{Answer}
use Rattle.engine.specs.declared.question.Answer.TheVariants.{Yes, No}
use Rattle.engine.specs.declared.question.Refusal.{Refusal}
use Rattle.engine.specs.declared.question.Refusal.TheVariants.{TooManySignals, ShortSlice, UnsoundQuestion}
use Rattle.engine.specs.Truth.{each, chain}

pub record Asked : Type 0 where
  pub signals : ℕ
  pub words : List ℤ
  pub in_use : ℕ
  pub first : ℕ
  pub assumed : List ℤ

-- the records of the chain that is asked about
abbrev pub clauses : Asked → List (List ℤ)
clauses q = records q.words q.first

-- the chain is sound, and the assumptions name signals and are no more than these
pub record Proper (q : Asked) : Type 0 where
  pub sound : Sound q.signals q.words q.in_use q.first
  pub literals : AllByRecursion (Literal q.signals) q.assumed
  pub few : length q.assumed ≤ q.signals

-- an assignment makes every record and every number of a list true
abbrev pub Meets : List (List ℤ) → List ℤ → (ℕ → Bool) → Type 0
Meets records named a = (chain a records ≡ true) × (each a named ≡ true)

-- no assignment does
abbrev pub Clash : List (List ℤ) → List ℤ → Type 0
Clash records named = (a : ℕ → Bool) → Meets records named a → ⊥

-- the value of the signal after k: its number, or the opposite
abbrev pub value_after : (ℕ → Bool) → ℕ → ℤ
value_after a k = cond (a (suc k)) (pos (suc k)) (negsuc k)

-- the signed values of the signals 1 to s
abbrev pub values : (ℕ → Bool) → ℕ → List ℤ
values a zero = []
values a (suc k) = values a k ++ (value_after a k ∷ [])

-- some elements of a list, in its order
pub data Part : List ℤ → List ℤ → Type 0 where
  none : Part [] []
  keep : {x : ℤ} {xs ys : List ℤ} → Part xs ys → Part (x ∷ xs) (x ∷ ys)
  leave : {x : ℤ} {xs ys : List ℤ} → Part xs ys → Part xs (x ∷ ys)

-- an engine takes up to m signals, and the caller has room for so many words
pub record Taken (m : ℕ) (q : Asked) (room : ℕ) : Type 0 where
  pub small : q.signals ≤ m
  pub fits : q.signals ≤ room
  pub proper : Proper q

abbrev pub Refused : ℕ → Asked → ℕ → Refusal → Type 0
Refused m q room TooManySignals = m < q.signals
Refused m q room ShortSlice = (q.signals ≤ m) × (room < q.signals)
Refused m q room UnsoundQuestion = (q.signals ≤ m) × (q.signals ≤ room) × (Proper q → ⊥)

-- 'yes' writes an assignment that meets the question; 'no' writes assumptions that clash; the words behind stay
abbrev pub Given : Asked → List ℤ → List ℤ → Answer → Type 0
Given q before after Yes = (a : ℕ → Bool) × Meets (clauses q) q.assumed a × (after ≡ values a q.signals ++ drop q.signals before)
Given q before after (No c) = (named : List ℤ) × (length named ≡ c) × Part named q.assumed × Clash (clauses q) named × (after ≡ named ++ drop c before)

-- what an engine that takes up to m signals makes of a question and of the words before
abbrev pub Answered : ℕ → Asked → List ℤ → List ℤ → Result Answer Refusal → Type 0
Answered m q before after (Ok a) = Taken m q (length before) × Given q before after a
Answered m q before after (Err e) = Refused m q (length before) e × (after ≡ before)
