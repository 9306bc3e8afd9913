-- Tests and types over lists. A test is a Bool, and `T b` says that it passes.
use Rattle.std.specs.Prelude.{◌≡◌, ℕ, zero, suc, ◌+◌, Bool, false, cond, ◌||◌, ◌⊎◌, List, [], ◌∷◌, map, ◌==◌}
use Rattle.std.specs.List.{list_all, list_any, filter, AllByRecursion}
use Rattle.std.proofs.Math.Option.{Option, none, some}

module _ {A : Type 0} where
  -- p passes at each element; at some element
  abbrev pub all : (A → Bool) → List A → Bool
  all p xs = list_all p xs

  abbrev pub any : (A → Bool) → List A → Bool
  any p xs = list_any p xs

  -- the elements that pass, in their order
  abbrev pub keep : (A → Bool) → List A → List A
  keep p xs = filter p xs

  -- how many elements pass
  abbrev pub count : (A → Bool) → List A → ℕ
  count p [] = 0
  count p (x ∷ xs) = cond (p x) 1 0 + count p xs

  -- the first element that passes
  abbrev pub find : (A → Bool) → List A → Option A
  find p [] = none
  find p (x ∷ xs) = cond (p x) (some x) (find p xs)

  -- x is an element
  abbrev pub In : A → List A → Type 0
  In x [] = ⊥
  In x (y ∷ ys) = (x ≡ y) ⊎ In x ys

  -- P holds of each element; of some element
  abbrev pub All : (A → Type 0) → List A → Type 0
  All P xs = AllByRecursion P xs

  abbrev pub Any : (A → Type 0) → List A → Type 0
  Any P [] = ⊥
  Any P (x ∷ xs) = P x ⊎ Any P xs

abbrev pub each : {A B : Type 0} → (A → B) → List A → List B
each f xs = map f xs

-- a set of clauses is a list of their numbers
abbrev pub elem : ℕ → List ℕ → Bool
elem i [] = false
elem i (j ∷ js) = i == j || elem i js

-- n numbers from i on; the numbers below n
abbrev pub from : ℕ → ℕ → List ℕ
from i zero = []
from i (suc n) = i ∷ from (suc i) n

abbrev pub below : ℕ → List ℕ
below n = from 0 n
