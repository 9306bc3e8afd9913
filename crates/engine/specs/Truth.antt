-- What is true under an assignment, which gives each signal a value. Assumes nothing.
-- For example, where signal 1 is false and 2 is true, the record 1 -2 is false and the record 1 2 is true.
use Rattle.std.specs.Prelude.{ℕ, suc, Bool, true, false, not, ◌&&◌, ◌||◌, List, [], ◌∷◌, ℤ, pos, negsuc}

-- a signed signal
abbrev pub literal : (ℕ → Bool) → ℤ → Bool
literal a (pos n) = a n
literal a (negsuc n) = not (a (suc n))

-- a record holds where one of its numbers does
abbrev pub clause : (ℕ → Bool) → List ℤ → Bool
clause a [] = false
clause a (x ∷ xs) = literal a x || clause a xs

-- each number of a list holds
abbrev pub each : (ℕ → Bool) → List ℤ → Bool
each a [] = true
each a (x ∷ xs) = literal a x && each a xs

-- each record of a chain holds
abbrev pub chain : (ℕ → Bool) → List (List ℤ) → Bool
chain a [] = true
chain a (c ∷ cs) = clause a c && chain a cs
