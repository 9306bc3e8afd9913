-- A quantified Boolean formula, and the game of it: two sides choose the values of its variables, level by level.
use Rattle.std.specs.Prelude.{ℕ, suc, Bool, false, cond, ◌||◌, List, [], ◌∷◌, ◌++◌, length, ℤ, pos, negsuc, neg_ℤ, ◌==◌, slice_index_or}
use Rattle.formula.specs.Lists.{all, any, keep, In, each, below}
use Rattle.formula.specs.declared.side.Side.{Side}
use Rattle.formula.specs.declared.side.Side.TheVariants.{Ours, Device}

abbrev pub other : Side → Side
other Ours = Device
other Device = Ours

-- A literal is an integer: the variable v is `pos v`, its negation `neg_ℤ (pos v)`. A clause is a list of literals.
abbrev pub Clauses : Type 0
Clauses = List (List ℤ)

-- `variables` are declared; level 1 belongs to the side `first`, and the sides alternate; `levels` has the variables of each level, ascending.
-- For example: there is 1, for all 2, there is 3, such that (1 or 2 or not 3), .. has
-- record { variables = 3; first = Ours; levels = (1 ∷ []) ∷ (2 ∷ []) ∷ (3 ∷ []) ∷ []; clauses = (pos 1 ∷ pos 2 ∷ negsuc 2 ∷ []) ∷ .. }
pub record Qbf : Type 0 where
  pub variables : ℕ
  pub first : Side
  pub levels : List (List ℕ)
  pub clauses : Clauses

-- The values of a level: a literal for each of its variables, in the level's order.
-- The level of 1 and 2 has the choices 1 2, 1 -2, -1 2, -1 -2.
abbrev pub Values : Type 0
Values = List ℤ

abbrev pub choices : List ℕ → List Values
choices [] = [] ∷ []
choices (v ∷ vs) = each (λ x. pos v ∷ x) (choices vs) ++ each (λ x. neg_ℤ (pos v) ∷ x) (choices vs)

-- A play: the values of each level so far, level 1 first.
abbrev pub Play : Type 0
Play = List Values

-- π is a play of these levels: one of its choices for each
abbrev pub PlayOf : List (List ℕ) → Play → Type 0
PlayOf [] [] = Unit {0}
PlayOf [] (x ∷ π) = ⊥
PlayOf (vs ∷ r) [] = ⊥
PlayOf (vs ∷ r) (x ∷ π) = In x (choices vs) × PlayOf r π

-- two literals are the same; a literal is among these
abbrev pub same : ℤ → ℤ → Bool
same (pos m) (pos n) = m == n
same (pos m) (negsuc n) = false
same (negsuc m) (pos n) = false
same (negsuc m) (negsuc n) = m == n

abbrev pub has : ℤ → List ℤ → Bool
has l xs = any (same l) xs

-- Clause i, counted from 0, has a literal among the values x; among the values of some level of the play π.
abbrev pub hits : Clauses → Values → ℕ → Bool
hits C x i = any (λ l. has l x) (slice_index_or C i [])

abbrev pub hit : Clauses → Play → ℕ → Bool
hit C [] i = false
hit C (x ∷ π) i = hits C x i || hit C π i

-- the clauses with a true literal under the values x of a level, ascending, numbered from 1 as people count them
abbrev pub sat : Clauses → Values → List ℕ
sat C x = each (λ i. suc i) (keep (hits C x) (below (length C)))

-- Ours wins a complete play when every clause is hit, else the device does.
abbrev pub every_hit : Clauses → Play → Bool
every_hit C π = all (hit C π) (below (length C))

abbrev pub winner : Clauses → Play → Side
winner C π = cond (every_hit C π) Ours Device
