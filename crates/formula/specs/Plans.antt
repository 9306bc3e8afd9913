-- Plans of a side, and what it means that a plan wins.
use Rattle.std.specs.Prelude.{◌≡◌, ℕ, List, [], ◌∷◌, ◌++◌}
use Rattle.formula.specs.Lists.{In}
use Rattle.formula.specs.Game.{other, Qbf, Values, choices, Play, PlayOf, winner}
use Rattle.formula.specs.declared.side.Side.{Side}

-- the side that is next after these levels, or after a play of them
abbrev pub side_after : {A : Type 0} → Side → List A → Side
side_after σ [] = σ
side_after σ (x ∷ before) = side_after (other σ) before

-- A plan of the side w gives values at each level of w from the play of all levels before, whether or not that play follows the plan;
-- and they are values of that level.
pub record Plan (q : Qbf) (w : Side) : Type 0 where
  pub choose : Play → Values
  pub of_the_level : (before : List (List ℕ)) (level : List ℕ) (after : List (List ℕ)) (π : Play)
      → q.levels ≡ before ++ (level ∷ after) → side_after q.first before ≡ w → PlayOf before π
      → In (choose π) (choices level)

-- A play follows the plan of w when its values at each level of w are the plan's.
abbrev pub Follows : (q : Qbf) (w : Side) → Plan q w → Play → Type 0
Follows q w plan π =
    (before : Play) (x : Values) (after : Play) → π ≡ before ++ (x ∷ after) → side_after q.first before ≡ w → x ≡ plan.choose before

-- A plan of w wins when w wins every complete play that follows it.
abbrev pub Wins : (q : Qbf) (w : Side) → Plan q w → Type 0
Wins q w plan = (π : Play) → PlayOf q.levels π → Follows q w plan π → winner q.clauses π ≡ w

-- some plan of w wins
abbrev pub CanWin : Qbf → Side → Type 0
CanWin q w = (plan : Plan q w) × Wins q w plan
