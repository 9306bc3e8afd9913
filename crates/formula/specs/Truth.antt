-- The truth of a quantified Boolean formula.
use Rattle.std.specs.Prelude.{ℕ, Bool, ◌&&◌, ◌||◌, List, [], ◌∷◌, ◌++◌, length, ℤ, pos, neg_ℤ}
use Rattle.formula.specs.Lists.{all, each, below}
use Rattle.formula.specs.Game.{other, Clauses, Qbf, hits}
use Rattle.formula.specs.declared.side.Side.{Side}
use Rattle.formula.specs.declared.side.Side.TheVariants.{Ours, Device}

-- a quantified variable: there is (ours), or for all (the device's)
pub record Quantified : Type 0 where
  pub side : Side
  pub variable : ℕ

-- the quantified variables of the levels, outermost first, when level 1 is of side σ
abbrev pub prefix : Side → List (List ℕ) → List Quantified
prefix σ [] = []
prefix σ (level ∷ r) = each (λ v. record { side = σ; variable = v }) level ++ prefix (other σ) r

-- the truths at the two values of a variable, joined
abbrev pub join : Side → Bool → Bool → Bool
join Ours a b = a || b
join Device a b = a && b

-- the truth when the literals `chosen` are true and the variables vs remain: with none left, each clause must have a chosen literal
abbrev pub truth_from : Clauses → List Quantified → List ℤ → Bool
truth_from C [] chosen = all (hits C chosen) (below (length C))
truth_from C (v ∷ vs) chosen = join v.side (truth_from C vs (pos v.variable ∷ chosen)) (truth_from C vs (neg_ℤ (pos v.variable) ∷ chosen))

abbrev pub truth : Qbf → Bool
truth q = truth_from q.clauses (prefix q.first q.levels) []
