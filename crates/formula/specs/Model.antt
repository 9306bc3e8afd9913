-- The quantified Boolean formula that the arrays stand for.
use Rattle.std.specs.Prelude.{ℕ, zero, suc, ◌+◌, List, [], ◌∷◌, length, ℤ, slice_index_or}
use Rattle.formula.specs.Lists.{each, from}
use Rattle.formula.specs.Game.{Qbf}
use Rattle.formula.specs.Found.{variables_of}
use Rattle.formula.specs.Built.{Built, built}
use Rattle.formula.specs.declared.parts.Parts.{Parts}

-- level m has the variables that are bound to it, ascending
abbrev pub qbf_of : Built → Qbf
qbf_of b = record {
  variables = b.variables;
  first = b.first;
  levels = each (variables_of b.variables b.bound) (from 1 b.levels);
  clauses = b.clauses;
}

abbrev pub qbf : Parts → Qbf
qbf p = qbf_of (built p)

-- the variables of level m, counted from 1; no level 0
abbrev pub level_at : Qbf → ℕ → List ℕ
level_at q zero = []
level_at q (suc m) = slice_index_or q.levels m []

-- clause i, counted from 1
abbrev pub clause_at : Qbf → ℕ → List ℤ
clause_at q zero = []
clause_at q (suc i) = slice_index_or q.clauses i []

-- the bound variables of all levels
abbrev pub bound_in : List (List ℕ) → ℕ
bound_in [] = 0
bound_in (vs ∷ r) = length vs + bound_in r
