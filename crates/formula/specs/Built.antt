-- A formula while it is built: what has been declared, bound and written so far, and what each call adds or refuses.
use Rattle.std.specs.Prelude.{ℕ, ◌+◌, ◌-◌, Bool, cond, not, ◌&&◌, ◌||◌, List, [], ◌∷◌, ◌++◌, length, take, drop, replicate, ℤ, Some, None, Ok, Err, Option, Result, ◌==◌, nat_le, nat_lt, slice_index, slice_set, unsigned_abs}
use Rattle.formula.specs.declared.side.Side.{Side}
use Rattle.formula.specs.declared.side.Side.TheVariants.{Ours}
use Rattle.formula.specs.declared.parts.Parts.{Parts}
use Rattle.formula.specs.declared.faults.LevelFault.{LevelFault}
use Rattle.formula.specs.declared.faults.LevelFault.TheVariants.{MayNotFollow}
use Rattle.formula.specs.declared.faults.BindFault.{BindFault}
use Rattle.formula.specs.declared.faults.BindFault.TheVariants.{NoVariable, BoundTwice}
use Rattle.formula.specs.declared.faults.LiteralFault.{LiteralFault}
use Rattle.formula.specs.declared.faults.LiteralFault.TheVariants.{OutOfRange, Unbound, TooMany}
use Rattle.formula.specs.declared.faults.ClauseFault.{ClauseFault}
use Rattle.formula.specs.declared.faults.ClauseFault.TheVariants.{TooMany as TooManyClauses}
use Rattle.formula.specs.Lists.{each, below}
use Rattle.formula.specs.Found.{variables_of}
use Rattle.formula.specs.Sides.{side_at, same_side}

pub record Built : Type 0 where
  -- declared variables
  pub variables : ℕ
  -- the side of level 1, and how many levels there are
  pub first : Side
  pub levels : ℕ
  -- the level of each variable, 0 while it is unbound
  pub bound : List ℕ
  -- the whole clauses, and the literals of the clause that is not whole yet
  pub clauses : List (List ℤ)
  pub pending : List ℤ
  -- the literals of them all
  pub literals : ℕ

-- what lies in the arrays
abbrev pub clause_in : List ℤ → List ℕ → ℕ → List ℤ
clause_in literals ends i = take (slice_index ends (i + 1) - slice_index ends i) (drop (slice_index ends i) literals)

abbrev pub built : Parts → Built
built p = record {
  variables = p.variables;
  first = p.first;
  levels = p.levels;
  bound = p.bound;
  clauses = each (clause_in p.literals p.ends) (below p.clauses);
  pending = take (p.count - slice_index p.ends p.clauses) (drop (slice_index p.ends p.clauses) p.literals);
  literals = p.count;
}

-- nothing but n declared variables
abbrev pub blank : ℕ → Built
blank n = record { variables = n; first = Ours; levels = 0; bound = replicate 257 0; clauses = []; pending = []; literals = 0 }

-- the present level binds nothing
abbrev pub empty_level : Built → Bool
empty_level b = length (variables_of b.variables b.bound b.levels) == 0

-- the side of the present level, if there is one
abbrev pub last_side : Built → Option Side
last_side b = cond (b.levels == 0) None (Some (side_at b.first b.levels))

-- a level may follow a level of the other side that binds something; there are at most 32
abbrev pub may_start : Side → Built → Bool
may_start σ b = b.levels == 0 || nat_lt b.levels 32 && not (same_side σ (side_at b.first b.levels)) && not (empty_level b)

-- a level of the side σ more
abbrev pub started : Side → Built → Built
started σ b = record { variables = b.variables; first = cond (b.levels == 0) σ b.first; levels = b.levels + 1; bound = b.bound; clauses = b.clauses; pending = b.pending; literals = b.literals }

abbrev pub starting : Side → Built → Result Built LevelFault
starting σ b = cond (may_start σ b) (Ok (started σ b)) (Err MayNotFollow)

-- the variable v bound at the present level
abbrev pub bind_to : ℕ → Built → Built
bind_to v b = record { variables = b.variables; first = b.first; levels = b.levels; bound = slice_set b.bound v b.levels; clauses = b.clauses; pending = b.pending; literals = b.literals }

abbrev pub binding : ℕ → Built → Result Built BindFault
binding v b =
    cond (b.levels == 0 || v == 0 || nat_lt b.variables v) (Err NoVariable)
    (cond (nat_lt 0 (slice_index b.bound v)) (Err BoundTwice) (Ok (bind_to v b)))

-- the literal l at the end of the clause that is not whole yet
abbrev pub add_to : ℤ → Built → Built
add_to l b = record { variables = b.variables; first = b.first; levels = b.levels; bound = b.bound; clauses = b.clauses; pending = b.pending ++ l ∷ []; literals = b.literals + 1 }

abbrev pub adding : ℤ → Built → Result Built LiteralFault
adding l b =
    cond (nat_lt b.variables (unsigned_abs l)) (Err OutOfRange)
    (cond (slice_index b.bound (unsigned_abs l) == 0) (Err Unbound)
    (cond (nat_le 4096 b.literals) (Err TooMany) (Ok (add_to l b))))

-- the clause is whole
abbrev pub closed : Built → Built
closed b = record { variables = b.variables; first = b.first; levels = b.levels; bound = b.bound; clauses = b.clauses ++ b.pending ∷ []; pending = []; literals = b.literals }

-- there are at most 512 clauses
abbrev pub ending : Built → Result Built ClauseFault
ending b = cond (nat_lt (length b.clauses) 512) (Ok (closed b)) (Err TooManyClauses)

-- what a call returns, and what it leaves: a refusal changes nothing
abbrev pub outcome : {E : Type 0} → Result Built E → Result (Unit {0}) E
outcome (Ok b) = Ok tt
outcome (Err e) = Err e

abbrev pub leaves : {E : Type 0} → Built → Result Built E → Built
leaves b (Ok c) = c
leaves b (Err e) = b

-- the present level is ours and binds something, or there is no level
abbrev pub ends_well : Built → Bool
ends_well b = b.levels == 0 || same_side (side_at b.first b.levels) Ours && not (empty_level b)

-- the formula is whole when, besides, no clause is begun
abbrev pub may_finish : Built → Bool
may_finish b = length b.pending == 0 && ends_well b
