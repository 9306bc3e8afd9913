-- When a literal is taken, and what the arrays then stand for.
use Rattle.std.proofs.Common.{◌≡◌, ◌+◌, ◌-◌, ◌<◌, ◌≤◌, false, leb, length, get_or, take, drop, set, ℤ, nat_abs, Ok, ap, ◌∙◌, ap₂}
use native.Mathlib.Nat.{sub_self}
use Rattle.std.proofs.lemmas.List.{get_or-set_same}
use Rattle.std.proofs.lemmas.Bool.{cond-false, ne_eqb, le-ltb}
use Rattle.formula.specs.declared.parts.Parts.{Parts}
use Rattle.formula.specs.Built.{Built, built, adding, add_to, closed}
use Rattle.formula.specs.Laid.{Ordered, Ends}
use Rattle.formula.proofs.Arrays.{clauses_same, clauses_push, part_push}

pub adding_ok : (l : ℤ) (b : Built) → nat_abs l ≤ b.variables → (get_or b.bound (nat_abs l) 0 ≡ 0 → ⊥) → leb 4096 b.literals ≡ false → adding l b ≡ Ok (add_to l b)
adding_ok l b in-range bound few = cond-false _ _ _ (le-ltb _ _ in-range) ∙ cond-false _ _ _ (ne_eqb _ _ bound) ∙ cond-false _ _ _ few

-- the arrays with the literal l written after the others
abbrev pub with_literal : ℤ → Parts → Parts
with_literal l p = record { variables = p.variables; first = p.first; levels = p.levels; bound = p.bound; clauses = p.clauses; ends = p.ends; count = p.count + 1; literals = set p.literals p.count l }

pub built_literal : (l : ℤ) (p : Parts) → Ordered p → Ends p → p.count < length p.literals → built (with_literal l p) ≡ add_to l (built p)
built_literal l p ordered ends room =
    ap₂ (λ cs ps. record { variables = p.variables; first = p.first; levels = p.levels; bound = p.bound; clauses = cs; pending = ps; literals = p.count + 1 })
    (clauses_same p.literals p.ends p.clauses p.count ordered ends.1 l)
    (part_push p.literals p.count l (get_or p.ends p.clauses 0) ends.1 room)

-- the arrays with the clause ended after the literals so far
abbrev pub with_clause : Parts → Parts
with_clause p = record { variables = p.variables; first = p.first; levels = p.levels; bound = p.bound; clauses = p.clauses + 1; ends = set p.ends (p.clauses + 1) p.count; count = p.count; literals = p.literals }

pub built_clause : (p : Parts) → Ordered p → Ends p → p.clauses + 1 < length p.ends → built (with_clause p) ≡ closed (built p)
built_clause p ordered ends room =
    let new : get_or (set p.ends (p.clauses + 1) p.count) (p.clauses + 1) 0 ≡ p.count = get_or-set_same p.ends (p.clauses + 1) p.count 0 room in
    ap₂ (λ cs ps. record { variables = p.variables; first = p.first; levels = p.levels; bound = p.bound; clauses = cs; pending = ps; literals = p.count })
    (clauses_push p.literals p.ends p.clauses p.count ordered ends.1 room)
    (ap (λ a. take (p.count - a) (drop a p.literals)) new ∙ ap (λ n. take n (drop p.count p.literals)) (sub_self p.count))
