-- Clauses are taken exactly when each literal's variable is bound and there are at most 4,096 literals.
use Rattle.std.proofs.Common.{◌≡◌, ℕ, suc, ◌+◌, ◌<◌, ◌≤◌, Bool, true, false, cond, eqb, ltb, leb, List, [], ◌∷◌, ◌++◌, length, get_or, ℤ, nat_abs, Ok, Err, sym, refl, ap, ◌∙◌, subst, ap₂, append_assoc, append-nil, add-zero, arith}
use Rattle.std.proofs.lemmas.Bool.{cond-false, eqb-false, ltb-false, leb-false, ne_eqb, le-ltb, lt-leb}
use Rattle.formula.specs.Lists.{All}
use Rattle.formula.specs.Game.{Clauses}
use Rattle.formula.specs.Proper.{literals_of}
use Rattle.formula.specs.Built.{Built, adding, add_to, closed}
use Rattle.reader.specs.Taking.{Adds, TakesClauses}
use Rattle.reader.proofs.Traced.{no_fault}

-- a literal of a bound variable
abbrev pub OfBound : Built → ℤ → Type 0
OfBound b l = (nat_abs l ≤ b.variables) × (0 < get_or b.bound (nat_abs l) 0)

abbrev pub adds_to : List ℤ → Built → Built
adds_to ls b = record { variables = b.variables; first = b.first; levels = b.levels; bound = b.bound; clauses = b.clauses; pending = b.pending ++ ls; literals = b.literals + length ls }

abbrev pub clauses_to : Clauses → Built → Built
clauses_to cs b = record { variables = b.variables; first = b.first; levels = b.levels; bound = b.bound; clauses = b.clauses ++ cs; pending = b.pending; literals = b.literals + literals_of cs }

-- the built formula with other clauses, pending literals and count
abbrev with_lists : Built → Clauses → List ℤ → ℕ → Built
with_lists b cs ps n = record { variables = b.variables; first = b.first; levels = b.levels; bound = b.bound; clauses = cs; pending = ps; literals = n }

three_passed : {A E : Type 0} (x y z : Bool) (d e f : E) (a : A) → cond x (Err d) (cond y (Err e) (cond z (Err f) (Ok a))) ≡ Ok a → (x ≡ false) × (y ≡ false) × (z ≡ false)
three_passed true y z d e f a h = absurd (no_fault d a h)
three_passed false true z d e f a h = absurd (no_fault e a h)
three_passed false false true d e f a h = absurd (no_fault f a h)
three_passed false false false d e f a h = (refl, refl, refl)

added : (l : ℤ) (b : Built) → adding l b ≡ Ok (add_to l b) → OfBound b l × (b.literals < 4096)
added l b e =
    let p = three_passed (ltb b.variables (nat_abs l)) (eqb (get_or b.bound (nat_abs l) 0) 0) (leb 4096 b.literals) _ _ _ (add_to l b) e in
    let z = eqb-false (get_or b.bound (nat_abs l) 0) 0 p.1 in
    ((ltb-false b.variables (nat_abs l) p.0, omega arith), leb-false 4096 b.literals p.2)

adds_one : (l : ℤ) (b : Built) → OfBound b l → b.literals < 4096 → adding l b ≡ Ok (add_to l b)
adds_one l b (high, some) few =
    cond-false _ _ _ (le-ltb b.variables (nat_abs l) high) ∙ cond-false _ _ _ (ne_eqb (get_or b.bound (nat_abs l) 0) 0 (λ e. omega arith)) ∙ cond-false _ _ _ (lt-leb 4096 b.literals few)

-- one literal and then others
more_adds : (l : ℤ) (ls : List ℤ) (b : Built) → adds_to ls (add_to l b) ≡ adds_to (l ∷ ls) b
more_adds l ls b = let e : b.literals + 1 + length ls ≡ b.literals + suc (length ls) = omega arith in ap₂ (with_lists b b.clauses) (append_assoc b.pending (l ∷ []) ls) e

no_adds : (b : Built) → b ≡ adds_to [] b
no_adds b = ap₂ (with_lists b b.clauses) (sym (append-nil b.pending)) (sym (add-zero b.literals))

adds_is : (ls : List ℤ) (b b' : Built) → Adds ls b b' → (adds_to ls b ≡ b') × All (OfBound b) ls × (b.literals ≤ 4096 → b.literals + length ls ≤ 4096)
adds_is [] b b' e = (sym (no_adds b) ∙ e, tt, λ h. omega arith)
adds_is (l ∷ ls) b b' (one, more) =
    let a = added l b one in
    let r = adds_is ls (add_to l b) b' more in
    (sym (more_adds l ls b) ∙ r.0, (a.0, r.1), λ h. omega (arith, r.2 (omega (arith, a.1))))

adds : (ls : List ℤ) (b : Built) → All (OfBound b) ls → b.literals + length ls ≤ 4096 → Adds ls b (adds_to ls b)
adds [] b a few = no_adds b
adds (l ∷ ls) b (here, more) few = (adds_one l b here (omega arith), subst (Adds ls (add_to l b)) (more_adds l ls b) (adds ls (add_to l b) more (omega arith)))

-- one clause and then others
one_clause : (c : List ℤ) (cs : Clauses) (b : Built) → b.pending ≡ [] → clauses_to cs (closed (adds_to c b)) ≡ clauses_to (c ∷ cs) b
one_clause c cs b none =
    let e : b.literals + length c + literals_of cs ≡ b.literals + (length c + literals_of cs) = omega arith in
    ap (λ p. with_lists b (b.clauses ++ p ∷ [] ++ cs) [] (b.literals + length c + literals_of cs)) (ap (λ p. p ++ c) none)
    ∙ ap₂ (λ x n. with_lists b x [] n) (append_assoc b.clauses (c ∷ []) cs) e
    ∙ ap (λ p. with_lists b (b.clauses ++ (c ∷ cs)) p (b.literals + (length c + literals_of cs))) (sym none)

no_clauses : (b : Built) → b ≡ clauses_to [] b
no_clauses b = ap₂ (λ x n. with_lists b x b.pending n) (sym (append-nil b.clauses)) (sym (add-zero b.literals))

pub clauses_taken : (cs : Clauses) (b b' : Built) → b.pending ≡ [] → TakesClauses cs b b' → (clauses_to cs b ≡ b') × All (λ c. All (OfBound b) c) cs × (b.literals ≤ 4096 → b.literals + literals_of cs ≤ 4096)
clauses_taken [] b b' none e = (sym (no_clauses b) ∙ e, tt, λ h. omega arith)
clauses_taken (c ∷ cs) b b' none (mid, one, more) =
    let a = adds_is c b mid one in
    let rest : TakesClauses cs (closed (adds_to c b)) b' = subst (λ m. TakesClauses cs (closed m) b') (sym a.0) more in
    let r = clauses_taken cs (closed (adds_to c b)) b' refl rest in
    (sym (one_clause c cs b none) ∙ r.0, (a.1, r.1), λ h. omega (arith, r.2 (a.2 h)))

pub takes_clauses : (cs : Clauses) (b : Built) → b.pending ≡ [] → All (λ c. All (OfBound b) c) cs → b.literals + literals_of cs ≤ 4096 → TakesClauses cs b (clauses_to cs b)
takes_clauses [] b none a few = no_clauses b
takes_clauses (c ∷ cs) b none (here, more) few =
    (adds_to c b, adds c b here (omega arith), subst (TakesClauses cs (closed (adds_to c b))) (one_clause c cs b none) (takes_clauses cs (closed (adds_to c b)) refl more (omega arith)))
