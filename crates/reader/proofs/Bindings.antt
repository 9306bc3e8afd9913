-- Variables that may be bound one after another: declared, not bound before, and no two the same.
use Rattle.std.proofs.Common.{◌≡◌, ℕ, ◌<◌, ◌≤◌, Bool, true, false, cond, not, ◌||◌, T, eqb, ltb, ◌≢◌, List, [], ◌∷◌, ◌++◌, length, get_or, set, Ok, Err, sym, refl, ap, ◌∙◌, subst, arith, length-set}
use Rattle.std.proofs.lemmas.List.{get_or-set_same, get_or-set_other}
use Rattle.std.proofs.lemmas.Bool.{cond-false, eqb-false, ltb-false, ne_eqb, le-ltb, or_parts, or_from}
use Rattle.formula.specs.Lists.{elem, All}
use Rattle.formula.specs.Built.{Built, binding, bind_to}
use Rattle.formula.proofs.Tests.{nor, nor_l, nor_r, is_false}
use Rattle.reader.specs.Grammar.{Distinct}
use Rattle.reader.specs.Taking.{Binds}
use Rattle.reader.proofs.Traced.{no_fault}

abbrev pub Bindable : ℕ → List ℕ → ℕ → Type 0
Bindable n bd v = (0 < v) × (v ≤ n) × (get_or bd v 0 ≡ 0)

abbrev pub Free : ℕ → List ℕ → List ℕ → Type 0
Free n bd [] = Unit {0}
Free n bd (v ∷ vs) = Bindable n bd v × T (not (elem v vs)) × Free n bd vs

-- all of vs bound at level m
abbrev pub set_all : List ℕ → ℕ → List ℕ → List ℕ
set_all [] m bd = bd
set_all (v ∷ vs) m bd = set_all vs m (set bd v m)

pub length_set_all : (vs : List ℕ) (m : ℕ) (bd : List ℕ) → length (set_all vs m bd) ≡ length bd
length_set_all [] m bd = refl
length_set_all (v ∷ vs) m bd = length_set_all vs m (set bd v m) ∙ length-set bd v m

-- v and u differ
apart : (v u : ℕ) → T (not (eqb v u)) → u ≢ v
apart v u h e = eqb-false v u (is_false (eqb v u) h) (sym e)

not_same : (v u : ℕ) → u ≢ v → T (not (eqb v u))
not_same v u h = subst (λ b. T (not b)) (sym (ne_eqb v u (λ e. h (sym e)))) tt

module _ (n m : ℕ) (some : 0 < m) where
  -- binding v first leaves the others free, and v is none of them
  pub free_after : (v : ℕ) (bd vs : List ℕ) → v < length bd → Free n (set bd v m) vs → Free n bd vs × T (not (elem v vs))
  free_after v bd [] h f = (tt, tt)
  free_after v bd (u ∷ us) h ((low, high, zero-there), new, more) =
      let rest = free_after v bd us h more in
      let differ : u ≢ v = λ e. let z : m ≡ 0 = sym (get_or-set_same bd v m 0 h) ∙ ap (λ x. get_or (set bd v m) x 0) (sym e) ∙ zero-there in omega arith in
      (((low, high, sym (get_or-set_other bd v u m 0 differ) ∙ zero-there), new, rest.0), nor (eqb v u) (elem v us) (not_same v u differ) rest.1)

  pub free_before : (v : ℕ) (bd vs : List ℕ) → Free n bd vs → T (not (elem v vs)) → Free n (set bd v m) vs
  free_before v bd [] f h = tt
  free_before v bd (u ∷ us) ((low, high, zero-there), new, more) h =
      ((low, high, get_or-set_other bd v u m 0 (apart v u (nor_l (eqb v u) (elem v us) h)) ∙ zero-there), new, free_before v bd us more (nor_r (eqb v u) (elem v us) h))

  -- two lists one after the other
  pub free_join : (bd xs ys : List ℕ) → n < length bd → Free n bd xs → Free n (set_all xs m bd) ys → Free n bd (xs ++ ys)
  free_join bd [] ys h f g = g
  free_join bd (v ∷ vs) ys h (ok, new, more) g =
      let l : n < length (set bd v m) = omega (arith, length-set bd v m) in
      let r = free_after v bd (vs ++ ys) (omega (arith, ok.1)) (free_join (set bd v m) vs ys l (free_before v bd vs more new) g) in
      (ok, r.1, r.0)

  pub free_split : (bd xs ys : List ℕ) → n < length bd → Free n bd (xs ++ ys) → Free n bd xs × Free n (set_all xs m bd) ys
  free_split bd [] ys h f = (tt, f)
  free_split bd (v ∷ vs) ys h (ok, new, more) =
      let l : n < length (set bd v m) = omega (arith, length-set bd v m) in
      let r = free_split (set bd v m) vs ys l (free_before v bd (vs ++ ys) more new) in
      let s = free_after v bd vs (omega (arith, ok.1)) r.0 in
      ((ok, s.1, s.0), r.1)

-- the built formula with all of vs bound
abbrev pub binds_to : List ℕ → Built → Built
binds_to vs b = record { variables = b.variables; first = b.first; levels = b.levels; bound = set_all vs b.levels b.bound; clauses = b.clauses; pending = b.pending; literals = b.literals }

two_passed : {A E : Type 0} (x y : Bool) (d e : E) (a : A) → cond x (Err d) (cond y (Err e) (Ok a)) ≡ Ok a → (x ≡ false) × (y ≡ false)
two_passed true y d e a h = absurd (no_fault d a h)
two_passed false true d e a h = absurd (no_fault e a h)
two_passed false false d e a h = (refl, refl)

bindable : (v : ℕ) (b : Built) → binding v b ≡ Ok (bind_to v b) → Bindable b.variables b.bound v
bindable v b e =
    let p = two_passed (eqb b.levels 0 || eqb v 0 || ltb b.variables v) (ltb 0 (get_or b.bound v 0)) _ _ (bind_to v b) e in
    let q = or_parts (eqb b.levels 0 || eqb v 0) (ltb b.variables v) p.0 in
    let z = eqb-false v 0 (or_parts (eqb b.levels 0) (eqb v 0) q.0).1 in
    let low : get_or b.bound v 0 ≤ 0 = ltb-false 0 (get_or b.bound v 0) p.1 in
    (omega arith, ltb-false b.variables v q.1, omega arith)

binds_one : (v : ℕ) (b : Built) → 0 < b.levels → Bindable b.variables b.bound v → binding v b ≡ Ok (bind_to v b)
binds_one v b some (low, high, free) =
    cond-false _ _ _ (or_from (eqb b.levels 0 || eqb v 0) (ltb b.variables v) (or_from (eqb b.levels 0) (eqb v 0) (ne_eqb b.levels 0 (λ e. omega arith)) (ne_eqb v 0 (λ e. omega arith))) (le-ltb b.variables v high))
    ∙ cond-false _ _ _ (le-ltb 0 (get_or b.bound v 0) (omega arith))

pub binds_free : (vs : List ℕ) (b b' : Built) → 0 < b.levels → b.variables < length b.bound → Binds vs b b' → Free b.variables b.bound vs × (binds_to vs b ≡ b')
binds_free [] b b' some room e = (tt, e)
binds_free (v ∷ vs) b b' some room (one, more) =
    let ok = bindable v b one in
    let rest = binds_free vs (bind_to v b) b' some (omega (arith, length-set b.bound v b.levels)) more in
    let r = free_after b.variables b.levels some v b.bound vs (omega (arith, ok.1)) rest.0 in
    ((ok, r.1, r.0), rest.1)

pub free_binds : (vs : List ℕ) (b : Built) → 0 < b.levels → Free b.variables b.bound vs → Binds vs b (binds_to vs b)
free_binds [] b some f = refl
free_binds (v ∷ vs) b some (ok, new, more) = (binds_one v b some ok, free_binds vs (bind_to v b) some (free_before b.variables b.levels some v b.bound vs more new))

-- what the grammar says of free variables
pub free_distinct : (n : ℕ) (bd vs : List ℕ) → Free n bd vs → All (λ v. (0 < v) × (v ≤ n)) vs × Distinct vs
free_distinct n bd [] f = (tt, tt)
free_distinct n bd (v ∷ vs) ((low, high, z), new, more) = let r = free_distinct n bd vs more in (((low, high), r.0), (new, r.1))

pub distinct_free : (n : ℕ) (bd vs : List ℕ) → ((v : ℕ) → get_or bd v 0 ≡ 0) → All (λ v. (0 < v) × (v ≤ n)) vs → Distinct vs → Free n bd vs
distinct_free n bd [] z a d = tt
distinct_free n bd (v ∷ vs) z (here, more) (new, rest) = ((here.0, here.1, z v), new, distinct_free n bd vs z more rest)
