-- What a game needs of a formula that was read: its clauses are short, its variables declared.
use Rattle.std.proofs.Common.{◌≡◌, ℕ, zero, suc, ◌+◌, ◌<◌, ◌≤◌, true, ◌||◌, List, [], ◌∷◌, length, get_or, ℤ, sym, ap, ◌∙◌, ⊎_elim, add-one, arith}
use Rattle.std.proofs.lemmas.Bool.{cases_eq, ne_eqb, false≢true}
use Rattle.formula.specs.Lists.{All, elem}
use Rattle.formula.specs.Model.{qbf, clause_at, level_at}
use Rattle.formula.specs.Proper.{literals_of, Ascending}
use Rattle.formula.specs.declared.formula.Formula.{Formula}
use Rattle.formula.proofs.ProperFormula.{proper}

one_clause : (C : List (List ℤ)) (i : ℕ) → length (get_or C i []) ≤ literals_of C
one_clause [] i = omega arith
one_clause (c ∷ C) zero = omega arith
one_clause (c ∷ C) (suc i) = let more = one_clause C i in omega arith

-- the numbers of an ascending list lie between its bounds
pub ascending_bounds : (low top v : ℕ) (vs : List ℕ) → Ascending low top vs → elem v vs ≡ true → (low < v) × (v ≤ top)
ascending_bounds low top v [] a e = absurd (false≢true e)
ascending_bounds low top v (u ∷ vs) a e =
    ⊎_elim
    (λ s. let l = a.0 in let h = a.1 in (omega arith, omega arith))
    (λ n. let b = ascending_bounds u top v vs a.2 (sym (ap (λ t. t || elem v vs) (ne_eqb v u n)) ∙ e) in let l = a.0 in (omega (arith, b.0), b.1))
    (cases_eq v u)

ascending_at : (low top v : ℕ) (levels : List (List ℕ)) (m : ℕ) → All (Ascending low top) levels → elem v (get_or levels m []) ≡ true → (low < v) × (v ≤ top)
ascending_at low top v [] m a e = absurd (false≢true e)
ascending_at low top v (vs ∷ r) zero a e = ascending_bounds low top v vs a.0 e
ascending_at low top v (vs ∷ r) (suc m) a e = ascending_at low top v r m a.1 e

module _ (f : Formula) where
  -- a clause has at most 4,096 literals
  pub few_in_clause : (i : ℕ) (xs : List ℤ) → xs ≡ clause_at (qbf f.parts) (i + 1) → length xs ≤ 4096
  few_in_clause i xs is =
      let few = (proper f).few_literals in
      let here = one_clause (qbf f.parts).clauses i in
      let same = ap length (is ∙ ap (clause_at (qbf f.parts)) (add-one i)) in
      omega arith

  -- the variables of a level are declared
  pub level_bounds : (m v : ℕ) → elem v (level_at (qbf f.parts) m) ≡ true → (0 < v) × (v ≤ 256)
  level_bounds zero v e = absurd (false≢true e)
  level_bounds (suc m) v e =
      let b = ascending_at 0 f.parts.variables v (qbf f.parts).levels m (proper f).ascending e in
      let few = f.limits.0 in
      (b.0, omega (arith, b.1))
