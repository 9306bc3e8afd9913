-- What the arrays of a whole formula stand for is a proper formula.
use Rattle.std.proofs.Common.{◌≡◌, ℕ, zero, suc, ◌+◌, ◌-◌, ◌%◌, ◌<◌, ◌≤◌, min, Bool, true, T, List, [], ◌∷◌, ◌++◌, length, get_or, take, drop, ℤ, pos, nat_abs, sym, refl, ap, ◌∙◌, subst, inl, inr, ⊎_elim, add-one, arith}
use Rattle.std.proofs.lemmas.List.{length-take, get_or-take, get_or-drop}
use Rattle.std.proofs.lemmas.Bool.{cond-true, cond-false, cond_both, cases_eq, cases_lt, eq-eqb, ne_eqb}
use Rattle.formula.specs.declared.side.Side.{Side}
use Rattle.formula.specs.declared.side.Side.TheVariants.{Ours, Device}
use Rattle.formula.specs.declared.parts.Parts.{Parts}
use Rattle.formula.specs.declared.formula.Formula.{Formula}
use Rattle.formula.specs.Lists.{All, Any, each, keep, from, below, elem}
use Rattle.formula.specs.Game.{Clauses, other}
use Rattle.formula.specs.Sides.{side_at, same_side}
use Rattle.formula.specs.Found.{binds_at, variables_of}
use Rattle.formula.specs.Built.{clause_in}
use Rattle.formula.specs.Model.{qbf}
use Rattle.formula.specs.Proper.{literals_of, Ascending, LastOurs, Bound, Proper}
use Rattle.formula.proofs.Maps.{each-below-push}
use Rattle.formula.proofs.Arrays.{count_clauses, ends_below}
use Rattle.formula.proofs.Looked.{count_levels, elem_kept}

-- what holds at each place holds of all elements, and at one place of some element
all_places : {A : Type 0} (P : A → Type 0) (d : A) (xs : List A) → ((j : ℕ) → j < length xs → P (get_or xs j d)) → All P xs
all_places P d [] h = tt
all_places P d (x ∷ xs) h = (h 0 (omega arith), all_places P d xs (λ j k. h (suc j) (omega arith)))

all_from : {A : Type 0} (P : A → Type 0) (f : ℕ → A) (i n : ℕ) → ((m : ℕ) → i ≤ m → m < i + n → P (f m)) → All P (each f (from i n))
all_from P f i zero h = tt
all_from P f i (suc n) h = (h i (omega arith) (omega arith), all_from P f (suc i) n (λ m l k. h m (omega arith) (omega arith)))

any-from : {A : Type 0} (P : A → Type 0) (f : ℕ → A) (i n m : ℕ) → i ≤ m → m < i + n → P (f m) → Any P (each f (from i n))
any-from P f i zero m l h p = absurd (omega arith)
any-from P f i (suc n) m l h p =
    ⊎_elim (λ e. inl (subst (λ k. P (f k)) e p)) (λ ne. inr (any-from P f (suc i) n m (omega arith) (omega arith) p)) (cases_eq m i)

-- the kept numbers of a row ascend
ascends : (p : ℕ → Bool) (low n i k : ℕ) → low < i → i + k ≤ n + 1 → Ascending low n (keep p (from i k))
ascends p low n i zero h l = tt
ascends p low n i (suc k) h l =
    cond_both (p i) (i ∷ keep p (from (suc i) k)) (keep p (from (suc i) k)) (Ascending low n)
    (λ _. (h, omega arith, ascends p i n (suc i) k (omega arith) (omega arith))) (λ _. ascends p low n (suc i) k (omega arith) (omega arith))

-- sides alternate, so the last one tells the first
side_shift : (σ : Side) (m : ℕ) → side_at σ (suc m) ≡ side_at (other σ) m
side_shift σ m =
    ⊎_elim
    (λ odd. cond-false _ _ _ (ne_eqb (suc m % 2) 1 (λ e. omega arith)) ∙ sym (cond-true _ _ _ (eq-eqb (m % 2) 1 odd)))
    (λ even. let e : suc m % 2 ≡ 1 = omega arith in cond-true _ _ _ (eq-eqb (suc m % 2) 1 e) ∙ sym (cond-false _ _ _ (ne_eqb (m % 2) 1 even) ∙ other_twice σ))
    (cases_eq (m % 2) 1)
  where
    other_twice : (σ : Side) → other (other σ) ≡ σ
    other_twice Ours = refl
    other_twice Device = refl

last_is_ours : {A : Type 0} (σ : Side) (xs : List A) → (0 < length xs → side_at σ (length xs) ≡ Ours) → LastOurs σ xs
last_is_ours σ [] h = tt
last_is_ours σ (x ∷ []) h = h (omega arith)
last_is_ours σ (x ∷ y ∷ r) h = last_is_ours (other σ) (y ∷ r) (λ k. sym (side_shift σ (length (y ∷ r))) ∙ h (omega arith))

same_ours : (σ : Side) → same_side σ Ours ≡ true → σ ≡ Ours
same_ours Ours e = refl
same_ours Device e = let z : ◌≡◌ {A = ℕ} 0 1 = cc in absurd (omega arith)

-- the clauses lie one after the other, so their literals are no more than there are
literals_push : (cs : Clauses) (c : List ℤ) → literals_of (cs ++ c ∷ []) ≡ literals_of cs + length c
literals_push [] c = omega arith
literals_push (x ∷ cs) c = let e : literals_of (cs ++ c ∷ []) ≡ literals_of cs + length c = literals_push cs c in omega arith

literals_most : (literals : List ℤ) (ends : List ℕ) (k : ℕ) → ((i : ℕ) → i < k → get_or ends i 0 ≤ get_or ends (i + 1) 0) → literals_of (each (clause_in literals ends) (below k)) ≤ get_or ends k 0
literals_most literals ends zero h = omega arith
literals_most literals ends (suc k) h =
    let f = clause_in literals ends in
    let before : literals_of (each f (below k)) ≤ get_or ends k 0 = literals_most literals ends k (λ i l. h i (omega arith)) in
    let up : get_or ends k 0 ≤ get_or ends (k + 1) 0 = h k (omega arith) in
    let one : length (f k) ≡ min (get_or ends (k + 1) 0 - get_or ends k 0) (length (drop (get_or ends k 0) literals)) = length-take (get_or ends (k + 1) 0 - get_or ends k 0) (drop (get_or ends k 0) literals) in
    let all : literals_of (each f (below (k + 1))) ≡ literals_of (each f (below k)) + length (f k) = ap literals_of (each-below-push f f k (λ j l. refl)) ∙ literals_push (each f (below k)) (f k) in
    let s : k + 1 ≡ suc k = add-one k in
    subst (λ n. literals_of (each f (below n)) ≤ get_or ends n 0) s (omega arith)

-- each literal's variable is at the level that binds it
module _ (f : Formula) where
  abbrev p : Parts
  p = f.parts

  abbrev level_of_lem : ℕ → List ℕ
  level_of_lem = variables_of p.variables p.bound

  literal_bound : (j : ℕ) → j < p.count → Bound (each level_of_lem (from 1 p.levels)) (nat_abs (get_or p.literals j (pos 0)))
  literal_bound j h =
      let v = nat_abs (get_or p.literals j (pos 0)) in
      let m = get_or p.bound v 0 in
      let some : 0 < m = f.closed j h in
      let d = f.declared v some in
      let there : elem v (level_of_lem m) ≡ true = elem_kept (binds_at p.bound m) 1 p.variables v (omega (arith, d.0)) (omega (arith, d.1)) ∙ eq-eqb m m refl in
      any-from (λ vs. T (elem v vs)) level_of_lem 1 p.levels m (omega arith) (omega (arith, f.leveled v)) (subst T (sym there) tt)

  clause_bound : (i : ℕ) → i < p.clauses → All (λ l. Bound (each level_of_lem (from 1 p.levels)) (nat_abs l)) (clause_in p.literals p.ends i)
  clause_bound i h =
      let a = get_or p.ends i 0 in
      let b = get_or p.ends (i + 1) 0 in
      let top : b ≤ p.count = ends_below p.literals p.ends p.clauses p.count f.ordered f.ends.1 i h in
      let long : length (take (b - a) (drop a p.literals)) ≡ min (b - a) (length (drop a p.literals)) = length-take (b - a) (drop a p.literals) in
      all_places (λ l. Bound (each level_of_lem (from 1 p.levels)) (nat_abs l)) (pos 0) (clause_in p.literals p.ends i)
      (λ j l. let inside : j < b - a = omega arith in
      let same : get_or (take (b - a) (drop a p.literals)) j (pos 0) ≡ get_or p.literals (a + j) (pos 0) = get_or-take (b - a) (drop a p.literals) j (pos 0) inside ∙ get_or-drop a p.literals j (pos 0) in
      subst (λ x. Bound (each level_of_lem (from 1 p.levels)) (nat_abs x)) (sym same) (literal_bound (a + j) (omega arith)))

  pub proper : Proper (qbf f.parts)
  proper = record {
    few_variables = f.limits.0;
    few_levels = omega (arith, f.limits.1, count_levels level_of_lem p.levels);
    few_clauses = omega (arith, f.limits.2, count_clauses (clause_in p.literals p.ends) p.clauses);
    few_literals = omega (arith, f.limits.3, f.ends.1, literals_most p.literals p.ends p.clauses f.ordered);
    ascending = all_from (Ascending 0 p.variables) level_of_lem 1 p.levels (λ m l h. ascends (binds_at p.bound m) 0 p.variables 1 p.variables (omega arith) (omega arith));
    none_empty = all_from (λ vs. 0 < length vs) level_of_lem 1 p.levels (λ m l h. ⊎_elim (λ k. f.filled m (omega arith) k) (λ k. let e : p.levels ≡ m = omega arith in subst (λ j. 0 < length (level_of_lem j)) e (f.last_filled (omega arith))) (cases_lt m p.levels));
    last_ours = last_is_ours p.first (each level_of_lem (from 1 p.levels)) (λ h. ap (side_at p.first) (count_levels level_of_lem p.levels) ∙ same_ours (side_at p.first p.levels) (f.last_ours (omega (arith, count_levels level_of_lem p.levels))));
    all_bound = all_from (λ c. All (λ l. Bound (each level_of_lem (from 1 p.levels)) (nat_abs l)) c) (clause_in p.literals p.ends) 0 p.clauses (λ i l h. clause_bound i (omega arith));
  }
