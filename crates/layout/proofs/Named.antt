-- The numbers of the records that open writes name signals.
use Rattle.std.proofs.Common.{◌≡◌, ℕ, zero, suc, ◌+◌, ◌*◌, ◌<◌, ◌≤◌, Bool, true, false, T, List, [], ◌∷◌, ◌++◌, length, get_or, ℤ, pos, negsuc, neg_ℤ, nat_abs, sym, refl, subst, ⊎_elim, arith}
use Rattle.std.specs.List.{AllByRecursion}
use Rattle.std.proofs.lemmas.Bool.{cond_both}
use Rattle.formula.specs.Lists.{keep, each, elem, from}
use Rattle.formula.specs.Lists.{All as Each}
use Rattle.formula.specs.Game.{Clauses, Qbf}
use Rattle.formula.specs.Proper.{Ascending, Bound, Proper}
use Rattle.formula.specs.declared.side.Side.{Side}
use Rattle.formula.specs.declared.side.Side.TheVariants.{Ours, Device}
use Rattle.pool.specs.Records.{Literal}
use Rattle.strategy.specs.Records.{gather, literals_on, open_records}
use Rattle.strategy.specs.Signals.{t_signal, b_signal}
use Rattle.layout.specs.Opening.{device_record, clause_records, is_nil}
use Rattle.layout.proofs.Formulas.{ascending_bounds}
use Rattle.layout.proofs.Counted.{open_records_lem}

true_by : (b : Bool) → T b → b ≡ true
true_by true t = refl
true_by false t = absurd t

bound_literal : (n S : ℕ) (levels : List (List ℕ)) (l : ℤ) → n ≤ S → Each (Ascending 0 n) levels → Bound levels (nat_abs l) → Literal S l
bound_literal n S [] l h a b = absurd b
bound_literal n S (vs ∷ r) l h a b =
    ⊎_elim (λ t. let c = ascending_bounds 0 n (nat_abs l) vs a.0 (true_by (elem (nat_abs l) vs) t) in (c.0, omega (arith, c.1))) (λ m. bound_literal n S r l h a.1 m) b

clause_literals : (n S : ℕ) (levels : List (List ℕ)) (c : List ℤ) → n ≤ S → Each (Ascending 0 n) levels → Each (λ l. Bound levels (nat_abs l)) c → AllByRecursion (Literal S) c
clause_literals n S levels [] h a b = tt
clause_literals n S levels (l ∷ c) h a b = (bound_literal n S levels l h a b.0, clause_literals n S levels c h a b.1)

clauses_literals : (n S : ℕ) (levels : List (List ℕ)) (C : Clauses) → n ≤ S → Each (Ascending 0 n) levels → Each (λ c. Each (λ l. Bound levels (nat_abs l)) c) C → AllByRecursion (AllByRecursion (Literal S)) C
clauses_literals n S levels [] h a b = tt
clauses_literals n S levels (c ∷ C) h a b = (clause_literals n S levels c h a b.0, clauses_literals n S levels C h a b.1)

pub formula_named : (q : Qbf) (S : ℕ) → Proper q → q.variables ≤ S → AllByRecursion (AllByRecursion (Literal S)) q.clauses
formula_named q S p h = clauses_literals q.variables S q.levels q.clauses h p.ascending p.all_bound

-- lists that are made from others
module _ {A : Type 0} (P : A → Type 0) where
  all_keep : (p : A → Bool) (l : List A) → AllByRecursion P l → AllByRecursion P (keep p l)
  all_keep p [] a = tt
  all_keep p (x ∷ l) a = cond_both (p x) (x ∷ keep p l) (keep p l) (AllByRecursion P) (λ _. (a.0, all_keep p l a.1)) (λ _. all_keep p l a.1)

  all_append : (l m : List A) → AllByRecursion P l → AllByRecursion P m → AllByRecursion P (l ++ m)
  all_append [] m a b = b
  all_append (x ∷ l) m a b = (a.0, all_append l m a.1 b)

  all-gather : (f : ℕ → List A) (i n : ℕ) → ((j : ℕ) → j < i + n → AllByRecursion P (f j)) → AllByRecursion P (gather f (from i n))
  all-gather f i zero h = tt
  all-gather f i (suc n) h = all_append (f i) (gather f (from (suc i) n)) (h i (omega arith)) (all-gather f (suc i) n (λ j k. h j (omega arith)))

clause_named : (S : ℕ) (C : Clauses) (i : ℕ) → AllByRecursion (AllByRecursion (Literal S)) C → AllByRecursion (Literal S) (get_or C i [])
clause_named S [] i a = tt
clause_named S (c ∷ C) zero a = a.0
clause_named S (c ∷ C) (suc i) a = clause_named S C i a.1

neg_abs : (x : ℤ) → nat_abs (neg_ℤ x) ≡ nat_abs x
neg_abs (pos zero) = refl
neg_abs (pos (suc m)) = refl
neg_abs (negsuc m) = refl

module _ (n S : ℕ) (C : Clauses) (vs : List ℕ) (named : AllByRecursion (AllByRecursion (Literal S)) C) (all : n + 2 * length C ≤ S) where
  on_named : (i : ℕ) → AllByRecursion (Literal S) (literals_on C vs i)
  on_named i = all_keep (Literal S) (λ l. elem (nat_abs l) vs) (get_or C i []) (clause_named S C i named)

  pairs_named : (i : ℕ) (ls : List ℤ) → i < length C → AllByRecursion (Literal S) ls → AllByRecursion (AllByRecursion (Literal S)) (each (device_record C n i) ls)
  pairs_named i [] h a = tt
  pairs_named i (l ∷ ls) h a =
      let one = a.0 in
      (((subst (λ m. 0 < m) (sym (neg_abs l)) one.0, subst (λ m. m ≤ S) (sym (neg_abs l)) one.1), ((omega arith, omega arith), tt)), pairs_named i ls h a.1)

  records_named : (σ : Side) (last : Bool) (i : ℕ) → i < length C → AllByRecursion (AllByRecursion (Literal S)) (clause_records C n σ vs last i)
  records_named Ours true i h = (all_append (Literal S) (literals_on C vs i) (pos (t_signal n i) ∷ []) (on_named i) ((omega arith, omega arith), tt), tt)
  records_named Ours false i h =
      (all_append (Literal S) (literals_on C vs i) (pos (t_signal n i) ∷ pos (b_signal n (length C) i) ∷ []) (on_named i) ((omega arith, omega arith), ((omega arith, omega arith), tt)), tt)
  records_named Device last i h = pairs_named i (literals_on C vs i) h (on_named i)

  pub level_named : {R : Type 0} (σ : Side) (after : List R) → AllByRecursion (AllByRecursion (Literal S)) (open_records C n σ vs after)
  level_named σ after =
      subst (AllByRecursion (AllByRecursion (Literal S))) (sym (open_records_lem C n σ vs after))
      (all-gather (AllByRecursion (Literal S)) (clause_records C n σ vs (is_nil after)) 0 (length C) (λ j h. records_named σ (is_nil after) j (omega arith)))
