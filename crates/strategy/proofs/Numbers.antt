-- Clauses and entries read off the numbers of records.
use Rattle.std.proofs.Common.{◌≡◌, ℕ, zero, suc, ◌-◌, ◌<◌, ◌≤◌, Bool, true, false, cond, not, T, eqb, ltb, leb, List, [], ◌∷◌, ◌++◌, ℤ, pos, neg_ℤ, nat_abs, sym, refl, ap, ◌∙◌, subst, ap₂, inl, inr, ⊎_elim, arith, le→leb, eqb→eq, ltb→lt, lt→ltb, leb→le}
use lib.Dec.{eqb_refl, not_T}
use Rattle.formula.specs.Lists.{keep, In, All, each, elem}
use Rattle.formula.specs.Game.{Values, choices}
use Rattle.formula.proofs.Tests.{or_l, or_r, or_cases, is_true, is_false}
use Rattle.formula.proofs.Members.{all_map}
use Rattle.formula.proofs.Values.{in_append, in_each}
use Rattle.strategy.specs.Entries.{Entry}
use Rattle.strategy.specs.Signals.{t_signal, signal}
use Rattle.strategy.specs.Records.{Unsatisfiable, assumptions, entry_of}
use Rattle.strategy.specs.Questions.{assumed_clauses, clause_of, clauses_named}
use Rattle.strategy.specs.WellFormed.{ProperLevel}
use Rattle.strategy.specs.Connections.{NoByNames, EntryReadBack}
use Rattle.formula.specs.declared.side.Side.{Side}
use Rattle.formula.specs.declared.side.Side.TheVariants.{Ours, Device}

in_elem : (i : ℕ) (A : List ℕ) → In i A → T (elem i A)
in_elem i [] h = h
in_elem i (j ∷ A) (inl e) = or_l (eqb i j) (elem i A) (subst (λ k. T (eqb i k)) e (eqb_refl i))
in_elem i (j ∷ A) (inr h) = or_r (eqb i j) (elem i A) (in_elem i A h)

-- the clause of an assumption
pub clause_back : (n k : ℕ) (σ : Side) (i : ℕ) → clause_of n k σ (neg_ℤ (pos (signal n k σ i))) ≡ i
clause_back n k Ours i = omega arith
clause_back n k Device i = omega arith

module _ (n k : ℕ) (σ : Side) (B : List ℕ) where
  name_clause : (l : ℤ) → In l (assumptions n k σ B) → T (elem (clause_of n k σ l) B) × (l ≡ neg_ℤ (pos (signal n k σ (clause_of n k σ l))))
  name_clause l h =
      let c : (i : ℕ) × In i B × (l ≡ neg_ℤ (pos (signal n k σ i))) = in_each (λ i. neg_ℤ (pos (signal n k σ i))) l B h in
      let e : clause_of n k σ l ≡ c.0 = ap (clause_of n k σ) c.2 ∙ clause_back n k σ c.0 in
      (subst (λ i. T (elem i B)) (sym e) (in_elem c.0 B c.1), c.2 ∙ ap (λ i. neg_ℤ (pos (signal n k σ i))) (sym e))

  named_in : (names : List ℤ) → ((l : ℤ) → In l names → In l (assumptions n k σ B)) → (i : ℕ) → T (elem i (clauses_named n k σ names)) → T (elem i B)
  named_in [] f i m = absurd m
  named_in (l ∷ names) f i m =
      ⊎_elim (λ e. subst (λ j. T (elem j B)) (sym (eqb→eq i (clause_of n k σ l) e)) (name_clause l (f l (inl refl))).0)
      (λ h. named_in names (λ x k. f x (inr k)) i h) (or_cases (eqb i (clause_of n k σ l)) (elem i (clauses_named n k σ names)) m)

  names_back : (names : List ℤ) → ((l : ℤ) → In l names → In l (assumptions n k σ B)) → names ≡ assumptions n k σ (clauses_named n k σ names)
  names_back [] f = refl
  names_back (l ∷ names) f =
      ap₂ {C = List ℤ} (λ (a : ℤ) rest. a ∷ rest) (name_clause l (f l (inl refl))).1 (names_back names (λ x k. f x (inr k)))

pub no_by_names : NoByNames
no_by_names n k σ before ch names f u =
    let e : names ≡ assumptions n k σ (clauses_named n k σ names) = names_back n k σ (assumed_clauses k σ before) names f in
    (record { named = named_in n k σ (assumed_clauses k σ before) names f; unsatisfiable = subst (Unsatisfiable ch) e u }, e)

-- an entry from its record
module _ (p : ℤ → Bool) where
  keep_one : (x : ℤ) (k j m : List ℤ) (b : Bool) → k ≡ j ++ m → cond b (x ∷ k) k ≡ cond b (x ∷ j) j ++ m
  keep_one x k j m true e = ap {B = List ℤ} (λ l. x ∷ l) e
  keep_one x k j m false e = e

  keep_append : (l m : List ℤ) → keep p (l ++ m) ≡ keep p l ++ keep p m
  keep_append [] m = refl
  keep_append (x ∷ l) m = keep_one x (keep p (l ++ m)) (keep p l) (keep p m) (p x) (keep_append l m)

  keep_all : (l : List ℤ) → All (λ x. T (p x)) l → keep p l ≡ l
  keep_all [] h = refl
  keep_all (x ∷ l) h = ap (λ b. cond b (x ∷ keep p l) (keep p l)) (is_true (p x) h.0) ∙ ap {B = List ℤ} (λ k. x ∷ k) (keep_all l h.1)

  keep_none : (l : List ℤ) → All (λ x. T (not (p x))) l → keep p l ≡ []
  keep_none [] h = refl
  keep_none (x ∷ l) h = ap (λ b. cond b (x ∷ keep p l) (keep p l)) (is_false (p x) h.0) ∙ keep_none l h.1

  keep_first : (l m : List ℤ) → All (λ x. T (p x)) l → All (λ x. T (not (p x))) m → keep p (l ++ m) ≡ l
  keep_first l m h k = keep_append l m ∙ ap₂ ◌++◌ (keep_all l h) (keep_none m k) ∙ append-nil l
    where
      append-nil : (l : List ℤ) → l ++ [] ≡ l
      append-nil [] = refl
      append-nil (x ∷ l) = ap {B = List ℤ} (λ k. x ∷ k) (append-nil l)

  keep_second : (l m : List ℤ) → All (λ x. T (not (p x))) l → All (λ x. T (p x)) m → keep p (l ++ m) ≡ m
  keep_second l m h k = keep_append l m ∙ ap₂ ◌++◌ (keep_none l h) (keep_all m k)

-- the numbers of values are at most n
neg_abs : (v : ℕ) → nat_abs (neg_ℤ (pos v)) ≡ v
neg_abs zero = refl
neg_abs (suc v) = refl

values_small : (n : ℕ) (vs : List ℕ) (x : Values) → ProperLevel n vs → In x (choices vs) → All (λ l. nat_abs l ≤ n) x
values_small n [] x p (inl e) = subst (λ y. All (λ l. nat_abs l ≤ n) y) (sym e) tt
values_small n [] x p (inr h) = absurd h
values_small n (v ∷ vs) x p h =
    ⊎_elim (λ k. let c : (y : Values) × In y (choices vs) × (x ≡ pos v ∷ y) = in_each (λ (y : Values). pos v ∷ y) x (choices vs) k in
    subst (λ z. All (λ l. nat_abs l ≤ n) z) (sym c.2) (p.1, values_small n vs c.0 p.3 c.1))
    (λ k. let c : (y : Values) × In y (choices vs) × (x ≡ neg_ℤ (pos v) ∷ y) = in_each (λ (y : Values). neg_ℤ (pos v) ∷ y) x (choices vs) k in
    subst (λ z. All (λ l. nat_abs l ≤ n) z) (sym c.2) (subst (λ m. m ≤ n) (sym (neg_abs v)) p.1, values_small n vs c.0 p.3 c.1))
    (in_append x (each (λ y. pos v ∷ y) (choices vs)) (each (λ y. neg_ℤ (pos v) ∷ y) (choices vs)) h)

not_big : (n m : ℕ) → m ≤ n → T (not (ltb n m))
not_big n m h = not_T (ltb n m) (λ l. let k : n < m = ltb→lt n m l in absurd (omega arith))

not_small : (n m : ℕ) → n < m → T (not (leb m n))
not_small n m h = not_T (leb m n) (λ l. let k : m ≤ n = leb→le m n l in absurd (omega arith))

all_of_each : (P : ℤ → Type 0) (f : ℕ → ℤ) (A : List ℕ) → ((i : ℕ) → P (f i)) → All P (each f A)
all_of_each P f [] h = tt
all_of_each P f (i ∷ A) h = (h i, all_of_each P f A h)

-- t signals, signed by s, then values
module _ (n : ℕ) (s : ℕ → ℤ) (abs : (i : ℕ) → nat_abs (s i) ≡ t_signal n i) where
  set_back : (A : List ℕ) → each (λ l. nat_abs l - suc n) (each s A) ≡ A
  set_back [] = refl
  set_back (i ∷ A) = ap₂ {C = List ℕ} (λ (a : ℕ) l. a ∷ l) (ap (λ m. m - suc n) (abs i) ∙ omega arith) (set_back A)

  read_back : (A : List ℕ) (x : Values) → All (λ l. nat_abs l ≤ n) x → entry_of n (each s A ++ x) ≡ record { set = A; values = x }
  read_back A x small =
      ap₂ {C = Entry} (λ k y. record { set = each (λ l. nat_abs l - suc n) k; values = y })
      (keep_first (λ l. ltb n (nat_abs l)) (each s A) x (all_of_each (λ l. T (ltb n (nat_abs l))) s A (λ i. subst (λ m. T (ltb n m)) (sym (abs i)) (lt→ltb n (t_signal n i) (omega arith))))
      (all_map (λ l. nat_abs l ≤ n) (λ l. T (not (ltb n (nat_abs l)))) x (λ l h. not_big n (nat_abs l) h) small))
      (keep_second (λ l. leb (nat_abs l) n) (each s A) x (all_of_each (λ l. T (not (leb (nat_abs l) n))) s A (λ i. subst (λ m. T (not (leb m n))) (sym (abs i)) (not_small n (t_signal n i) (omega arith))))
      (all_map (λ l. nat_abs l ≤ n) (λ l. T (leb (nat_abs l) n)) x (λ l h. le→leb (nat_abs l) n h) small))
      ∙ ap {B = Entry} (λ B. record { set = B; values = x }) (set_back A)

pub entry_read_back : EntryReadBack
entry_read_back n Ours vs e p m = read_back n (λ i. pos (t_signal n i)) (λ i. refl) e.set e.values (values_small n vs e.values p m)
entry_read_back n Device vs e p m = read_back n (λ i. neg_ℤ (pos (t_signal n i))) (λ i. refl) e.set e.values (values_small n vs e.values p m)
