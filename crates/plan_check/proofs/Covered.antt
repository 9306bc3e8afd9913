-- Sets of clauses as flags have them, in what is asked of an entry.
use Rattle.std.proofs.Common.{◌≡◌, ℕ, zero, suc, ◌+◌, ◌<◌, ◌≤◌, Bool, true, false, cond, not, ◌||◌, T, List, [], ◌∷◌, length, get_or, replicate, Decides, sym, refl, ap, ◌∙◌, subst, ⊎_elim, arith}
use Rattle.std.proofs.lemmas.Bool.Decides.{Decides-like}
use Rattle.std.proofs.lemmas.List.{get_or_past, get_or-replicate}
use Rattle.std.proofs.lemmas.Bool.{cases_lt, not_from_true, not_from_false}
use Rattle.formula.specs.Lists.{any, keep, from, below, elem}
use Rattle.formula.specs.Game.{Clauses, Values, has, hits}
use Rattle.formula.specs.declared.side.Side.{Side}
use Rattle.formula.specs.declared.side.Side.TheVariants.{Ours, Device}
use Rattle.formula.proofs.Tests.{is_true}
use Rattle.strategy.specs.Entries.{Entry}
use Rattle.strategy.specs.Records.{Unsatisfiable, assumptions}
use Rattle.strategy.specs.Check.{LevelRecords, EntryCheck}
use Rattle.strategy.specs.Questions.{assumed, assumed_clauses}
use Rattle.soundness.proofs.Rows.{test_true}

-- a test is known by what it says below k
keep_same : (p q : ℕ → Bool) (i n k : ℕ) → i + n ≤ k → ((j : ℕ) → j < k → p j ≡ q j) → keep p (from i n) ≡ keep q (from i n)
keep_same p q i zero k h same = refl
keep_same p q i (suc n) k h same =
    ap (λ b. cond b (i ∷ keep p (from (suc i) n)) (keep p (from (suc i) n))) (same i (omega arith))
    ∙ ap (λ l. cond (q i) (i ∷ l) l) (keep_same p q (suc i) n k (omega arith) same)

-- what a question assumes, by the clauses that are meant
pub assumes : (C : Clauses) (n k : ℕ) (σ : Side) (before F : ℕ → Bool) → length C ≡ k → ((i : ℕ) → i < k → assumed σ before i ≡ F i)
    → assumptions n k σ (assumed_clauses k σ before) ≡ assumptions n (length C) σ (keep F (below (length C)))
assumes C n k σ before F count same =
    ap (assumptions n k σ) (keep_same (assumed σ before) F 0 k k (omega arith) same)
    ∙ ap (λ j. assumptions n j σ (keep F (below j))) (sym count)

-- past the last clause nothing is hit
pub none_past : (C : Clauses) (x : Values) (i : ℕ) → length C ≤ i → hits C x i ≡ false
none_past C x i h = ap (any (λ l. has l x)) (get_or_past C i [] h)

or_cond : (b c : Bool) → cond b true c ≡ (b || c)
or_cond true c = refl
or_cond false c = refl

-- the clauses of a set and those that are hit
pub covered_is : (flags : List Bool) (A : List ℕ) (h : ℕ → Bool) (k : ℕ) → ((i : ℕ) → i < k → get_or flags i false ≡ cond (elem i A) true (h i)) → (i : ℕ) → i < k → get_or flags i false ≡ (elem i A || h i)
covered_is flags A h k told i l = told i l ∙ or_cond (elem i A) (h i)

not_cond : (b : Bool) → cond b false true ≡ not b
not_cond true = refl
not_cond false = refl

-- the clauses outside of a set
pub outside_is : (flags : List Bool) (A : List ℕ) (k : ℕ) → k ≤ 512 → ((i : ℕ) → get_or flags i false ≡ cond (elem i A) false (get_or (replicate 512 true) i false)) → (i : ℕ) → i < k → get_or flags i false ≡ not (elem i A)
outside_is flags A k few told i l = told i ∙ ap (cond (elem i A) false) (get_or-replicate 512 i true false (omega arith)) ∙ not_cond (elem i A)

not_not : (b : Bool) → not (not b) ≡ b
not_not true = refl
not_not false = refl

module _ (outside hit : List Bool) (A : List ℕ) (C : Clauses) (x : Values) (k : ℕ) (count : length C ≡ k) (out : (i : ℕ) → i < k → get_or outside i false ≡ not (elem i A))
    (same : (i : ℕ) → i < k → get_or hit i false ≡ hits C x i) where
  pub inside_is : (i : ℕ) → i < k → not (get_or outside i false) ≡ elem i A
  inside_is i l = ap not (out i l) ∙ not_not (elem i A)

  -- no clause of the set is hit
  pub apart_misses : ((i : ℕ) → i < k → get_or outside i false ≡ false → get_or hit i false ≡ false) → (i : ℕ) → T (elem i A) → T (not (hits C x i))
  apart_misses apart i t =
      test_true _ (not_from_false _ (⊎_elim (λ l. sym (same i l) ∙ apart i l (out i l ∙ not_from_true _ (is_true _ t))) (λ h. none_past C x i (omega arith)) (cases_lt i k)))

  pub misses_apart : ((i : ℕ) → T (elem i A) → T (not (hits C x i))) → (i : ℕ) → i < k → get_or outside i false ≡ false → get_or hit i false ≡ false
  misses_apart misses i l f =
      same i l ∙ sym (not_not (hits C x i)) ∙ ap not (is_true _ (misses i (test_true _ (sym (inside_is i l) ∙ not_from_false _ f))))

-- what is asked of an entry, as flags and questions answer it
pub entry_like : (C : Clauses) (n : ℕ) (σ : Side) (after later : List LevelRecords) (e f : Entry) (r : Bool) → after ≡ later → e ≡ f → Decides r (EntryCheck C n σ later f) → Decides r (EntryCheck C n σ after e)
entry_like C n σ after later e f r p q d = subst (λ a. Decides r (EntryCheck C n σ a e)) (sym p) (subst (λ y. Decides r (EntryCheck C n σ later y)) (sym q) d)

module _ (C : Clauses) (n k : ℕ) (A : List ℕ) (x : Values) (count : length C ≡ k) (r : Bool) where
  module _ (flags : List Bool) (is : (i : ℕ) → i < k → get_or flags i false ≡ (elem i A || hits C x i)) where
    pub our_last : Decides r ((i : ℕ) → i < k → get_or flags i false ≡ true) → Decides r (EntryCheck C n Ours [] (record { set = A; values = x }))
    our_last d =
        Decides-like r (λ full i l. let h : i < k = omega arith in test_true _ (sym (is i h) ∙ full i h)) (λ w i l. is i l ∙ is_true _ (w i (omega arith))) d

    pub our_next : (l : LevelRecords) (after : List LevelRecords) → Decides r (Unsatisfiable l.chain (assumptions n k Device (assumed_clauses k Device (λ i. get_or flags i false)))) → Decides r (EntryCheck C n Ours (l ∷ after) (record { set = A; values = x }))
    our_next l after d =
        subst (λ a. Decides r (Unsatisfiable l.chain a)) (assumes C n k Device (λ i. get_or flags i false) (λ i. elem i A || hits C x i) count is) d

  module _ (outside : List Bool) (out : (i : ℕ) → i < k → get_or outside i false ≡ not (elem i A)) where
    pub device_next : (l : LevelRecords) (after : List LevelRecords) → ((i : ℕ) → T (elem i A) → T (not (hits C x i)))
        → Decides r (Unsatisfiable l.chain (assumptions n k Ours (assumed_clauses k Ours (λ i. get_or outside i false)))) → Decides r (EntryCheck C n Device (l ∷ after) (record { set = A; values = x }))
    device_next l after misses d =
        let q = assumes C n k Ours (λ i. get_or outside i false) (λ i. elem i A) count (λ i h. ap not (out i h) ∙ not_not (elem i A)) in
        Decides-like r (λ u. (misses, subst (Unsatisfiable l.chain) q u)) (λ w. subst (Unsatisfiable l.chain) (sym q) w.1) d
