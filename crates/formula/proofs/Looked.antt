-- What is read off the arrays of a whole formula, as facts of the formula that they stand for.
use Rattle.std.proofs.Common.{◌≡◌, ℕ, zero, suc, ◌+◌, ◌-◌, ◌<◌, ◌≤◌, Bool, true, false, ◌&&◌, ◌||◌, leb, ltb, List, [], ◌∷◌, sum_by, length, get_or, ℤ, sym, refl, ap, ◌∙◌, ⊎_elim, add-zero, arith}
use Rattle.std.proofs.lemmas.Bool.{cond_both, cond-true, cond-false, ne_eqb, eq-eqb, lt-ltb, le-ltb, cases_lt}
use Rattle.std.specs.List.{range_with_len}
use Rattle.formula.specs.Lists.{each, keep, from, below, elem}
use Rattle.formula.specs.Found.{first_of}
use Rattle.std.proofs.lemmas.Bool.Decides.{nat_tests}
use Rattle.std.proofs.lemmas.List.{get_or_past, length-map}
use Rattle.std.proofs.lemmas.List.Sums.{sum_by-cons}
use Rattle.formula.specs.Game.{Qbf}
use Rattle.formula.specs.Model.{level_at, clause_at, bound_in}
use Rattle.formula.proofs.Ranges.{length_from, range_row, keep_here, keep_past}

pub count_levels : (f : ℕ → List ℕ) (k : ℕ) → length (each f (from 1 k)) ≡ k
count_levels f k = length-map (from 1 k) f ∙ length_from 1 k

-- the element at j of what a function makes of a row of numbers
pub each-from_at : {B : Type 0} (f : ℕ → B) (i n j : ℕ) (d : B) → j < n → get_or (each f (from i n)) j d ≡ f (i + j)
each-from_at f i zero j d h = absurd (omega arith)
each-from_at f i (suc n) zero d h = ap f (sym (add-zero i))
each-from_at f i (suc n) (suc j) d h = each-from_at f (suc i) n j d (omega arith) ∙ ap f (omega arith)

-- x in front of a list is not v
past_first : (v x : ℕ) (l : List ℕ) (b : Bool) → (v ≡ x → ⊥) → elem v l ≡ b → elem v (x ∷ l) ≡ b
past_first v x l b n e = ap (λ t. t || elem v l) (ne_eqb v x n) ∙ e

-- v is among the numbers of a row that a test keeps just when it lies in the row and passes
pub elem_low : (p : ℕ → Bool) (i n v : ℕ) → v < i → elem v (keep p (from i n)) ≡ false
elem_low p i zero v h = refl
elem_low p i (suc n) v h =
    let on : elem v (keep p (from (suc i) n)) ≡ false = elem_low p (suc i) n v (omega arith) in
    cond_both (p i) (i ∷ keep p (from (suc i) n)) (keep p (from (suc i) n)) (λ l. elem v l ≡ false) (λ _. past_first v i _ false (λ e. omega arith) on) (λ _. on)

pub elem_kept : (p : ℕ → Bool) (i n v : ℕ) → i ≤ v → v < i + n → elem v (keep p (from i n)) ≡ p v
elem_kept p i zero v h k = absurd (omega arith)
elem_kept p i (suc n) v h k =
    let R = keep p (from (suc i) n) in
    ⊎_elim
    (λ l. let on : elem v R ≡ p v = elem_kept p (suc i) n v l (omega arith) in cond_both (p i) (i ∷ R) R (λ r. elem v r ≡ p v) (λ _. past_first v i R (p v) (λ e. omega arith) on) (λ _. on))
    (λ l. let e : v ≡ i = omega arith in
    cond_both (p i) (i ∷ R) R (λ r. elem v r ≡ p v) (λ t. ap (λ b. b || elem v R) (eq-eqb v i e) ∙ sym (ap p e ∙ t)) (λ f. elem_low p (suc i) n v (omega arith) ∙ sym (ap p e ∙ f)))
    (cases_lt i v)

pub elem_high : (p : ℕ → Bool) (i n v : ℕ) → i + n ≤ v → elem v (keep p (from i n)) ≡ false
elem_high p i zero v h = refl
elem_high p i (suc n) v h =
    let on : elem v (keep p (from (suc i) n)) ≡ false = elem_high p (suc i) n v (omega arith) in
    cond_both (p i) (i ∷ keep p (from (suc i) n)) (keep p (from (suc i) n)) (λ l. elem v l ≡ false) (λ _. past_first v i _ false (λ e. omega arith) on) (λ _. on)

-- a row that begins above `after` is kept whole
pub all_after : (p : ℕ → Bool) (after i n : ℕ) → after < i → keep (ltb after) (keep p (from i n)) ≡ keep p (from i n)
all_after p after i zero h = refl
all_after p after i (suc n) h =
    let on : keep (ltb after) (keep p (from (suc i) n)) ≡ keep p (from (suc i) n) = all_after p after (suc i) n (omega arith) in
    cond_both (p i) (i ∷ keep p (from (suc i) n)) (keep p (from (suc i) n)) (λ l. keep (ltb after) l ≡ l) (λ _. cond-true _ _ _ (lt-ltb after i h) ∙ ap (λ r. i ∷ r) on) (λ _. on)

-- of the numbers of a row that a test keeps, those above `after` are those of the row after it
pub kept_after : (p : ℕ → Bool) (after i n : ℕ) → i ≤ after + 1 → keep (ltb after) (keep p (from i n)) ≡ keep (ltb after) (keep p (from (after + 1) (i + n - (after + 1))))
kept_after p after i zero h = let e : 0 ≡ i + 0 - (after + 1) = omega arith in ap (λ k. keep (ltb after) (keep p (from (after + 1) k))) e
kept_after p after i (suc n) h =
    let R = keep p (from (suc i) n) in
    let e : suc i + n - (after + 1) ≡ i + suc n - (after + 1) = omega arith in
    ⊎_elim
    (λ l. let on : keep (ltb after) R ≡ keep (ltb after) (keep p (from (after + 1) (i + suc n - (after + 1)))) = kept_after p after (suc i) n (omega arith) ∙ ap (λ k. keep (ltb after) (keep p (from (after + 1) k))) e in
    cond_both (p i) (i ∷ R) R (λ r. keep (ltb after) r ≡ keep (ltb after) (keep p (from (after + 1) (i + suc n - (after + 1))))) (λ _. cond-false _ _ _ (le-ltb after i (omega arith)) ∙ on) (λ _. on))
    (λ l. let g : i ≡ after + 1 = omega arith in
    let k : suc n ≡ i + suc n - (after + 1) = omega arith in
    ap (λ j. keep (ltb after) (keep p (from j (suc n)))) g ∙ ap (λ m. keep (ltb after) (keep p (from (after + 1) m))) k)
    (cases_lt i (after + 1))

pub next_in : (p : ℕ → Bool) (n after : ℕ) → first_of (keep p (from (after + 1) (n - after))) ≡ first_of (keep (ltb after) (keep p (from 1 n)))
next_in p n after =
    let e : 1 + n - (after + 1) ≡ n - after = omega arith in
    sym (ap first_of (kept_after p after 1 n (omega arith) ∙ ap (λ k. keep (ltb after) (keep p (from (after + 1) k))) e ∙ all_after p after (after + 1) (n - after) (omega arith)))

module _ (q : Qbf) (f : ℕ → List ℕ) (k : ℕ) (made : q.levels ≡ each f (from 1 k)) where
  pub level_there : (m : ℕ) → (leb 1 m && leb m (length q.levels)) ≡ true → level_at q m ≡ f m
  level_there zero h = absurd (grind (arith, nat_tests))
  level_there (suc m) h =
      let low : suc m ≤ length q.levels = grind (arith, nat_tests) in
      ap (λ ls. get_or ls m []) made ∙ each-from_at f 1 k m [] (omega (arith, ap length made, count_levels f k)) ∙ ap f (omega arith)

pub level_absent : (q : Qbf) (m : ℕ) → (leb 1 m && leb m (length q.levels)) ≡ false → level_at q m ≡ []
level_absent q zero h = refl
level_absent q (suc m) h = get_or_past q.levels m [] (grind (arith, nat_tests))

pub clause_there : (q : Qbf) (f : ℕ → List ℤ) (k : ℕ) → q.clauses ≡ each f (below k) → (i : ℕ) → 1 ≤ i → i ≤ k → clause_at q i ≡ f (i - 1)
clause_there q f k made zero h l = absurd (omega arith)
clause_there q f k made (suc i) h l = ap (λ cs. get_or cs i []) made ∙ each-from_at f 0 k i [] l ∙ ap f (omega arith)

-- the variable v is at the level whose variables are those of 1 to n that pass the test p
pub bound_there : (p : ℕ → Bool) (n v : ℕ) → p 0 ≡ false → v ≤ n → elem v (keep p (from 1 n)) ≡ p v
bound_there p n zero h l = elem_low p 1 n 0 (omega arith) ∙ sym h
bound_there p n (suc v) h l = elem_kept p 1 n (suc v) (omega arith) (omega arith)

-- how many of the numbers from v on a test keeps, by one step
pub count_here : (p : ℕ → Bool) (v n c t : ℕ) → v ≤ n → p v ≡ true → c + length (keep p (from v (n + 1 - v))) ≡ t → c + 1 + length (keep p (from (v + 1) (n + 1 - (v + 1)))) ≡ t
count_here p v n c t h y e = omega (arith, ap length (keep_here p v n h y))

pub count_past : (p : ℕ → Bool) (v n c t : ℕ) → v ≤ n → p v ≡ false → c + length (keep p (from v (n + 1 - v))) ≡ t → c + length (keep p (from (v + 1) (n + 1 - (v + 1)))) ≡ t
count_past p v n c t h y e = omega (arith, ap length (keep_past p v n h y))

pub bound_sum : (f : ℕ → List ℕ) (i n : ℕ) → sum_by (λ m. length (f m)) (range_with_len i n) ≡ bound_in (each f (from i n))
bound_sum f i n = ap (sum_by (λ m. length (f m))) (range_row i n) ∙ same (from i n)
  where
    same : (l : List ℕ) → sum_by (λ m. length (f m)) l ≡ bound_in (each f l)
    same [] = refl
    same (m ∷ l) = sum_by-cons (λ m. length (f m)) m l ∙ ap (λ k. length (f m) + k) (same l)
