-- What one write into the arrays of a formula changes, and what it leaves.
use Rattle.std.proofs.Common.{◌≡◌, ℕ, zero, suc, ◌+◌, ◌-◌, ◌<◌, ◌≤◌, eqb, ◌≢◌, List, [], ◌∷◌, ◌++◌, length, get_or, take, drop, set, ℤ, sym, refl, ap, ◌∙◌, subst, ⊎_elim, arith}
use Rattle.std.proofs.lemmas.List.{get_or-set_same, get_or-set_other, take-set-le, drop-take, take_more_set, drop-append-le, length-take-le, length-map}
use Rattle.std.proofs.lemmas.Bool.{cases_eq, ne_eqb}
use Rattle.formula.specs.Lists.{each, from, below}
use Rattle.formula.specs.Found.{binds_at, variables_of}
use Rattle.formula.specs.Built.{clause_in}
use Rattle.formula.proofs.Ranges.{keep_same, length_from}
use Rattle.formula.proofs.Maps.{each-below-push, each_same_from}

-- what a list holds after a write at v: the new value there, the old ones elsewhere
pub written : {A : Type 0} (P : ℕ → A → Type 0) (l : List A) (v : ℕ) (a d : A) → v < length l → P v a → ((u : ℕ) → u ≢ v → P u (get_or l u d)) → (u : ℕ) → P u (get_or (set l v a) u d)
written P l v a d h at other u =
    ⊎_elim (λ e. subst (λ w. P w (get_or (set l v a) w d)) (sym e) (subst (P v) (sym (get_or-set_same l v a d h)) at))
    (λ n. subst (P u) (sym (get_or-set_other l v u a d n)) (other u n)) (cases_eq u v)

-- binding v at level m leaves the variables of a lower level as they are
pub lower_level_same : (n : ℕ) (bound : List ℕ) (v m j : ℕ) → v < length bound → get_or bound v 0 ≤ 0 → 0 < j → j < m → variables_of n (set bound v m) j ≡ variables_of n bound j
lower_level_same n bound v m j h free some lower =
    keep_same (binds_at (set bound v m) j) (binds_at bound j) (from 1 n)
    (written (λ u x. eqb x j ≡ eqb (get_or bound u 0) j) bound v m 0 h
    (ne_eqb m j (λ e. omega arith) ∙ sym (ne_eqb (get_or bound v 0) j (λ e. omega arith)))
    (λ u n. refl))

-- the ends of the clauses rise
pub rises : (ends : List ℕ) (k : ℕ) → ((i : ℕ) → i < k → get_or ends i 0 ≤ get_or ends (i + 1) 0) → (i j : ℕ) → i + j ≤ k → get_or ends i 0 ≤ get_or ends (i + j) 0
rises ends k h i zero l = subst (λ n. get_or ends i 0 ≤ get_or ends n 0) {x = i} (omega arith) (omega arith)
rises ends k h i (suc j) l =
    let one : get_or ends (i + j) 0 ≤ get_or ends (i + j + 1) 0 = h (i + j) (omega arith) in
    let up : get_or ends i 0 ≤ get_or ends (i + j) 0 = rises ends k h i j (omega arith) in
    let e : i + j + 1 ≡ i + suc j = omega arith in
    subst (λ n. get_or ends i 0 ≤ get_or ends n 0) e (omega arith)

-- a part that ends at or before a write is as it was
pub part_before : (l : List ℤ) (c : ℕ) (x : ℤ) (a b : ℕ) → a ≤ b → b ≤ c → take (b - a) (drop a (set l c x)) ≡ take (b - a) (drop a l)
part_before l c x a b h k =
    let e : a + (b - a) ≤ c = omega arith in
    sym (drop-take a (b - a) (set l c x)) ∙ ap (drop a) (take-set-le (a + (b - a)) l c x e) ∙ drop-take a (b - a) l

-- a part that ends just before a write, and the written element
pub part_push : (l : List ℤ) (c : ℕ) (x : ℤ) (a : ℕ) → a ≤ c → c < length l → take (c + 1 - a) (drop a (set l c x)) ≡ take (c - a) (drop a l) ++ x ∷ []
part_push l c x a h k =
    let e : c + 1 ≡ a + (c + 1 - a) = omega arith in
    let f : a + (c - a) ≡ c = omega arith in
    let g : a ≤ length (take c l) = omega (arith, length-take-le c l (omega arith)) in
    sym (drop-take a (c + 1 - a) (set l c x))
    ∙ ap (λ n. drop a (take n (set l c x))) (sym e)
    ∙ ap (drop a) (take_more_set l c x k)
    ∙ drop-append-le a (take c l) (x ∷ []) g
    ∙ ap (λ n. drop a (take n l) ++ x ∷ []) (sym f)
    ∙ ap (λ r. r ++ x ∷ []) (drop-take a (c - a) l)

module _ (literals : List ℤ) (ends : List ℕ) (k count : ℕ) (rising : (i : ℕ) → i < k → get_or ends i 0 ≤ get_or ends (i + 1) 0) (top : get_or ends k 0 ≤ count) where
  pub ends_below : (i : ℕ) → i < k → get_or ends (i + 1) 0 ≤ count
  ends_below i h =
      let e : i + 1 + (k - (i + 1)) ≡ k = omega arith in
      let r : get_or ends (i + 1) 0 ≤ get_or ends (i + 1 + (k - (i + 1))) 0 = rises ends k rising (i + 1) (k - (i + 1)) (omega arith) in
      let s : get_or ends (i + 1 + (k - (i + 1))) 0 ≡ get_or ends k 0 = ap (λ n. get_or ends n 0) e in
      omega arith

  -- a literal after the whole clauses leaves them as they are
  pub clauses_same : (x : ℤ) → each (clause_in (set literals count x) ends) (below k) ≡ each (clause_in literals ends) (below k)
  clauses_same x =
      each_same_from (clause_in (set literals count x) ends) (clause_in literals ends) 0 k
      (λ j h. let l : j < k = omega arith in part_before literals count x (get_or ends j 0) (get_or ends (j + 1) 0) (rising j l) (ends_below j l))

  -- a clause more is the literals after the others
  pub clauses_push : k + 1 < length ends → each (clause_in literals (set ends (k + 1) count)) (below (k + 1)) ≡ each (clause_in literals ends) (below k) ++ take (count - get_or ends k 0) (drop (get_or ends k 0) literals) ∷ []
  clauses_push room =
      let new : get_or (set ends (k + 1) count) (k + 1) 0 ≡ count = get_or-set_same ends (k + 1) count 0 room in
      let old : (i : ℕ) → i ≤ k → get_or (set ends (k + 1) count) i 0 ≡ get_or ends i 0 = λ i h. get_or-set_other ends (k + 1) i count 0 (λ e. omega arith) in
      each-below-push (clause_in literals (set ends (k + 1) count)) (clause_in literals ends) k
      (λ j h. ap (λ b. take (b - get_or (set ends (k + 1) count) j 0) (drop (get_or (set ends (k + 1) count) j 0) literals)) (old (j + 1) (omega arith)) ∙ ap (λ a. take (get_or ends (j + 1) 0 - a) (drop a literals)) (old j (omega arith)))
      ∙ ap (λ c. each (clause_in literals ends) (below k) ++ c ∷ [])
      (ap (λ b. take (b - get_or (set ends (k + 1) count) k 0) (drop (get_or (set ends (k + 1) count) k 0) literals)) new ∙ ap (λ a. take (count - a) (drop a literals)) (old k (omega arith)))

pub count_clauses : (f : ℕ → List ℤ) (k : ℕ) → length (each f (below k)) ≡ k
count_clauses f k = length-map (below k) f ∙ length_from 0 k
