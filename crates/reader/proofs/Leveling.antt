-- The level of each variable when blocks are bound one after another, and so the variables of each level.
use Rattle.std.proofs.Common.{◌≡◌, ℕ, suc, ◌<◌, ◌≤◌, Bool, true, false, cond, not, ◌||◌, T, eqb, List, [], ◌∷◌, ◌++◌, length, get_or, set, sym, refl, ap, ◌∙◌, subst, ⊎_elim, arith, length-set}
use Rattle.std.proofs.Math.Bool.{or_assoc}
use Rattle.std.proofs.lemmas.List.{get_or-set_same, get_or-set_other, get_or_past, set_past}
use Rattle.std.proofs.lemmas.Bool.{cases_eq, cases_lt, eqb-true, ne_eqb, eq-eqb}
use Rattle.formula.specs.Lists.{elem, each, from}
use Rattle.formula.specs.Found.{binds_at, variables_of}
use Rattle.formula.proofs.Tests.{is_true, is_false, clash, dec, nor_l, nor_r, or_cases}
use Rattle.formula.proofs.Ranges.{keep_same}
use Rattle.reader.specs.Grammar.{Block, all_variables, ascending}
use Rattle.reader.proofs.Bindings.{Free, set_all, length_set_all, free_split}

pub elem-append : (v : ℕ) (xs ys : List ℕ) → elem v (xs ++ ys) ≡ elem v xs || elem v ys
elem-append v [] ys = refl
elem-append v (x ∷ xs) ys = ap (λ b. eqb v x || b) (elem-append v xs ys) ∙ sym (or_assoc (eqb v x) (elem v xs) (elem v ys))

-- one variable bound at level m, and a list of them
set_in : (bd : List ℕ) (u m v : ℕ) → v < length bd → get_or (set bd u m) v 0 ≡ cond (eqb v u) m (get_or bd v 0)
set_in bd u m v h =
    ⊎_elim (λ e. ap (λ x. get_or (set bd x m) v 0) (sym e) ∙ get_or-set_same bd v m 0 h ∙ sym (ap (λ b. cond b m (get_or bd v 0)) (eq-eqb v u e)))
    (λ n. get_or-set_other bd u v m 0 n ∙ sym (ap (λ b. cond b m (get_or bd v 0)) (ne_eqb v u n))) (cases_eq v u)

join_tests : (a b : Bool) (m x : ℕ) → cond b m (cond a m x) ≡ cond (a || b) m x
join_tests true true m x = refl
join_tests true false m x = refl
join_tests false true m x = refl
join_tests false false m x = refl

pub set_all_in : (vs : List ℕ) (m : ℕ) (bd : List ℕ) (v : ℕ) → v < length bd → get_or (set_all vs m bd) v 0 ≡ cond (elem v vs) m (get_or bd v 0)
set_all_in [] m bd v h = refl
set_all_in (u ∷ us) m bd v h =
    set_all_in us m (set bd u m) v (omega (arith, length-set bd u m)) ∙ ap (cond (elem v us) m) (set_in bd u m v h) ∙ join_tests (eqb v u) (elem v us) m (get_or bd v 0)

set_le : (bd : List ℕ) (u m v k : ℕ) → get_or bd v 0 ≤ k → m ≤ k → get_or (set bd u m) v 0 ≤ k
set_le bd u m v k h l =
    ⊎_elim (λ e. ⊎_elim (λ i. let s : get_or (set bd u m) v 0 ≡ m = ap (λ x. get_or (set bd x m) v 0) (sym e) ∙ get_or-set_same bd v m 0 i in omega arith)
    (λ i. let s : get_or (set bd u m) v 0 ≡ get_or bd v 0 = ap (λ x. get_or x v 0) (set_past bd u m (omega arith)) in omega arith) (cases_lt v (length bd)))
    (λ n. let s : get_or (set bd u m) v 0 ≡ get_or bd v 0 = get_or-set_other bd u v m 0 n in omega arith) (cases_eq v u)

pub set_all_le : (vs : List ℕ) (m : ℕ) (bd : List ℕ) (v k : ℕ) → get_or bd v 0 ≤ k → m ≤ k → get_or (set_all vs m bd) v 0 ≤ k
set_all_le [] m bd v k h l = h
set_all_le (u ∷ us) m bd v k h l = set_all_le us m (set bd u m) v k (set_le bd u m v k h l) l

-- the levels of all blocks, those before level m + 1 being bound already
abbrev pub bound_to : ℕ → List Block → List ℕ → List ℕ
bound_to m [] bd = bd
bound_to m (l ∷ ls) bd = bound_to (suc m) ls (set_all l.variables (suc m) bd)

pub length_bound_to : (m : ℕ) (ls : List Block) (bd : List ℕ) → length (bound_to m ls bd) ≡ length bd
length_bound_to m [] bd = refl
length_bound_to m (l ∷ ls) bd = length_bound_to (suc m) ls (set_all l.variables (suc m) bd) ∙ length_set_all l.variables (suc m) bd

in_after : (m : ℕ) (l : Block) (bd : List ℕ) (v : ℕ) → v < length bd → v < length (set_all l.variables (suc m) bd)
in_after m l bd v h = omega (arith, length_set_all l.variables (suc m) bd)

pub not_bound : (m : ℕ) (ls : List Block) (bd : List ℕ) (v : ℕ) → v < length bd → T (not (elem v (all_variables ls))) → get_or (bound_to m ls bd) v 0 ≡ get_or bd v 0
not_bound m [] bd v h f = refl
not_bound m (l ∷ ls) bd v h f =
    let g : T (not (elem v l.variables || elem v (all_variables ls))) = subst (λ b. T (not b)) (elem-append v l.variables (all_variables ls)) f in
    not_bound (suc m) ls (set_all l.variables (suc m) bd) v (in_after m l bd v h) (nor_r (elem v l.variables) (elem v (all_variables ls)) g)
    ∙ set_all_in l.variables (suc m) bd v h
    ∙ ap (λ b. cond b (suc m) (get_or bd v 0)) (is_false (elem v l.variables) (nor_l (elem v l.variables) (elem v (all_variables ls)) g))

pub is_bound : (m : ℕ) (ls : List Block) (bd : List ℕ) (v : ℕ) → v < length bd → T (elem v (all_variables ls)) → m < get_or (bound_to m ls bd) v 0
is_bound m [] bd v h f = absurd f
is_bound m (l ∷ ls) bd v h f =
    let bd' = set_all l.variables (suc m) bd in
    let g : T (elem v l.variables || elem v (all_variables ls)) = subst T (elem-append v l.variables (all_variables ls)) f in
    ⊎_elim
    (λ later. omega (arith, is_bound (suc m) ls bd' v (in_after m l bd v h) later))
    (λ none. ⊎_elim
    (λ here. let e : get_or (bound_to (suc m) ls bd') v 0 ≡ suc m = not_bound (suc m) ls bd' v (in_after m l bd v h) none ∙ set_all_in l.variables (suc m) bd v h ∙ ap (λ b. cond b (suc m) (get_or bd v 0)) (is_true (elem v l.variables) here) in omega arith)
    (λ later. absurd (clash (elem v (all_variables ls)) later none))
    (or_cases (elem v l.variables) (elem v (all_variables ls)) g))
    (dec (elem v (all_variables ls)))

-- free variables are declared and not bound yet
pub free_declared : (n : ℕ) (bd vs : List ℕ) (v : ℕ) → Free n bd vs → T (elem v vs) → (0 < v) × (v ≤ n) × (get_or bd v 0 ≡ 0)
free_declared n bd [] v f e = absurd e
free_declared n bd (u ∷ us) v (ok, new, more) e =
    ⊎_elim (λ h. let s : u ≡ v = sym (eqb-true v u (is_true (eqb v u) h)) in subst (λ x. (0 < x) × (x ≤ n) × (get_or bd x 0 ≡ 0)) s ok)
    (λ h. free_declared n bd us v more h) (or_cases (eqb v u) (elem v us) e)

-- exactly the variables of a block are at its level
module _ (n m : ℕ) (l : Block) (ls : List Block) (bd : List ℕ) (room : n < length bd) (low : (v : ℕ) → get_or bd v 0 ≤ m)
    (here : Free n bd l.variables) (later : Free n (set_all l.variables (suc m) bd) (all_variables ls)) where
  at_level : (v : ℕ) → eqb (get_or (bound_to (suc m) ls (set_all l.variables (suc m) bd)) v 0) (suc m) ≡ elem v l.variables
  at_level v = ⊎_elim inside outside (cases_lt v (length bd))
    where
      B : List ℕ
      B = bound_to (suc m) ls (set_all l.variables (suc m) bd)

      others : v < length bd → T (elem v (all_variables ls)) → eqb (get_or B v 0) (suc m) ≡ elem v l.variables
      others h e =
          let high : suc m < get_or B v 0 = is_bound (suc m) ls (set_all l.variables (suc m) bd) v (in_after m l bd v h) e in
          let zero : get_or (set_all l.variables (suc m) bd) v 0 ≡ 0 = (free_declared n (set_all l.variables (suc m) bd) (all_variables ls) v later e).2 in
          ne_eqb (get_or B v 0) (suc m) (λ s. omega arith) ∙ sym (not_here (elem v l.variables) (sym (set_all_in l.variables (suc m) bd v h) ∙ zero))
        where
          not_here : (b : Bool) → cond b (suc m) (get_or bd v 0) ≡ 0 → b ≡ false
          not_here true e = absurd (omega arith)
          not_here false e = refl

      own : (b : Bool) → eqb (cond b (suc m) (get_or bd v 0)) (suc m) ≡ b
      own true = eq-eqb (suc m) (suc m) refl
      own false = ne_eqb (get_or bd v 0) (suc m) (λ s. omega (arith, low v))

      inside : v < length bd → eqb (get_or B v 0) (suc m) ≡ elem v l.variables
      inside h =
          ⊎_elim (others h)
          (λ none. ap (λ x. eqb x (suc m)) (not_bound (suc m) ls (set_all l.variables (suc m) bd) v (in_after m l bd v h) none ∙ set_all_in l.variables (suc m) bd v h) ∙ own (elem v l.variables))
          (dec (elem v (all_variables ls)))

      outside : length bd ≤ v → eqb (get_or B v 0) (suc m) ≡ elem v l.variables
      outside h =
          let long : length B ≤ v = omega (arith, length_bound_to (suc m) ls (set_all l.variables (suc m) bd), length_set_all l.variables (suc m) bd) in
          let past : get_or B v 0 ≡ 0 = get_or_past B v 0 long in
          ne_eqb (get_or B v 0) (suc m) (λ s. omega arith) ∙ sym (⊎_elim (λ e. absurd (omega (arith, (free_declared n bd l.variables v here e).1))) (λ e. is_false (elem v l.variables) e) (dec (elem v l.variables)))

  pub level_is : variables_of n (bound_to (suc m) ls (set_all l.variables (suc m) bd)) (suc m) ≡ ascending n l.variables
  level_is = keep_same (binds_at (bound_to (suc m) ls (set_all l.variables (suc m) bd)) (suc m)) (λ v. elem v l.variables) (from 1 n) at_level

pub levels_are : (n m : ℕ) (ls : List Block) (bd : List ℕ) → n < length bd → ((v : ℕ) → get_or bd v 0 ≤ m) → Free n bd (all_variables ls)
    → each (variables_of n (bound_to m ls bd)) (from (suc m) (length ls)) ≡ each (λ (l : Block). ascending n l.variables) ls
levels_are n m [] bd room low f = refl
levels_are n m (l ∷ ls) bd room low f =
    let s = free_split n (suc m) (omega arith) bd l.variables (all_variables ls) room f in
    let bd' = set_all l.variables (suc m) bd in
    ap (λ x. x ∷ each (variables_of n (bound_to (suc m) ls bd')) (from (suc (suc m)) (length ls))) (level_is n m l ls bd room low s.0 s.1)
    ∙ ap (λ r. ascending n l.variables ∷ r) (levels_are n (suc m) ls bd' (omega (arith, length_set_all l.variables (suc m) bd)) (λ v. set_all_le l.variables (suc m) bd v (suc m) (omega (arith, low v)) (omega arith)) s.1)
