-- The marked assumptions, and what they say. Assumes nothing.
use Rattle.std.proofs.Common.{◌≡◌, ℕ, zero, suc, ◌+◌, ◌-◌, ◌<◌, Bool, true, false, cond, List, [], ◌∷◌, ◌++◌, length, get_or, take, drop, set, ℤ, pos, nat_abs, sym, refl, ap, ◌∙◌, append_assoc, append-nil, arith}
use Rattle.std.proofs.lemmas.List.{take_more, drop_more, set_at}
use Rattle.std.proofs.lemmas.Bool.{and_parts}
use Rattle.std.proofs.lemmas.List.Recursion.{and_at}
use Rattle.engine.specs.Truth.{literal, each}
use Rattle.engine.specs.Meaning.{Part, Clash}
use Rattle.engine.specs.Meaning.Part.{none, keep, leave}
use Rattle.propagation.specs.Rows.{at, Agrees, Blocked}
use Rattle.branching.specs.Search.{used}

-- a marked assumption holds where the marked ones do
pub used_at : (marks : List Bool) (a : ℕ → Bool) (xs : List ℤ) → each a (used marks xs) ≡ true → (k : ℕ) → k < length xs → get_or marks (nat_abs (get_or xs k (pos 0)) - 1) false ≡ true → literal a (get_or xs k (pos 0)) ≡ true
used_at marks a [] e k h m = absurd (omega arith)
used_at marks a (x ∷ xs) e zero h m = (and_parts (literal a x) (each a (used marks xs)) (sym (ap (λ b. each a (cond b (x ∷ used marks xs) (used marks xs))) m) ∙ e)).0
used_at marks a (x ∷ xs) e (suc k) h m = used_at marks a xs (rest (get_or marks (nat_abs x - 1) false) e) k (omega arith) m
  where
    rest : (b : Bool) → each a (cond b (x ∷ used marks xs) (used marks xs)) ≡ true → each a (used marks xs) ≡ true
    rest true e = (and_parts (literal a x) (each a (used marks xs)) e).1
    rest false e = e

pub part_used : (marks : List Bool) (xs : List ℤ) → Part (used marks xs) xs
part_used marks [] = none
part_used marks (x ∷ xs) = by (get_or marks (nat_abs x - 1) false) (part_used marks xs)
  where
    by : (b : Bool) → Part (used marks xs) xs → Part (cond b (x ∷ used marks xs) (used marks xs)) (x ∷ xs)
    by true p = keep p
    by false p = leave p

-- one assumption more
used_push : (marks : List Bool) (xs : List ℤ) (x : ℤ) → used marks (xs ++ x ∷ []) ≡ used marks xs ++ cond (get_or marks (nat_abs x - 1) false) (x ∷ []) []
used_push marks [] x = refl
used_push marks (y ∷ xs) x = by (get_or marks (nat_abs y - 1) false) (used_push marks xs x)
  where
    by : (b : Bool) → used marks (xs ++ x ∷ []) ≡ used marks xs ++ cond (get_or marks (nat_abs x - 1) false) (x ∷ []) []
        → cond b (y ∷ used marks (xs ++ x ∷ [])) (used marks (xs ++ x ∷ [])) ≡ cond b (y ∷ used marks xs) (used marks xs) ++ cond (get_or marks (nat_abs x - 1) false) (x ∷ []) []
    by true e = ap (λ t. y ∷ t) e
    by false e = e

module _ (marks : List Bool) (xs : List ℤ) (i : ℕ) (h : i < length xs) where
  used_next : used marks (take (i + 1) xs) ≡ used marks (take i xs) ++ cond (get_or marks (nat_abs (get_or xs i (pos 0)) - 1) false) (get_or xs i (pos 0) ∷ []) []
  used_next = ap (used marks) (take_more xs i (pos 0) h) ∙ used_push marks (take i xs) (get_or xs i (pos 0))

  pub used_skip : get_or marks (nat_abs (get_or xs i (pos 0)) - 1) false ≡ false → used marks (take (i + 1) xs) ≡ used marks (take i xs)
  used_skip m = used_next ∙ ap (λ b. used marks (take i xs) ++ cond b (get_or xs i (pos 0) ∷ []) []) m ∙ append-nil (used marks (take i xs))

  pub used_take : get_or marks (nat_abs (get_or xs i (pos 0)) - 1) false ≡ true → used marks (take (i + 1) xs) ≡ used marks (take i xs) ++ get_or xs i (pos 0) ∷ []
  used_take m = used_next ∙ ap (λ b. used marks (take i xs) ++ cond b (get_or xs i (pos 0) ∷ []) []) m

-- a word more behind those that were written
pub push_word : (ws before out : List ℤ) (x : ℤ) (n : ℕ) → length ws ≡ n → n < length before → out ≡ ws ++ drop n before → set out n x ≡ ws ++ x ∷ [] ++ drop (n + 1) before
push_word ws before out x n long h is =
    ap (λ l. set l n x) (is ∙ ap (λ l. ws ++ l) (drop_more before n (pos 0) h))
    ∙ set_at ws (get_or before n (pos 0)) (drop (n + 1) before) x n long
    ∙ sym (append_assoc ws (x ∷ []) (drop (n + 1) before))

-- where a marked part of the row clashes, and each word of it is an assumption, the marked assumptions clash
pub clash_used : (cs : List (List ℤ)) (marks : List Bool) (row named : List ℤ)
    → ((i : ℕ) → i < length row → nat_abs (at row i) ≡ i + 1 → (k : ℕ) × (k < length named) × (get_or named k (pos 0) ≡ at row i))
    → Blocked cs marks row → Clash cs (used marks named)
clash_used cs marks row named from blocked a meets =
    blocked a meets.0
    (λ i h m e.
    let k = (from i h e).0 in
    let is = (from i h e).2 in
    let place : nat_abs (get_or named k (pos 0)) - 1 ≡ i = ap (λ z. nat_abs z - 1) is ∙ ap (λ n. n - 1) e ∙ omega arith in
    ap (literal a) (sym is) ∙ used_at marks a named meets.1 k (from i h e).1 (ap (λ j. get_or marks j false) place ∙ m))

-- an assignment that makes the assumptions true agrees with the row, each word of which is an assumption
pub agrees_sourced : (a : ℕ → Bool) (named row : List ℤ) → ((i : ℕ) → i < length row → nat_abs (at row i) ≡ i + 1 → (k : ℕ) × (k < length named) × (get_or named k (pos 0) ≡ at row i))
    → each a named ≡ true → Agrees row a
agrees_sourced a named row from holds i h e =
    let source = from i h e in
    ap (literal a) (sym source.2) ∙ and_at (each a) (literal a) refl (λ _ _. refl) named source.0 (pos 0) source.1 holds
