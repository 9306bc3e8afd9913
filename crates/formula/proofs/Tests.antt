-- Lemmas on tests, and on sets of clauses as lists of numbers.
use Rattle.std.proofs.Common.{◌≡◌, ℕ, zero, suc, ◌+◌, ◌<◌, ◌≤◌, Bool, true, false, cond, not, ◌&&◌, ◌||◌, T, eqb, ◌⊎◌, List, [], ◌∷◌, sym, refl, subst, inl, inr, ⊎_elim, arith, eqb→eq}
use lib.Dec.{eqb_refl}
use Rattle.formula.specs.Lists.{all, keep, elem, from, below}

pub dec : (b : Bool) → T b ⊎ T (not b)
dec true = inl tt
dec false = inr tt

pub clash : (b : Bool) → T b → T (not b) → ⊥
clash true p q = q
clash false p q = p

pub twice : (b : Bool) → T b → T (not (not b))
twice true p = tt
twice false p = p

pub once : (b : Bool) → T (not (not b)) → T b
once true p = tt
once false p = p

pub or_l : (a b : Bool) → T a → T (a || b)
or_l true b p = tt
or_l false b p = absurd p

pub or_r : (a b : Bool) → T b → T (a || b)
or_r true b p = tt
or_r false b p = p

pub or_cases : (a b : Bool) → T (a || b) → T a ⊎ T b
or_cases true b p = inl tt
or_cases false b p = inr p

pub nor : (a b : Bool) → T (not a) → T (not b) → T (not (a || b))
nor true b p q = p
nor false b p q = q

pub nor_l : (a b : Bool) → T (not (a || b)) → T (not a)
nor_l true b p = p
nor_l false b p = tt

pub nor_r : (a b : Bool) → T (not (a || b)) → T (not b)
nor_r true b p = absurd p
nor_r false b p = p

pub both : (a b : Bool) → T a → T b → T (a && b)
both true b p q = q
both false b p q = p

pub and_l : (a b : Bool) → T (a && b) → T a
and_l true b p = tt
and_l false b p = p

pub and_r : (a b : Bool) → T (a && b) → T b
and_r true b p = p
and_r false b p = absurd p

pub is_true : (b : Bool) → T b → b ≡ true
is_true true p = refl
is_true false p = absurd p

pub is_false : (b : Bool) → T (not b) → b ≡ false
is_false true p = absurd p
is_false false p = refl

-- all, over a set of clauses
pub all_at : (p : ℕ → Bool) (A : List ℕ) → T (all p A) → (i : ℕ) → T (elem i A) → T (p i)
all_at p [] h i m = absurd m
all_at p (j ∷ A) h i m =
    ⊎_elim (λ e. subst (λ k. T (p k)) (sym (eqb→eq i j e)) (and_l (p j) (all p A) h)) (λ m'. all_at p A (and_r (p j) (all p A) h) i m')
    (or_cases (eqb i j) (elem i A) m)

pub all_from : (p : ℕ → Bool) (A : List ℕ) → ((i : ℕ) → T (elem i A) → T (p i)) → T (all p A)
all_from p [] f = tt
all_from p (j ∷ A) f =
    both (p j) (all p A) (f j (or_l (eqb j j) (elem j A) (eqb_refl j))) (all_from p A (λ i m. f i (or_r (eqb i j) (elem i A) m)))

in_from : (a n i : ℕ) → a ≤ i → i < a + n → T (elem i (from a n))
in_from a zero i h k = absurd (omega arith)
in_from a (suc n) i h k =
    ⊎_elim (or_l (eqb i a) (elem i (from (suc a) n)))
    (λ e. let ne : i ≡ a → ⊥ = λ q. clash (eqb i a) (subst (λ k. T (eqb i k)) q (eqb_refl i)) e in
    or_r (eqb i a) (elem i (from (suc a) n)) (in_from (suc a) n i (omega arith) (omega arith)))
    (dec (eqb i a))

from_in : (a n i : ℕ) → T (elem i (from a n)) → i < a + n
from_in a zero i m = absurd m
from_in a (suc n) i m =
    ⊎_elim (λ e. let q : i ≡ a = eqb→eq i a e in omega arith) (λ m'. let q : i < suc a + n = from_in (suc a) n i m' in omega arith)
    (or_cases (eqb i a) (elem i (from (suc a) n)) m)

pub in_below : (n i : ℕ) → i < n → T (elem i (below n))
in_below n i h = in_from 0 n i (omega arith) (omega arith)

pub below_in : (n i : ℕ) → T (elem i (below n)) → i < n
below_in n i m = let q : i < 0 + n = from_in 0 n i m in omega arith

-- a set that a test cuts down
cond_in : (b : Bool) (j : ℕ) (K : List ℕ) (i : ℕ) → (T b → T (eqb i j) ⊎ T (elem i K)) → (T (not b) → T (elem i K)) → T (elem i (cond b (j ∷ K) K))
cond_in true j K i f g = ⊎_elim (or_l (eqb i j) (elem i K)) (or_r (eqb i j) (elem i K)) (f tt)
cond_in false j K i f g = g tt

cond_out : (b : Bool) (j : ℕ) (K : List ℕ) (i : ℕ) → T (elem i (cond b (j ∷ K) K)) → (T b × T (eqb i j)) ⊎ T (elem i K)
cond_out true j K i m = ⊎_elim (λ e. inl (tt, e)) (λ h. inr h) (or_cases (eqb i j) (elem i K) m)
cond_out false j K i m = inr m

pub keep_in : (p : ℕ → Bool) (A : List ℕ) (i : ℕ) → T (elem i A) → T (p i) → T (elem i (keep p A))
keep_in p [] i m q = m
keep_in p (j ∷ A) i m q =
    cond_in (p j) j (keep p A) i
    (λ _. ⊎_elim (λ e. inl e) (λ h. inr (keep_in p A i h q)) (or_cases (eqb i j) (elem i A) m))
    (λ np. ⊎_elim (λ e. absurd (clash (p j) (subst (λ k. T (p k)) (eqb→eq i j e) q) np)) (λ h. keep_in p A i h q) (or_cases (eqb i j) (elem i A) m))

pub kept_in : (p : ℕ → Bool) (A : List ℕ) (i : ℕ) → T (elem i (keep p A)) → T (elem i A)
kept_in p [] i m = m
kept_in p (j ∷ A) i m =
    ⊎_elim (λ h. or_l (eqb i j) (elem i A) h.1) (λ h. or_r (eqb i j) (elem i A) (kept_in p A i h)) (cond_out (p j) j (keep p A) i m)

pub kept_passes : (p : ℕ → Bool) (A : List ℕ) (i : ℕ) → T (elem i (keep p A)) → T (p i)
kept_passes p [] i m = absurd m
kept_passes p (j ∷ A) i m =
    ⊎_elim (λ h. subst (λ k. T (p k)) (sym (eqb→eq i j h.1)) h.0) (λ h. kept_passes p A i h) (cond_out (p j) j (keep p A) i m)

-- a set with no element
pub empty_set : (A : List ℕ) → ((i : ℕ) → T (elem i A) → ⊥) → A ≡ []
empty_set [] f = refl
empty_set (j ∷ A) f = absurd (f j (or_l (eqb j j) (elem j A) (eqb_refl j)))

pub nand_or : (a b c : Bool) → (T (not b) → T c) → T (not (a && b)) → T (not a || c)
nand_or true b c f h = f h
nand_or false b c f h = tt

pub nand_l : (a b : Bool) → T (not a) → T (not (a && b))
nand_l true b h = absurd h
nand_l false b h = tt

pub nand_r : (a b : Bool) → T (not b) → T (not (a && b))
nand_r true b h = h
nand_r false b h = tt

pub or_false : (a : Bool) → (a || false) ≡ a
or_false true = refl
or_false false = refl

pub and_true : (a : Bool) → (a && true) ≡ a
and_true true = refl
and_true false = refl

pub or_swap : (a b c : Bool) → a || (b || c) ≡ (b || a) || c
or_swap true true c = refl
or_swap true false c = refl
or_swap false true c = refl
or_swap false false c = refl

pub or_mix : (a b c d : Bool) → (a || b) || (c || d) ≡ (a || c) || (b || d)
or_mix true b c d = refl
or_mix false true true d = refl
or_mix false true false d = refl
or_mix false false true d = refl
or_mix false false false d = refl
