-- What `all` and `any` over a list of records say of it.
use Rattle.std.proofs.Common.{◌≡◌, ℕ, zero, suc, ◌+◌, ◌<◌, ◌≤◌, Bool, true, false, List, [], ◌∷◌, length, Decides, refl, sym, subst, inl, inr, ⊎_elim, arith}
use Rattle.std.specs.Bool.{MatchBool}
use Rattle.std.specs.List.{AllWithin, HoldsAt, range_with_len}
use Rattle.std.proofs.lemmas.Bool.{false≢true, cases_lt}
use Rattle.std.proofs.lemmas.Bool.Decides.{Decides-like}
use Rattle.std.proofs.lemmas.List.Elements.{All-from_all_within, recursion_from_All}
use Rattle.formula.specs.Lists.{All, Any}

module _ {A : Type 0} (P : A → Type 0) where
  fails : (xs : List A) (k : ℕ) → k < length xs → HoldsAt (λ x. P x → ⊥) xs k → All P xs → ⊥
  fails [] k h n all = omega arith
  fails (x ∷ xs) zero h n all = n x all.0
  fails (x ∷ xs) (suc k) h n all = fails xs k (omega arith) (λ d. n d) all.1

  pub all_told : (xs : List A) (r : Bool) → MatchBool r (AllWithin P xs 0 (length xs)) ((k : ℕ) × (k < length xs) × HoldsAt (λ x. P x → ⊥) xs k) → Decides r (All P xs)
  all_told xs true found = (λ _. recursion_from_All P xs (All-from_all_within P xs found), λ _. refl)
  all_told xs false found = (λ e. absurd (false≢true e), λ all. absurd (fails xs found.0 found.1 found.2 all))

  found_at : (xs : List A) (k : ℕ) → k < length xs → HoldsAt P xs k → Any P xs
  found_at [] k h p = absurd (omega arith)
  found_at (x ∷ xs) zero h p = inl (p x)
  found_at (x ∷ xs) (suc k) h p = inr (found_at xs k (omega arith) (λ d. p d))

  nowhere : (xs : List A) → All (λ x. P x → ⊥) xs → Any P xs → ⊥
  nowhere [] none h = absurd h
  nowhere (x ∷ xs) none (inl h) = none.0 h
  nowhere (x ∷ xs) none (inr h) = nowhere xs none.1 h

  pub any_told : (xs : List A) (r : Bool) → MatchBool r ((k : ℕ) × (k < length xs) × HoldsAt P xs k) (AllWithin (λ x. P x → ⊥) xs 0 (length xs)) → Decides r (Any P xs)
  any_told xs true found = (λ _. found_at xs found.0 found.1 found.2, λ _. refl)
  any_told xs false none =
      (λ e. absurd (false≢true e), λ h. absurd (nowhere xs (recursion_from_All (λ x. P x → ⊥) xs (All-from_all_within (λ x. P x → ⊥) xs none)) h))

-- what holds of each number of a row
row_has : (P : ℕ → Type 0) (a n : ℕ) → All P (range_with_len a n) → (m : ℕ) → a ≤ m → m < a + n → P m
row_has P a zero all m l u = absurd (omega arith)
row_has P a (suc n) all m l u =
    ⊎_elim (λ above. row_has P (a + 1) n all.1 m (omega arith) (omega arith)) (λ here. let e : m ≡ a = omega arith in subst P (sym e) all.0) (cases_lt a m)

row_of : (P : ℕ → Type 0) (a n : ℕ) → ((m : ℕ) → a ≤ m → m < a + n → P m) → All P (range_with_len a n)
row_of P a zero h = tt
row_of P a (suc n) h = (h a (omega arith) (omega arith), row_of P (a + 1) n (λ m l u. h m (omega arith) (omega arith)))

pub row_told : (P : ℕ → Type 0) (n : ℕ) (r : Bool) → Decides r (All P (range_with_len 0 n)) → Decides r ((m : ℕ) → m < n → P m)
row_told P n r = Decides-like r (λ all m h. row_has P 0 n all m (omega arith) (omega arith)) (λ h. row_of P 0 n (λ m l u. h m (omega arith)))
