-- Which records name a signal, as a row grows. Assumes nothing.
use Rattle.std.proofs.Common.{◌≡◌, ℕ, ◌-◌, ◌<◌, List, [], ◌∷◌, length, get_or, ℤ, pos, nat_abs, sym, ap, ◌∙◌, inl, inr, ⊎_elim, arith}
use Rattle.std.specs.List.{AllByRecursion}
use Rattle.propagation.specs.Rows.{at, word_of}
use Rattle.propagation.specs.Steps.{Holding, Silent, Forced}

-- records that have a true number keep it in a row that has grown
module _ (row₀ row : List ℤ) (long : length row ≡ length row₀) (stays : (i : ℕ) → i < length row₀ → (nat_abs (at row₀ i) ≡ 0 → ⊥) → at row i ≡ at row₀ i) where
  pub holding_stays : (xs : List ℤ) → Holding row₀ xs → Holding row xs
  holding_stays xs holds =
      let k = holds.0 in
      let x = get_or xs k (pos 0) in
      let low = holds.1.1.0 in
      let high = holds.1.1.1 in
      let size = ap nat_abs holds.1.2 in
      (k, (holds.1.0, (low, omega arith), stays (nat_abs x - 1) (omega arith) (λ none. omega arith) ∙ holds.1.2))

  pub silent_stays : (j : ℕ) (cs : List (List ℤ)) → AllByRecursion (Silent row₀ j) cs → AllByRecursion (Silent row j) cs
  silent_stays j [] all = tt
  silent_stays j (c ∷ cs) all = (⊎_elim (λ holds. inl (holding_stays c holds)) (λ unnamed. inr unnamed) all.0, silent_stays j cs all.1)

-- a record that forces a number names its signal
pub forced_heard : (row₀ row xs : List ℤ) (x : ℤ) → Forced row xs x → (Holding row₀ xs → Holding row xs) → Silent row₀ (nat_abs x - 1) xs → ⊥
forced_heard row₀ row xs x forced keeps silent =
    ⊎_elim
    (λ (holds : Holding row₀ xs).
    let true' = keeps holds in
    let k = true'.0 in
    let named = true'.1.1 in
    let low = named.0 in
    ⊎_elim
    (λ (same : get_or xs k (pos 0) ≡ x).
    let zero' = forced.unset in
    let size : nat_abs (word_of row x) ≡ nat_abs (get_or xs k (pos 0)) = ap (λ z. nat_abs (word_of row z)) (sym same) ∙ ap nat_abs true'.1.2 in
    omega arith)
    (λ false'. false'.0 true'.1.2)
    (forced.others k true'.1.0))
    (λ unnamed. let m = forced.member in unnamed m.0 m.1 (ap (λ z. nat_abs z - 1) m.2))
    silent
