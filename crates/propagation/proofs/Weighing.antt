-- What the numbers of a record come to, one after another. Assumes nothing.
use Rattle.std.proofs.Common.{◌≡◌, ℕ, ◌+◌, ◌<◌, false, ◌⊎◌, List, length, get_or, ℤ, pos, nat_abs, Some, None, Option, MatchOption, sym, refl, subst, inl, inr, arith, below_more}
use Rattle.std.specs.Option.{is_some}
use Rattle.std.proofs.lemmas.Bool.{false≢true}
use Rattle.pool.specs.Records.{Literal}
use Rattle.propagation.specs.declared.status.Status.{Status}
use Rattle.propagation.specs.declared.status.Status.TheVariants.{Fails, Forces}
use Rattle.propagation.specs.Rows.{word_of, False}
use Rattle.propagation.specs.Steps.{Weighed}

-- each of the first i numbers is false, but for the open one
abbrev pub Seen : List ℤ → List ℤ → ℕ → Option ℤ → Type 0
Seen row xs i None = (k : ℕ) → k < i → False row (get_or xs k (pos 0))
Seen row xs i (Some y) =
    Literal (length row) y × (nat_abs (word_of row y) ≡ 0) × ((k : ℕ) → k < i → (get_or xs k (pos 0) ≡ y) ⊎ False row (get_or xs k (pos 0)))
    × ((k : ℕ) × (k < i) × (get_or xs k (pos 0) ≡ y))

pub seen_false : (row xs : List ℤ) (i : ℕ) (o : Option ℤ) → False row (get_or xs i (pos 0)) → Seen row xs i o → Seen row xs (i + 1) o
seen_false row xs i None no' seen = below_more _ _ seen no'
seen_false row xs i (Some y) no' seen = let below = seen.3.1 in (seen.0, seen.1, below_more _ _ seen.2 (inr no'), (seen.3.0, omega arith, seen.3.2))

pub seen_open : (row xs : List ℤ) (i : ℕ) (o : Option ℤ) → is_some o ≡ false → Literal (length row) (get_or xs i (pos 0)) → nat_abs (word_of row (get_or xs i (pos 0))) ≡ 0 → Seen row xs i o
    → Seen row xs (i + 1) (Some (get_or xs i (pos 0)))
seen_open row xs i None e named open' seen = (named, open', below_more _ _ (λ k h. inr (seen k h)) (inl refl), (i, omega arith, refl))
seen_open row xs i (Some y) e named open' seen = absurd (false≢true (sym e))

-- when all were seen
pub weighed_from : (row xs : List ℤ) (i : ℕ) (o : Option ℤ) (r : Status) → length xs ≡ i → MatchOption o (r ≡ Fails) (λ y. r ≡ Forces y) → Seen row xs i o → Weighed row xs r
weighed_from row xs i None r end is seen = subst (Weighed row xs) (sym is) (λ k h. seen k (omega arith))
weighed_from row xs i (Some y) r end is seen =
    let below = seen.3.1 in
    subst (Weighed row xs) (sym is) (record { named = seen.0; unset = seen.1; others = λ k h. seen.2 k (omega arith); member = (seen.3.0, omega arith, seen.3.2) })
