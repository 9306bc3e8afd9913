-- What a search through all numbers finds. Assumes nothing.
use Rattle.std.proofs.Common.{◌≡◌, ℕ, ◌^◌, ◌<◌, ◌≤◌, Bool, List, ℤ, Some, None, Option, MatchOption, sym, subst, ⊎_elim, arith}
use Rattle.std.specs.List.{AllByRecursion}
use Rattle.std.proofs.lemmas.Bool.{cases_lt}
use Rattle.pool.specs.Records.{Literal}
use Rattle.engine.specs.Meaning.{Meets, Clash}
use Rattle.engine.specs.Count.{Least, number, numbered}
use Rattle.engine.proofs.Agree.{meets_same}
use Rattle.engine.proofs.Numbers.{number_below, numbered_number, number_numbered}

module _ (s : ℕ) (records : List (List ℤ)) (named : List ℤ) (literals : AllByRecursion (AllByRecursion (Literal s)) records) (literals' : AllByRecursion (Literal s) named) where
  -- an assignment that meets the question does so by its number
  by_number : (b : ℕ → Bool) → Meets records named b → Meets records named (numbered s (number b s))
  by_number b meets = meets_same b (numbered s (number b s)) s (λ i h k. sym (numbered_number b s i h k)) records named literals literals' meets

  pub clash_from_none : Least s records named None → Clash records named
  clash_from_none least b meets = least (number b s) (number_below b s) (by_number b meets)

  pub first_from_some : (n : ℕ) → Least s records named (Some n) → (b : ℕ → Bool) → Meets records named b → number (numbered s n) s ≤ number b s
  first_from_some n least b meets =
      let is = number_numbered s n least.0 in
      ⊎_elim (λ below. absurd (least.2 (number b s) below (by_number b meets))) (λ above. omega arith)
      (cases_lt (number b s) n)

pub least_same : (s s' : ℕ) (records records' : List (List ℤ)) (named : List ℤ) (o : Option ℕ) → s ≡ s' → records ≡ records' → Least s records named o → Least s' records' named o
least_same s s' records records' named o e f least = subst (λ t. Least t records' named o) e (subst (λ cs. Least s cs named o) f least)

-- what `find` says of the numbers below 2 ^ s
pub least_from : (s : ℕ) (records : List (List ℤ)) (named : List ℤ) (end : ℕ) (o : Option ℕ) → end ≡ 2 ^ s
    → MatchOption o ((k : ℕ) → 0 ≤ k → k < end → Meets records named (numbered s k) → ⊥)
    (λ i. (0 ≤ i) × (i < end) × Meets records named (numbered s i) × ((k : ℕ) → 0 ≤ k → k < i → Meets records named (numbered s k) → ⊥))
    → Least s records named o
least_from s records named end None e found = λ m h. found m (omega arith) (omega arith)
least_from s records named end (Some n) e found = let below = found.1 in (omega arith, found.2, λ m h. found.3 m (omega arith) h)
