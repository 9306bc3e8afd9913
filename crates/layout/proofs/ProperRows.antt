-- The variables of a level, as they are read off its flags, are those of a proper level.
use Rattle.std.proofs.Common.{ℕ, zero, suc, ◌+◌, ◌<◌, ◌≤◌, Bool, ◌∷◌, arith}
use Rattle.std.proofs.lemmas.Bool.{cond_both}
use Rattle.formula.specs.Lists.{keep, from}
use Rattle.formula.specs.Proper.{Ascending}
use Rattle.strategy.specs.WellFormed.{ProperLevel}
use Rattle.strategy.proofs.Ascents.{ascending_proper}

-- the numbers that a row keeps ascend
pub ascending_row : (p : ℕ → Bool) (low top i n : ℕ) → low < i → i + n ≤ top + 1 → Ascending low top (keep p (from i n))
ascending_row p low top i zero h k = tt
ascending_row p low top i (suc n) h k =
    cond_both (p i) (i ∷ keep p (from (suc i) n)) (keep p (from (suc i) n)) (Ascending low top)
    (λ _. (h, omega arith, ascending_row p i top (suc i) n (omega arith) (omega arith))) (λ _. ascending_row p low top (suc i) n (omega arith) (omega arith))

pub row_proper : (p : ℕ → Bool) (n : ℕ) → ProperLevel n (keep p (from 1 n))
row_proper p n = ascending_proper 0 n (keep p (from 1 n)) (ascending_row p 0 n 1 n (omega arith) (omega arith))
