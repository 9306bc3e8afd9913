-- Soundness as tests that compute, so that a struct can keep them as its invariant. Assumes nothing.
use Rattle.std.specs.Prelude.{ℕ, zero, suc, ◌+◌, Bool, true, ◌&&◌, List, [], ◌∷◌, ℤ, pos, ◌==◌, int_le, nat_le, nat_lt, unsigned_abs}
use Rattle.pool.specs.Layout.{word_at, next_at, count_at, numbers_at}

abbrev pub are_literals : ℕ → List ℤ → Bool
are_literals s [] = true
are_literals s (x ∷ xs) = (nat_lt 0 (unsigned_abs x) && nat_le (unsigned_abs x) s) && are_literals s xs

abbrev pub is_whole : ℕ → List ℤ → ℕ → ℕ → Bool
is_whole s pool used p =
    (nat_le (p + 2 + count_at pool p) used && (int_le (pos 0) (word_at pool p) && int_le (pos 0) (word_at pool (p + 1))))
    && (nat_lt (next_at pool p) p && are_literals s (numbers_at pool p))

abbrev pub is_linked : ℕ → ℕ → List ℤ → ℕ → ℕ → Bool
is_linked zero s pool used p = p == 0
is_linked (suc fuel) s pool used zero = true
is_linked (suc fuel) s pool used (suc q) = is_whole s pool used (suc q) && is_linked fuel s pool used (next_at pool (suc q))
