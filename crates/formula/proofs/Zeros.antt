-- An array of zeros.
use Rattle.std.proofs.Common.{◌≡◌, ℕ, ◌<◌, ◌≤◌, get_or, replicate, ⊎_elim, arith}
use lib.ListN.{length-replicate, get_or-replicate}
use Rattle.std.proofs.lemmas.List.{get_or_past}
use Rattle.std.proofs.lemmas.Bool.{cases_lt}

pub zeros_at : (n v : ℕ) → ◌≡◌ {A = ℕ} (get_or (replicate n 0) v 0) 0
zeros_at n v = ⊎_elim (λ h. get_or-replicate {A = ℕ} n v 0 0 h) (λ h. get_or_past {X = ℕ} (replicate n 0) v 0 (omega (arith, length-replicate {A = ℕ} n 0))) (cases_lt v n)

pub zeros_le : (n v m : ℕ) → get_or (replicate n 0) v 0 ≤ m
zeros_le n v m = omega (arith, zeros_at n v)

pub zeros_none : (n v : ℕ) → 0 < get_or (replicate n 0) v 0 → ⊥
zeros_none n v h = omega (arith, zeros_at n v)
