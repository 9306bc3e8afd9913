use Rattle.std.proofs.Common.{◌≡◌, ℕ, ◌-◌, ◌<◌, ◌≤◌, false, ◌&&◌, length, get_or, pos}
use lib.Signed.{lt_z}
use Rattle.rules.proofs.values.read_level_values.Given as goal

abbrev pub invariant-loop-v : goal.invariant-loop-v
invariant-loop-v l =
    ((u : ℕ) → 1 ≤ u → u < l.v → get_or l.values u false ≡ (get_or l.flags u false && lt_z (pos 0) (get_or l.words (u - 1) (pos 0))))
    × ((u : ℕ) → u < 1 → get_or l.values u false ≡ false) × ((u : ℕ) → l.v ≤ u → get_or l.values u false ≡ false) × (length l.values ≡ 257)
