-- The order of the signals of n variables and k clauses, here and nowhere else: variables are 1 to n, then come the signals t, then b.
-- Clause i is counted from 0: the first clause has t at n + 1 and b at n + k + 1, the last one has b at n + 2k.
use Rattle.std.specs.Prelude.{ℕ, suc, ◌+◌}
use Rattle.formula.specs.declared.side.Side.{Side}
use Rattle.formula.specs.declared.side.Side.TheVariants.{Ours, Device}

abbrev pub t_signal : ℕ → ℕ → ℕ
t_signal n i = suc (n + i)

abbrev pub b_signal : ℕ → ℕ → ℕ → ℕ
b_signal n k i = suc (n + k + i)

-- the signal that a question at a level of side σ assumes false: t at ours, b at the device's
abbrev pub signal : ℕ → ℕ → Side → ℕ → ℕ
signal n k Ours i = t_signal n i
signal n k Device i = b_signal n k i
