-- The signals of an entry's set, as a test.
use Rattle.std.specs.Prelude.{ℕ, Bool, true, false, ◌&&◌, List, [], ◌∷◌, ℤ, pos, negsuc, nat_le, nat_lt, unsigned_abs}
use Rattle.formula.specs.declared.side.Side.{Side}
use Rattle.formula.specs.declared.side.Side.TheVariants.{Ours, Device}

-- positive at ours, negative at the device's
abbrev pub is_signed : Side → ℤ → Bool
is_signed Ours (pos n) = nat_lt 0 n
is_signed Ours (negsuc n) = false
is_signed Device (pos n) = false
is_signed Device (negsuc n) = true

-- so signed, above low and up to top, ascending
abbrev pub are_signals : Side → ℕ → ℕ → List ℤ → Bool
are_signals σ low top [] = true
are_signals σ low top (x ∷ xs) = (is_signed σ x && (nat_lt low (unsigned_abs x) && nat_le (unsigned_abs x) top)) && are_signals σ (unsigned_abs x) top xs
