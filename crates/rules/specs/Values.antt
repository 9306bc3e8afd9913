-- The literal of a variable that has a value.
use Rattle.std.specs.Prelude.{ℕ, Bool, cond, ℤ, pos, neg_ℤ}

abbrev pub literal_of : ℕ → Bool → ℤ
literal_of v b = cond b (pos v) (neg_ℤ (pos v))
