-- Signed words that are compared by their bits. Assumes nothing.
use Rattle.std.proofs.Common.{◌≡◌, ℤ, nat_abs, sym, ap, ◌∙◌, w32, SFits, to_z, of_z}
use Rattle.std.proofs.lemmas.Int.{to_z-of_z}
use Rattle.propagation.proofs.Growing.{zero_from_abs}

pub same_from_bits : (x y : ℤ) → SFits w32 x → SFits w32 y → of_z w32 x ≡ of_z w32 y → x ≡ y
same_from_bits x y f g e = sym (to_z-of_z w32 x f) ∙ ap (to_z w32) e ∙ to_z-of_z w32 y g

pub abs_from_bits : (x : ℤ) → SFits w32 x → of_z w32 x ≡ 0 → nat_abs x ≡ 0
abs_from_bits x f e = ap nat_abs (sym (to_z-of_z w32 x f) ∙ ap (to_z w32) e)

pub bits_from_abs : (x : ℤ) → nat_abs x ≡ 0 → of_z w32 x ≡ 0
bits_from_abs x e = ap (of_z w32) (zero_from_abs x e)
