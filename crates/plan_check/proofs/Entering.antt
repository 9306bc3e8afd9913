-- What holds of some entry of a level, by a test of each.
use Rattle.std.proofs.Common.{◌≡◌, Bool, T, List, [], ◌∷◌, Decides}
use Rattle.std.proofs.lemmas.Bool.{false≢true}
use Rattle.std.proofs.lemmas.Bool.Decides.{Decides-at, Decides-or}
use Rattle.formula.specs.Lists.{any, Any, each}
use Rattle.formula.proofs.Tests.{is_true}
use Rattle.soundness.proofs.Rows.{test_true}

module _ {A B : Type 0} (p : B → Bool) (f : A → B) where
  some : (xs : List A) → Decides (any (λ x. p (f x)) xs) (Any (λ e. T (p e)) (each f xs))
  some [] = ((λ e. absurd (false≢true e)), (λ h. absurd h))
  some (x ∷ xs) = Decides-or (p (f x)) (any (λ y. p (f y)) xs) (test_true (p (f x)), is_true (p (f x))) (some xs)

  pub entered : (xs : List A) (r : Bool) → r ≡ any (λ x. p (f x)) xs → Decides r (Any (λ e. T (p e)) (each f xs))
  entered xs r is = Decides-at r (any (λ x. p (f x)) xs) is (some xs)
