-- Ascending variables are proper.
use Rattle.std.proofs.Common.{◌≡◌, ℕ, ◌<◌, ◌≤◌, not, T, eqb, List, [], ◌∷◌, arith, eqb→eq}
use lib.Dec.{not_T}
use Rattle.formula.specs.Lists.{All, elem}
use Rattle.formula.specs.Game.{Qbf}
use Rattle.formula.proofs.Tests.{nor}
use Rattle.formula.proofs.Members.{all_map}
use Rattle.formula.specs.Proper.{Ascending}
use Rattle.strategy.specs.WellFormed.{ProperLevel, WellFormed}

-- no number up to the lower limit stands there
not_there : (i low n : ℕ) (vs : List ℕ) → i ≤ low → Ascending low n vs → T (not (elem i vs))
not_there i low n [] h a = tt
not_there i low n (v ∷ vs) h a =
    let lt : low < v = a.0 in
    nor (eqb i v) (elem i vs) (not_T (eqb i v) (λ e. let q : i ≡ v = eqb→eq i v e in absurd (omega arith))) (not_there i v n vs (omega arith) a.2)

pub ascending_proper : (low n : ℕ) (vs : List ℕ) → Ascending low n vs → ProperLevel n vs
ascending_proper low n [] a = tt
ascending_proper low n (v ∷ vs) a = let lt : low < v = a.0 in (omega arith, a.1, not_there v v n vs (omega arith) a.2, ascending_proper v n vs a.2)

pub levels_proper : (n : ℕ) (levels : List (List ℕ)) → All (Ascending 0 n) levels → All (ProperLevel n) levels
levels_proper n levels h = all_map (Ascending 0 n) (ProperLevel n) levels (λ vs. ascending_proper 0 n vs) h

pub well_proper : (q : Qbf) → WellFormed q → All (ProperLevel q.variables) q.levels
well_proper q well = levels_proper q.variables q.levels well.ascending
