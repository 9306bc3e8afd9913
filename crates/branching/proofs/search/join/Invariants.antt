use Rattle.std.proofs.Common.{◌≡◌, ℕ, ◌<◌, true, false, get_or}
use Rattle.branching.proofs.search.join.Given as goal

abbrev pub invariant-loop-k : goal.invariant-loop-k
invariant-loop-k l =
    ((j : ℕ) → get_or l.initial.marks j false ≡ true → get_or l.marks j false ≡ true)
    × ((j : ℕ) → j < l.k → get_or l.others j false ≡ true → get_or l.marks j false ≡ true)
