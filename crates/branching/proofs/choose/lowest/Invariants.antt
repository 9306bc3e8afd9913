use Rattle.std.proofs.Common.{◌≡◌, ℕ, ◌-◌, ◌<◌, ◌≤◌, get_or, pos, nat_abs}
use Rattle.propagation.specs.Rows.{word_of}
use Rattle.branching.specs.Search.{place_in}
use Rattle.branching.proofs.Choosing.{Found}
use Rattle.branching.proofs.choose.lowest.Given as goal

-- the open signals so far lie at `low` or behind
abbrev pub invariant-loop-x : goal.invariant-loop-x
invariant-loop-x l =
    (place_in l.values l.low ≤ place_in l.values l.best) × Found l.values l.numbers l.best l.low l.x-index
    × ((k : ℕ) → k < l.x-index → nat_abs (word_of l.values (get_or l.numbers k (pos 0))) ≡ 0 → place_in l.values l.low ≤ nat_abs (get_or l.numbers k (pos 0)) - 1)
    × ((k : ℕ) → k < l.x-index → word_of l.values (get_or l.numbers k (pos 0)) ≡ get_or l.numbers k (pos 0) → ⊥)
