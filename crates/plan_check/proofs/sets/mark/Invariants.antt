use Rattle.std.proofs.Common.{◌≡◌, ℕ, false, cond, length, get_or, drop}
use Rattle.formula.specs.Lists.{elem}
use Rattle.plan.specs.Fitting.{set_of}
use Rattle.plan_check.proofs.sets.mark.Given as goal

abbrev pub invariant-loop-x : goal.invariant-loop-x
invariant-loop-x l =
    (length l.flags ≡ 512)
    × ((i : ℕ) → cond (elem i (set_of l.base (drop l.x-index l.numbers))) l.value (get_or l.flags i false)
    ≡ cond (elem i (set_of l.base l.numbers)) l.value (get_or l.initial.flags i false))
