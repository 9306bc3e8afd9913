use Rattle.std.proofs.Common.{◌≡◌, ◌-◌, ◌≤◌, length, take}
use Rattle.engine.specs.Asking.{asked}
use Rattle.engine.specs.Meaning.{clauses, Clash, Part}
use Rattle.trimmer.specs.Trim.{Needed}
use Rattle.trimmer.proofs.trim.Trimmer.trim.Given as goal

-- the first n named assumptions still clash, and none of the first i of them can be dropped
abbrev pub invariant-loop-i : goal.invariant-loop-i
invariant-loop-i g l =
    let left = take l.n l.self.named in
    let records = clauses (asked l.question) in
    (l.i ≤ l.n) × (l.n ≤ l.count) × Part left (take l.count l.initial.self.named) × Clash records left × Needed records left l.i
    × (length l.self.named ≡ 1280) × (length l.self.trial ≡ 1280) × (length l.self.answer ≡ 1280)

abbrev pub decreases-loop-i : goal.decreases-loop-i
decreases-loop-i g l = l.n - l.i
