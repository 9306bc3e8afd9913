use Rattle.std.proofs.Common.{◌≡◌, ◌+◌, ◌-◌, ◌<◌, true, false, length, take, set, replicate, refl, ap, ◌∙◌, arith, rules}
use Rattle.std.proofs.lemmas.List.{length-set, length-replicate}
use Rattle.pool.specs.Chains.{records_of}
use Rattle.propagation.specs.Rows.{back}
use Rattle.branching.specs.Search.{sign}
use Rattle.propagation.specs.Steps.{Ready}
use Rattle.branching.proofs.Choosing.{met_completed}
use Rattle.branching.proofs.Branches.{fork_from, front_again, tried_from, other_row, branch_below, branch_room, branch_ready, branch_met_false, branch_met_true, branch_skip, branch_both, branch_traced, branch_stuck}
use Rattle.branching.proofs.search.+search.Goals as goal

pub returns-in_default-choose : goal.returns-in_default-choose
returns-in_default-choose t c =
    let grown = c.in-Some.ensures.0 in
    met_completed c.propagate.new.values c.complete.new.values c.complete.auto.values c.complete.ensures (records_of c.args.chain) c.args.values.now c.args.trail.now c.args.mark c.propagate.new.trail c.in-Some.top grown c.in_default-choose.ensures

pub decide-requires : goal.decide-requires
decide-requires t c =
    let ready = c.requires.0 in
    let grown = c.in-Some.ensures.0 in
    let fork = fork_from ready grown c.in-Some-choose.ensures grown.long c.propagate.auto.trail in
    let found = c.in-Some-choose.ensures in
    (found.0, (omega arith, branch_room fork))

pub search-requires : goal.search-requires
search-requires t c =
    let ready = c.requires.0 in
    let grown = c.in-Some.ensures.0 in
    let fork = fork_from ready grown c.in-Some-choose.ensures grown.long c.propagate.auto.trail in
    let row₁ : c.decide.new.values ≡ set c.propagate.new.values c.in-Some-choose.i (sign false c.in-Some-choose.i) = c.decide.ensures.row in
    let trail₁ : c.decide.new.trail ≡ set c.propagate.new.trail c.in-Some.top c.in-Some-choose.i = c.decide.ensures.place in
    let below = branch_below fork in
    let later = grown.noted.later in
    let space = ready.space in
    let size = length-set c.propagate.new.values c.in-Some-choose.i (sign false c.in-Some-choose.i) in
    let long = ap length row₁ in
    let wide = length-set c.propagate.new.trail c.in-Some.top c.in-Some-choose.i in
    let ready₁ : Ready c.args.chain.signals c.decide.new.values c.decide.new.trail (c.in-Some.top + 1) c.propagate.new.marks =
    rw (row₁, trail₁) (branch_ready fork (set c.propagate.new.trail c.in-Some.top c.in-Some-choose.i) refl (omega arith) false c.propagate.new.marks (omega arith)) in
    let less : length c.decide.new.values - (c.in-Some.top + 1) < length c.args.values.now - c.args.mark = omega arith in
    (search rules, (ready₁, (omega arith, omega arith)))

pub returns-then-search : goal.returns-then-search
returns-then-search t c =
    let fork = fork_from c.requires.0 c.in-Some.ensures.0 c.in-Some-choose.ensures c.in-Some.ensures.0.long c.propagate.auto.trail in
    branch_met_false fork c.search.new.values (rw c.decide.ensures.row at c.if-search.ensures)

pub retreat-requires : goal.retreat-requires
retreat-requires t c =
    let fork = fork_from c.requires.0 c.in-Some.ensures.0 c.in-Some-choose.ensures c.in-Some.ensures.0.long c.propagate.auto.trail in
    let first = tried_from fork false c.decide.ensures.row (ap (take (c.in-Some.top + 1)) c.decide.ensures.place) c.if-search.ensures in
    let space = c.requires.0.space in
    let blocked = branch_skip fork c.search.new.marks first.3 c.if-not-marks-i.true in
    let inside = c.in-Some-choose.ensures.0 in
    (omega arith, rw first.1 (branch_traced fork c.search.new.trail first.2 (c.search.auto.trail ∙ c.decide.auto.trail ∙ c.propagate.auto.trail) c.search.new.marks (omega arith) blocked))

pub returns-then-not-marks-i : goal.returns-then-not-marks-i
returns-then-not-marks-i t c =
    let fork = fork_from c.requires.0 c.in-Some.ensures.0 c.in-Some-choose.ensures c.in-Some.ensures.0.long c.propagate.auto.trail in
    let first = tried_from fork false c.decide.ensures.row (ap (take (c.in-Some.top + 1)) c.decide.ensures.place) c.if-search.ensures in
    let back' = c.retreat.ensures.row ∙ ap (back (c.in-Some.top - c.args.mark) c.search.new.trail c.args.mark) first.1 in
    branch_stuck fork c.search.new.trail first.2 (c.search.auto.trail ∙ c.decide.auto.trail ∙ c.propagate.auto.trail) c.retreat.new.values c.retreat.new.marks back' c.retreat.ensures.blocked

pub decide-requires-2 : goal.decide-requires-2
decide-requires-2 t c =
    let ready = c.requires.0 in
    let grown = c.in-Some.ensures.0 in
    let fork = fork_from ready grown c.in-Some-choose.ensures grown.long c.propagate.auto.trail in
    let found = c.in-Some-choose.ensures in
    let inside = found.0 in
    let room = branch_room fork in
    (omega arith, (omega arith, omega arith))

pub search-requires-2 : goal.search-requires-2
search-requires-2 t c =
    let grown = c.in-Some.ensures.0 in
    let fork = fork_from c.requires.0 c.in-Some.ensures.0 c.in-Some-choose.ensures c.in-Some.ensures.0.long c.propagate.auto.trail in
    let first = tried_from fork false c.decide.ensures.row (ap (take (c.in-Some.top + 1)) c.decide.ensures.place) c.if-search.ensures in
    let row₂ = other_row fork first.0 c.decide-2.ensures.row in
    let front₂ = ap (take (c.in-Some.top + 1)) c.decide-2.ensures.place ∙ front_again c.in-Some.top c.in-Some-choose.i c.search.new.trail c.propagate.new.trail first.2 in
    let below = branch_below fork in
    let later = grown.noted.later in
    let size = length-set c.propagate.new.values c.in-Some-choose.i (sign true c.in-Some-choose.i) in
    let long = ap length row₂ in
    let few = c.requires.1.0 in
    let many = length-replicate 1280 false in
    let ready₂ : Ready c.args.chain.signals c.decide-2.new.values c.decide-2.new.trail (c.in-Some.top + 1) (replicate 1280 false) =
    rw row₂ (branch_ready fork c.decide-2.new.trail front₂ (c.decide-2.auto.trail ∙ c.search.auto.trail ∙ c.decide.auto.trail ∙ c.propagate.auto.trail) true (replicate 1280 false) (omega arith)) in
    let same = grown.long in
    let less : length c.decide-2.new.values - (c.in-Some.top + 1) < length c.args.values.now - c.args.mark = omega arith in
    (search rules, (ready₂, (omega arith, omega arith)))

pub returns-then-search-2 : goal.returns-then-search-2
returns-then-search-2 t c =
    let fork = fork_from c.requires.0 c.in-Some.ensures.0 c.in-Some-choose.ensures c.in-Some.ensures.0.long c.propagate.auto.trail in
    let first = tried_from fork false c.decide.ensures.row (ap (take (c.in-Some.top + 1)) c.decide.ensures.place) c.if-search.ensures in
    let row₂ = other_row fork first.0 c.decide-2.ensures.row in
    let front₂ = ap (take (c.in-Some.top + 1)) c.decide-2.ensures.place ∙ front_again c.in-Some.top c.in-Some-choose.i c.search.new.trail c.propagate.new.trail first.2 in
    branch_met_true fork c.search.new.marks c.search-2.new.values first.3 (rw row₂ at c.if-search-2.ensures)

pub retreat-requires-2 : goal.retreat-requires-2
retreat-requires-2 t c =
    let fork = fork_from c.requires.0 c.in-Some.ensures.0 c.in-Some-choose.ensures c.in-Some.ensures.0.long c.propagate.auto.trail in
    let first = tried_from fork false c.decide.ensures.row (ap (take (c.in-Some.top + 1)) c.decide.ensures.place) c.if-search.ensures in
    let row₂ = other_row fork first.0 c.decide-2.ensures.row in
    let front₂ = ap (take (c.in-Some.top + 1)) c.decide-2.ensures.place ∙ front_again c.in-Some.top c.in-Some-choose.i c.search.new.trail c.propagate.new.trail first.2 in
    let second = tried_from fork true row₂ front₂ c.if-search-2.ensures in
    let space = c.requires.0.space in
    let blocked = branch_both fork c.search.new.marks c.search-2.new.marks c.join.new.marks first.3 second.3 (λ k h. c.join.ensures.first k) (λ k h. c.join.ensures.second k (omega arith)) in
    let inside = c.in-Some-choose.ensures.0 in
    (omega arith, rw second.1 (branch_traced fork c.search-2.new.trail second.2 (c.search-2.auto.trail ∙ c.decide-2.auto.trail ∙ c.search.auto.trail ∙ c.decide.auto.trail ∙ c.propagate.auto.trail) c.join.new.marks (omega arith) blocked))

pub returns : goal.returns
returns t c =
    let fork = fork_from c.requires.0 c.in-Some.ensures.0 c.in-Some-choose.ensures c.in-Some.ensures.0.long c.propagate.auto.trail in
    let first = tried_from fork false c.decide.ensures.row (ap (take (c.in-Some.top + 1)) c.decide.ensures.place) c.if-search.ensures in
    let row₂ = other_row fork first.0 c.decide-2.ensures.row in
    let front₂ = ap (take (c.in-Some.top + 1)) c.decide-2.ensures.place ∙ front_again c.in-Some.top c.in-Some-choose.i c.search.new.trail c.propagate.new.trail first.2 in
    let second = tried_from fork true row₂ front₂ c.if-search-2.ensures in
    let back' = c.retreat-2.ensures.row ∙ ap (back (c.in-Some.top - c.args.mark) c.search-2.new.trail c.args.mark) second.1 in
    branch_stuck fork c.search-2.new.trail second.2 (c.search-2.auto.trail ∙ c.decide-2.auto.trail ∙ c.search.auto.trail ∙ c.decide.auto.trail ∙ c.propagate.auto.trail) c.retreat-2.new.values c.retreat-2.new.marks back' c.retreat-2.ensures.blocked
