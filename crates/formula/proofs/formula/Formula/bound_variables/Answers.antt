use Rattle.std.proofs.Common.{ℕ, ◌+◌, ◌-◌, ◌≤◌, length, refl, ap, ◌∙◌, arith, rules, tests}
use Rattle.std.proofs.lemmas.Iterator.{YieldsList-from_range, YieldsList-from_map}
use Rattle.std.proofs.lemmas.Iterator.Consumers.{sum_by_from_yields_List}
use Rattle.std.proofs.lemmas.Iterator.Adapters.{fits_from_length, at_most_from_yields_List}
use Rattle.std.proofs.lemmas.List.FromFn.{length-range_with_len}
use Rattle.std.specs.List.{range_with_len}
use Rattle.std.specs.declared.ops.Range.{Range}
use Rattle.std.specs.Iterator.Adapters.{map_source}
use Rattle.formula.specs.Found.{variables_of}
use Rattle.formula.proofs.Looked.{bound_sum}
use Rattle.formula.proofs.formula.Formula.bound_variables.Goals as goal

pub sum-requires-clause-fits : goal.sum-requires-clause-fits
sum-requires-clause-fits c =
    let r = map_source c.map.result in
    let few : r.end - r.start ≤ 32 = omega (arith, ap (λ (s : Range ℕ). s.end) c.map.ensures.source, ap (λ (s : Range ℕ). s.start) c.map.ensures.source) in
    fits_from_length _ _ 32 _ (at_most_from_yields_List (YieldsList-from_range r.start r.end (r.end - r.start) refl refl) (omega (arith, length-range_with_len r.start (r.end - r.start)))) c.map.ensures.closure (omega arith) (λ x r q k. search (rules, tests))

pub returns : goal.returns
returns c =
    let f = variables_of c.args.self.now.parts.variables c.args.self.now.parts.bound in
    let n = c.args.self.now.parts.levels in
    sum_by_from_yields_List (λ m. length (f m)) (range_with_len 1 n) c.map.result c.sum.result c.sum.ensures.ran
    (YieldsList-from_map _ (λ m. length (f m)) (YieldsList-from_range 1 (n + 1) n (cc) (omega arith)) c.map.ensures.closure (λ x r q k. search (rules, tests)))
    ∙ bound_sum f 1 n
