use Rattle.std.proofs.Common.{ℕ, sym, ◌∙◌, subst, ⊎_elim, le_trans, arith}
use Rattle.std.specs.List.{AllByRecursion}
use Rattle.pool.specs.Chains.{records_of}
use Rattle.propagation.specs.Steps.{Silent}
use Rattle.branching.specs.Search.{place_in, From}
use Rattle.branching.proofs.Choosing.{Heard, heard_among, from_lower, chosen_from}
use Rattle.branching.proofs.choose.choose.Goals as goal

pub loop-numbers-preserved : goal.loop-numbers-preserved
loop-numbers-preserved c =
    let row = c.args.values.now in
    let cs = records_of c.args.chain in
    let xs = c.in-Some.numbers.now in
    let low = c.lowest-low.ensures in
    let silent = λ (j : ℕ) (all : AllByRecursion (Silent row j) cs). subst (AllByRecursion (Silent row j)) c.in-Some.ensures.records (c.loop-numbers.invariant.3 j all) in (
      c.in-Some.ensures.same.0 ∙ c.loop-numbers.invariant.0,
      ⊎_elim (λ e. subst (Heard row cs) (sym e) c.loop-numbers.invariant.1) (λ o. heard_among row xs cs c.lowest-low.result (λ j all. (silent j all).0) o) low.1,
      (λ m h all.
          c.loop-numbers.invariant.2 m (le_trans h low.0)
          (subst (AllByRecursion (From row m)) (sym c.in-Some.ensures.records) (from_lower row m (place_in row c.lowest-low.result) xs h low.2, all))),
      (λ j all. (silent j all).1),
    )

pub returns : goal.returns
returns c =
    let row = c.args.values.now in
    let m = place_in row c.loop-numbers.low in
    chosen_from row (records_of c.args.chain) c.loop-numbers.low c.loop-numbers.invariant.1
    (c.loop-numbers.invariant.2 m (omega arith) (subst (AllByRecursion (From row m)) (sym c.in_default.ensures.records) tt)) c.requires.1
