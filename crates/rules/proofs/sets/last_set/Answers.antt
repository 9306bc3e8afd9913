use Rattle.std.proofs.Common.{◌≡◌, ℕ, Bool, true, false, not, ◌&&◌, ◌||◌, [], ◌∷◌, ◌++◌, length, get_or, sym, ap, ◌∙◌, arith}
use Rattle.std.proofs.Math.Bool.{or-false}
use Rattle.formula.specs.Lists.{keep, below}
use Rattle.formula.specs.Game.{hits}
use Rattle.formula.proofs.Ranges.{keep_same}
use Rattle.strategy.proofs.ListPlaces.{length-onto}
use Rattle.pool.specs.Records.{records}
use Rattle.layout.specs.Viewed.{values_in, clauses_of}
use Rattle.layout.proofs.Shown.{nothing_before}
use Rattle.rules.proofs.Picked.{kept_below, left_below}
use Rattle.rules.proofs.sets.last_set.Goals as goal
use Rattle.rules.proofs.sets.last_set.Goals.{then-not-chosen-i-via-then-not-chosen-i, then-not-chosen-i-via-else-not-chosen-i+then-marks-i}

pub loop-i-preserved-then-not-chosen-i : goal.loop-i-preserved-then-not-chosen-i
loop-i-preserved-then-not-chosen-i c =
    let p : ℕ → Bool = λ j. get_or c.args.chosen.now.satisfied j false && not (get_or c.mark_hits.new.marks j false) in
    let i = c.loop-i.i in
    let out : p i ≡ false = elim c.then-not-chosen-i.branch [
      | then-not-chosen-i-via-then-not-chosen-i w ↦ ap (λ b. b && not (get_or c.mark_hits.new.marks i false)) w.if-not-chosen-i.true
      | then-not-chosen-i-via-else-not-chosen-i+then-marks-i w ↦ ap (λ b. b && not (get_or c.mark_hits.new.marks i false)) w.if-not-chosen-i.false ∙ ap not w.if-marks-i.true
    ] in
    (c.loop-i.invariant.0 ∙ sym (left_below p i out), omega (arith, c.loop-i.invariant.1))

pub loop-i-preserved : goal.loop-i-preserved
loop-i-preserved c =
    let p : ℕ → Bool = λ j. get_or c.args.chosen.now.satisfied j false && not (get_or c.mark_hits.new.marks j false) in
    let i = c.loop-i.i in
    let in' : p i ≡ true = ap (λ b. b && not (get_or c.mark_hits.new.marks i false)) c.if-not-chosen-i.false ∙ ap not c.if-marks-i.false in
    (c.push.ensures.items ∙ ap (λ l. l ++ i ∷ []) c.loop-i.invariant.0 ∙ sym (kept_below p i in'), omega (arith, c.loop-i.invariant.1, c.push.ensures.len))

pub returns-clause-clauses : goal.returns-clause-clauses
returns-clause-clauses c =
    let g = c.args.game.now in
    let C = clauses_of g c.args.pool.now in
    let x = values_in g.variables c.args.chosen.now in
    let before : ℕ → Bool = λ j. get_or c.args.chosen.now.satisfied j false in
    let p : ℕ → Bool = λ j. before j && not (get_or c.mark_hits.new.marks j false) in
    let marked : (j : ℕ) → get_or c.mark_hits.new.marks j false ≡ hits C x j =
    λ j. c.mark_hits.ensures j ∙ ap (λ b. hits C x j || b) (nothing_before j) ∙ or-false (hits C x j) in
    let long : c.loop-i.i ≡ length C = omega (arith, length-onto (records c.args.pool.now g.formula) [], c.requires.1.count) in
    c.loop-i.invariant.0
    ∙ keep_same p (λ j. before j && not (hits C x j)) (below c.loop-i.i) (λ j. ap (λ b. before j && not b) (marked j))
    ∙ ap (λ n. keep (λ j. before j && not (hits C x j)) (below n)) long
