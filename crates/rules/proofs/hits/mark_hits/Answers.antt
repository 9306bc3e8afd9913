use Rattle.std.proofs.Common.{◌≡◌, ◌-◌, ◌<◌, ◌≤◌, true, false, ◌||◌, [], ◌∷◌, length, get_or, set, sym, refl, ap, ◌∙◌, subst, arith, rules}
use Rattle.std.proofs.lemmas.List.{length-set}
use Rattle.formula.specs.Game.{hits}
use Rattle.formula.specs.Backward.{onto, turned}
use Rattle.strategy.proofs.ListPlaces.{length-onto}
use Rattle.pool.specs.Records.{records}
use Rattle.pool.specs.Chains.{records_of}
use Rattle.layout.specs.Viewed.{values_in, clauses_of}
use Rattle.rules.proofs.Marked.{none_above, miss_above, miss_under, hit_above, hit_under}
use Rattle.rules.proofs.hits.mark_hits.Goals as goal

pub loop-i-init : goal.loop-i-init
loop-i-init c =
    let g = c.args.game.now in
    let rs = records c.args.pool.now g.formula in
    let it = c.into_iter-i-iterator.result in
    let start : c.into_iter-i-iterator.result.a.iter.start ≡ 0 = search rules in
    let end : c.into_iter-i-iterator.result.a.iter.end ≡ c.args.game.now.clauses = search rules in
    let whole : records_of c.into_iter-i-iterator.result.b ≡ records_of c.chain.result = search rules in
    let same : records_of it.b ≡ rs = whole ∙ c.chain.ensures.records (c.chain.ensures.sound.1 c.requires.1.chain) in
    let count : length rs ≡ g.clauses = c.requires.1.count in
    let few : g.clauses ≤ 512 = c.requires.0.1 in
    let long = length-onto rs [] in
    let none = none_above (clauses_of g c.args.pool.now) _ c.args.marks.now g.clauses (omega arith) in (
      start,
      ap length same ∙ count ∙ sym end,
      c.told-marks,
      omega (arith, end, few),
      ([], ap turned (sym same)),
      (λ i low. none i (omega (arith, end, low))),
      (λ i h. refl),
    )

pub loop-i-preserved-then-not-is_hit : goal.loop-i-preserved-then-not-is_hit
loop-i-preserved-then-not-is_hit c =
    let g = c.args.game.now in
    let C = clauses_of g c.args.pool.now in
    let x = values_in g.variables c.args.level.now in
    let rest = records_of c.next.new.self.b in
    let k = c.in-Some.clause.now in
    let shape : records_of c.loop-i.i-iterator.b ≡ k ∷ rest = c.in-Some.ensures.steps.1 in
    let more = ap length shape in
    let left = c.loop-i.i-iterator.a.iter.end in
    let inv = c.loop-i.invariant in
    let h = c.in-Some.ensures.steps in
    let down : left - 1 ≡ c.in-Some.i = omega (arith, h.0.1.1, h.0.1.2) in
    let long : length rest ≡ left - 1 = omega (arith, inv.1, more) in
    let some : 0 < left = omega (arith, inv.1, more) in
    let is = inv.4.1 ∙ ap (λ l. onto l inv.4.0) shape in (
      h.0.0 ∙ inv.0,
      omega (arith, inv.1, more, h.0.1.2),
      inv.2,
      omega (arith, inv.3, h.0.1.2),
      (k ∷ inv.4.0, is),
      (λ i low. miss_above C x c.args.marks.now c.loop-i.marks rest inv.4.0 k left is long some inv.5 inv.6 (sym c.if-not-is_hit.ensures) i (omega (arith, h.0.1.2))),
      (λ i high. miss_under C x c.args.marks.now c.loop-i.marks rest inv.4.0 k left is long some inv.5 inv.6 i (omega (arith, h.0.1.2))),
    )

pub loop-i-preserved : goal.loop-i-preserved
loop-i-preserved c =
    let g = c.args.game.now in
    let C = clauses_of g c.args.pool.now in
    let x = values_in g.variables c.args.level.now in
    let rest = records_of c.next.new.self.b in
    let k = c.in-Some.clause.now in
    let shape : records_of c.loop-i.i-iterator.b ≡ k ∷ rest = c.in-Some.ensures.steps.1 in
    let more = ap length shape in
    let left = c.loop-i.i-iterator.a.iter.end in
    let inv = c.loop-i.invariant in
    let h = c.in-Some.ensures.steps in
    let down : left - 1 ≡ c.in-Some.i = omega (arith, h.0.1.1, h.0.1.2) in
    let long : length rest ≡ left - 1 = omega (arith, inv.1, more) in
    let some : 0 < left = omega (arith, inv.1, more) in
    let is = inv.4.1 ∙ ap (λ l. onto l inv.4.0) shape in
    let room : left - 1 < length c.loop-i.marks = omega (arith, inv.2, inv.3) in (
      h.0.0 ∙ inv.0,
      omega (arith, inv.1, more, h.0.1.2),
      length-set c.loop-i.marks c.in-Some.i true ∙ inv.2,
      omega (arith, inv.3, h.0.1.2),
      (k ∷ inv.4.0, is),
      (λ i low. subst (λ j. get_or (set c.loop-i.marks j true) i false ≡ (hits C x i || get_or c.args.marks.now i false)) down
          (hit_above C x c.args.marks.now c.loop-i.marks rest inv.4.0 k left is long some inv.5 inv.6 room (sym c.if-not-is_hit.ensures) i (omega (arith, h.0.1.2)))),
      (λ i high. subst (λ j. get_or (set c.loop-i.marks j true) i false ≡ get_or c.args.marks.now i false) down
          (hit_under C x c.args.marks.now c.loop-i.marks rest inv.4.0 k left is long some inv.5 inv.6 room i (omega (arith, h.0.1.2)))),
    )

pub bounds-marks-i : goal.bounds-marks-i
bounds-marks-i c =
    let h = c.in-Some.ensures.steps in
    omega (arith, h.0.1.1, h.0.1.2, c.loop-i.invariant.2, c.loop-i.invariant.3)
