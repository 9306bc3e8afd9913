use Rattle.std.proofs.Common.{◌≡◌, ◌+◌, ◌-◌, eqb, [], ◌∷◌, length, sym, refl, ap, ◌∙◌, subst, ⊎_elim, arith, rules}
use Rattle.std.proofs.lemmas.Bool.{cases_lt, false≢true}
use Rattle.std.proofs.lemmas.Bool.Decides.{not_from_Decides}
use Rattle.formula.specs.Lists.{In}
use Rattle.formula.specs.Backward.{onto, turned}
use Rattle.strategy.proofs.ListPlaces.{length-onto}
use Rattle.pool.specs.Records.{records}
use Rattle.pool.specs.Chains.{records_of}
use Rattle.layout.specs.Shown.{variables_at}
use Rattle.layout.specs.Viewed.{clauses_of}
use Rattle.layout.specs.Opening.{clause_records}
use Rattle.plan_check.specs.Made.{made_by}
use Rattle.plan_check.proofs.Opened.{gather_in, gather_out, made_here}
use Rattle.plan_check.proofs.Placed.{levels_fit, open_here}
use Rattle.plan_check.proofs.openings.is_opening.Goals as goal

pub loop-i-init : goal.loop-i-init
loop-i-init c =
    let g = c.args.game.now in
    let rs = records c.args.pool.now g.formula in
    let start : c.into_iter-i-iterator.result.a.iter.start ≡ 0 = search rules in
    let end : c.into_iter-i-iterator.result.a.iter.end ≡ c.args.game.now.clauses = search rules in
    let whole : records_of c.into_iter-i-iterator.result.b ≡ records_of c.chain.result = search rules in
    let same : records_of c.into_iter-i-iterator.result.b ≡ rs = whole ∙ c.chain.ensures.records (c.chain.ensures.sound.1 c.requires.0.sound.formula.chain) in (
      start,
      ap length same ∙ c.requires.0.sound.formula.count ∙ sym end,
      omega (arith, end),
      ([], ap turned (sym same)),
      (λ i l u h. absurd (omega (arith, end, l, u))),
    )

pub returns-then-is_clause_record : goal.returns-then-is_clause_record
returns-then-is_clause_record c =
    let g = c.args.game.now in
    let C = clauses_of g c.args.pool.now in
    let vs = variables_at g c.args.m in
    let last = eqb (c.args.m + 1) g.depth in
    let ys = c.args.numbers.now in
    let rest = records_of c.next.new.self.b in
    let k = c.in-Some.clause.now in
    let shape : records_of c.loop-i.i-iterator.b ≡ k ∷ rest = c.in-Some.ensures.steps.1 in
    let more = ap length shape in
    let left = c.loop-i.i-iterator.a.iter.end in
    let inv = c.loop-i.invariant in
    let step = c.in-Some.ensures.steps in
    let down : left - 1 ≡ c.in-Some.i = omega (arith, step.0.1.1, step.0.1.2) in
    let long : length rest ≡ left - 1 = omega (arith, inv.1, more) in
    let is = inv.3.1 ∙ ap (λ l. onto l inv.3.0) shape in
    let count : length C ≡ g.clauses = omega (arith, length-onto (records c.args.pool.now g.formula) [], c.requires.0.sound.formula.count) in
    let made = made_here C g.variables g.clauses c.args.side vs last count rest inv.3.0 k left is long in
    let found : In ys (clause_records C g.variables c.args.side vs last (left - 1)) = subst (In ys) (sym made)
    (subst (λ j. In ys (made_by g.variables g.clauses c.args.side vs last j k)) (sym down) (c.if-is_clause_record.ensures.0 refl)) in
    let same = open_here g c.args.pool.now C g.variables c.args.side vs c.args.m c.requires.1 (levels_fit g c.args.pool.now c.requires.0) in
    (λ _. subst (In ys) (sym same) (gather_in (clause_records C g.variables c.args.side vs last) ys 0 (length C) (left - 1) (omega arith) (omega (arith, inv.1, inv.2, more)) found), λ _. refl)

pub loop-i-preserved : goal.loop-i-preserved
loop-i-preserved c =
    let g = c.args.game.now in
    let C = clauses_of g c.args.pool.now in
    let vs = variables_at g c.args.m in
    let last = eqb (c.args.m + 1) g.depth in
    let ys = c.args.numbers.now in
    let rest = records_of c.next.new.self.b in
    let k = c.in-Some.clause.now in
    let shape : records_of c.loop-i.i-iterator.b ≡ k ∷ rest = c.in-Some.ensures.steps.1 in
    let more = ap length shape in
    let left = c.loop-i.i-iterator.a.iter.end in
    let inv = c.loop-i.invariant in
    let step = c.in-Some.ensures.steps in
    let down : left - 1 ≡ c.in-Some.i = omega (arith, step.0.1.1, step.0.1.2) in
    let long : length rest ≡ left - 1 = omega (arith, inv.1, more) in
    let is = inv.3.1 ∙ ap (λ l. onto l inv.3.0) shape in
    let count : length C ≡ g.clauses = omega (arith, length-onto (records c.args.pool.now g.formula) [], c.requires.0.sound.formula.count) in
    let made = made_here C g.variables g.clauses c.args.side vs last count rest inv.3.0 k left is long in
    let none = not_from_Decides _ c.if-is_clause_record.ensures refl in (
      step.0.0 ∙ inv.0,
      omega (arith, inv.1, more, step.0.1.2),
      omega (arith, inv.2, step.0.1.2),
      (k ∷ inv.3.0, is),
      (λ i l u h. ⊎_elim (λ above. inv.4 i (omega arith) u h)
          (λ here. let e : i ≡ left - 1 = omega arith in none (subst (λ j. In ys (made_by g.variables g.clauses c.args.side vs last j k)) down (subst (In ys) (ap (clause_records C g.variables c.args.side vs last) e ∙ made) h))) (cases_lt (left - 1) i)),
    )

pub returns : goal.returns
returns c =
    let g = c.args.game.now in
    let C = clauses_of g c.args.pool.now in
    let vs = variables_at g c.args.m in
    let last = eqb (c.args.m + 1) g.depth in
    let ys = c.args.numbers.now in
    let left = c.loop-i.i-iterator.a.iter.end in
    let start = c.loop-i.invariant.0 in
    let all = c.loop-i.invariant.1 in
    let empty : c.loop-i.i-iterator.a.iter.end ≡ 0 = ⊎_elim (λ a. let h = a.1 in omega (arith, h)) (λ b. let h = b.1.0 in omega (arith, ap length h, all)) c.in-None.ensures.steps in
    let count : length C ≡ g.clauses = omega (arith, length-onto (records c.args.pool.now g.formula) [], c.requires.0.sound.formula.count) in
    let same = open_here g c.args.pool.now C g.variables c.args.side vs c.args.m c.requires.1 (levels_fit g c.args.pool.now c.requires.0) in
    (λ f. absurd (false≢true f), λ w. absurd (let r = gather_out (clause_records C g.variables c.args.side vs last) ys 0 (length C) (subst (In ys) same w) in c.loop-i.invariant.4 r.0 (omega (arith, empty)) (omega (arith, r.2)) r.3))
