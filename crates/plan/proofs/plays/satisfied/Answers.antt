use Rattle.std.proofs.Common.{◌≡◌, ℕ, ◌-◌, ◌<◌, ◌≤◌, false, get_or, length, set, ap, ◌∙◌, subst, arith}
use Rattle.std.proofs.lemmas.List.{length-set}
use Rattle.formula.specs.Game.{hits}
use Rattle.pool.specs.Chains.{records_of}
use Rattle.layout.specs.Viewed.{clauses_of}
use Rattle.plan.proofs.Playing.{left_agree, marked_more}
use Rattle.plan.proofs.plays.satisfied.Goals as goal

pub bounds-hit-i : goal.bounds-hit-i
bounds-hit-i c =
    let h = c.in-Some.ensures.steps in
    let inv = c.loop-i.invariant in
    let few : c.args.game.now.clauses ≤ 512 = c.requires.0.1 in
    omega (arith, h.0.1.1, h.0.1.2, inv.5)

pub loop-i-preserved : goal.loop-i-preserved
loop-i-preserved c =
    let g = c.args.game.now in
    let C = clauses_of g c.args.pool.now in
    let h = c.in-Some.ensures.steps in
    let l = records_of c.loop-i.i-iterator.b in
    let r = records_of c.next.new.self.b in
    let is = h.1 in
    let inv = c.loop-i.invariant in
    let end = c.loop-i.i-iterator.a.iter.end in
    let count : length (records_of c.loop-i.i-iterator.b) ≡ _ = ap length is in
    let few : c.args.game.now.clauses ≤ 512 = c.requires.0.1 in
    let i : end - 1 ≡ c.in-Some.i = omega (arith, h.0.1.1, h.0.1.2) in
    let marked = marked_more C l r c.in-Some.clause.now is inv.2 c.args.play.now c.loop-i.hit end g.clauses inv.1 inv.4 few inv.5 inv.3 c.is_hit.result c.is_hit.ensures in
    let here = λ (j : ℕ) (low : c.next.new.self.a.iter.end ≤ j) (high : j < g.clauses).
    subst (λ k. get_or (set c.loop-i.hit k c.is_hit.result) j false ≡ hits C c.args.play.now j) i (marked j (omega (arith, h.0.1.1, h.0.1.2)) high) in
    (h.0.0 ∙ inv.0, omega (arith, count, inv.1, h.0.1.2), left_agree C l r c.in-Some.clause.now is inv.2, here, length-set c.loop-i.hit _ _ ∙ inv.4, omega (arith, h.0.1.2, inv.5))
