use Rattle.std.proofs.Common.{◌≡◌, ℕ, ◌+◌, ◌<◌, ◌≤◌, Bool, true, false, List, [], ◌∷◌, length, get_or, drop, ℤ, pos, neg_ℤ, nat_abs, sym, ap, ◌∙◌, subst, arith, w32, SFits, to_z, of_z, rules}
use Rattle.std.proofs.lemmas.Bool.{cond-true, cond-false}
use Rattle.std.proofs.lemmas.List.{drop_more, at_drop_all}
use Rattle.std.proofs.lemmas.Int.{to_z-of_z}
use Rattle.strategy.specs.Signals.{b_signal}
use Rattle.formula.specs.declared.formula.Formula.{Formula}
use Rattle.formula.specs.Lists.{elem, keep, each}
use Rattle.formula.specs.Model.{qbf, level_at}
use Rattle.pool.specs.Append.{Room}
use Rattle.layout.specs.Laying.{lay, laid, Enough}
use Rattle.layout.specs.Places.{laid_as}
use Rattle.layout.specs.Opening.{device_record}
use Rattle.formula.proofs.ProperFormula.{proper}
use Rattle.layout.proofs.Formulas.{level_bounds}
use Rattle.layout.proofs.Room.{clause_next, room_for, room_after, laid_after}
use Rattle.layout.proofs.chains.Block.write_device.Goals as goal

-- what a function makes of the elements that pass, from a place on
module _ {B : Type 0} (g : ℤ → B) (p : ℤ → Bool) (ls : List ℤ) (i : ℕ) (x : ℤ) (here : i < length ls) (is : x ≡ get_or ls i (pos 0)) where
  made_here : p x ≡ true → each g (keep p (drop i ls)) ≡ g x ∷ each g (keep p (drop (i + 1) ls))
  made_here t = ap (λ l. each g (keep p l)) (drop_more ls i (pos 0) here ∙ ap (λ y. y ∷ drop (i + 1) ls) (sym is)) ∙ ap (each g) (cond-true _ _ _ t)

  made_past : p x ≡ false → each g (keep p (drop i ls)) ≡ each g (keep p (drop (i + 1) ls))
  made_past f = ap (λ l. each g (keep p l)) (drop_more ls i (pos 0) here ∙ ap (λ y. y ∷ drop (i + 1) ls) (sym is)) ∙ ap (each g) (cond-false _ _ _ f)

-- the b signal, as it is passed on
b_is : (w : ℤ) (n k : ℕ) (f : Formula) (i : ℕ) → SFits w32 w → w ≡ pos (b_signal n k i) → n ≡ (qbf f.parts).variables → k ≡ length (qbf f.parts).clauses
    → to_z w32 (of_z w32 w) ≡ pos (b_signal (qbf f.parts).variables (length (qbf f.parts).clauses) i)
b_is w n k f i fits is same also = to_z-of_z w32 w fits ∙ is ∙ ap (λ m. pos (b_signal m k i)) same ∙ ap (λ m. pos (b_signal (qbf f.parts).variables m i)) also

pub overflow_add-clause : goal.overflow_add-clause
overflow_add-clause c = let few = (proper c.args.self.now.formula.now).few_clauses in omega arith

pub device_record-requires : goal.device_record-requires
device_record-requires c =
    let f = c.args.self.now.formula.now in
    let few = (proper f).few_clauses in
    let fits : SFits w32 c.b_signal-left.result = search rules in
    let is = b_is c.b_signal-left.result c.variables.result c.clauses.result f c.args.clause fits c.b_signal-left.ensures c.variables.ensures.value c.clauses.ensures.value in (
      (level_bounds f c.args.self.now.level _ (sym c.if-not-is_at.ensures)).1,
      subst (λ z. nat_abs z ≤ 1280) (sym is) (let a = (proper f).few_variables in omega arith),
    )

-- what the loop writes next is the next record
pub lay-place-requires : goal.lay-place-requires
lay-place-requires c =
    let f = c.args.self.now.formula.now in
    let q = qbf c.args.self.now.formula.now.parts in
    let p : ℤ → Bool = λ x. elem (nat_abs x) (level_at q c.args.self.now.level) in
    let g = device_record q.clauses q.variables c.args.clause in
    let ls = c.in-Some.literals.now in
    let fits : SFits w32 (get_or c.in-Some.literals.now c.loop-l.l-index (pos 0)) = search rules in
    let fits' : SFits w32 c.b_signal-left.result = search rules in
    let is = b_is c.b_signal-left.result c.variables.result c.clauses.result f c.args.clause fits' c.b_signal-left.ensures c.variables.ensures.value c.clauses.ensures.value in
    let x = to_z w32 (of_z w32 (get_or ls c.loop-l.l-index (pos 0))) in
    let e = made_here g p ls c.loop-l.l-index x c.loop-l-test.true (to_z-of_z w32 (get_or ls c.loop-l.l-index (pos 0)) fits) (sym c.if-not-is_at.ensures) in
    let made : c.device_record.result ≡ g x = c.device_record.ensures ∙ ap (λ z. neg_ℤ x ∷ neg_ℤ z ∷ []) is in
    subst (λ xs. Room (length c.loop-l.pool) c.loop-l.place.used c.loop-l.place.head (length xs)) (sym made)
    (room_for (length c.args.pool.now) (laid_as c.loop-l.pool c.loop-l.place) (g x) _ _ e _ c.loop-l.auto.pool c.loop-l.invariant.1)

pub loop-l-preserved : goal.loop-l-preserved
loop-l-preserved c =
    let f = c.args.self.now.formula.now in
    let q = qbf c.args.self.now.formula.now.parts in
    let p : ℤ → Bool = λ x. elem (nat_abs x) (level_at q c.args.self.now.level) in
    let g = device_record q.clauses q.variables c.args.clause in
    let ls = c.in-Some.literals.now in
    let fits : SFits w32 (get_or c.in-Some.literals.now c.loop-l.l-index (pos 0)) = search rules in
    let fits' : SFits w32 c.b_signal-left.result = search rules in
    let is = b_is c.b_signal-left.result c.variables.result c.clauses.result f c.args.clause fits' c.b_signal-left.ensures c.variables.ensures.value c.clauses.ensures.value in
    let x = to_z w32 (of_z w32 (get_or ls c.loop-l.l-index (pos 0))) in
    let e = made_here g p ls c.loop-l.l-index x c.loop-l-test.true (to_z-of_z w32 (get_or ls c.loop-l.l-index (pos 0)) fits) (sym c.if-not-is_at.ensures) in
    let made : c.device_record.result ≡ g x = c.device_record.ensures ∙ ap (λ z. neg_ℤ x ∷ neg_ℤ z ∷ []) is in
    let s = laid_as c.loop-l.pool c.loop-l.place in
    let to = c.lay-place.ensures ∙ ap (lay s) made in
    let size = length c.args.pool.now in
    (laid_after size s (g x) _ _ e _ to ∙ c.loop-l.invariant.0, room_after size s (g x) _ _ e _ to c.loop-l.invariant.1)

pub loop-l-preserved-then-not-is_at : goal.loop-l-preserved-then-not-is_at
loop-l-preserved-then-not-is_at c =
    let q = qbf c.args.self.now.formula.now.parts in
    let p : ℤ → Bool = λ x. elem (nat_abs x) (level_at q c.args.self.now.level) in
    let g = device_record q.clauses q.variables c.args.clause in
    let ls = c.in-Some.literals.now in
    let fits : SFits w32 (get_or c.in-Some.literals.now c.loop-l.l-index (pos 0)) = search rules in
    let e = made_past g p ls c.loop-l.l-index _ c.loop-l-test.true (to_z-of_z w32 (get_or ls c.loop-l.l-index (pos 0)) fits) (sym c.if-not-is_at.ensures) in
    let s = laid_as c.loop-l.pool c.loop-l.place in
    (sym (ap (laid s) e) ∙ c.loop-l.invariant.0, subst (Enough (length c.args.pool.now) s) e c.loop-l.invariant.1)

pub returns : goal.returns
returns c =
    let q = qbf c.args.self.now.formula.now.parts in
    let p : ℤ → Bool = λ x. elem (nat_abs x) (level_at q c.args.self.now.level) in
    let g = device_record q.clauses q.variables c.args.clause in
    let ls = c.in-Some.literals.now in
    let s = laid_as c.loop-l.pool c.loop-l.place in
    sym (at_drop_all (λ l. laid s (each g (keep p l))) ls c.loop-l.l-index c.loop-l-test.false) ∙ c.loop-l.invariant.0
    ∙ ap (λ l. laid (laid_as c.args.pool.now c.args.place) (each g (keep p l))) (c.in-Some.ensures.2 ∙ clause_next q c.args.clause)
