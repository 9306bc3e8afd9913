use Rattle.std.proofs.Common.{◌≡◌, ℕ, ◌-◌, Bool, true, false, ◌||◌, List, [], ◌∷◌, ◌++◌, get_or, ℤ, pos, nat_abs, sym, refl, ap, ◌∙◌, arith, w32, SFits, rules}
use Rattle.std.proofs.Math.Bool.{or-false}
use Rattle.std.proofs.lemmas.List.{take_all}
use Rattle.std.proofs.lemmas.Int.{to_z-of_z}
use Rattle.formula.specs.Lists.{keep, each}
use Rattle.formula.specs.Game.{Clauses, Values, hits}
use Rattle.formula.proofs.Ranges.{keep_same}
use Rattle.strategy.specs.Questions.{clause_of, clauses_named}
use Rattle.strategy.specs.Steps.{entry_set}
use Rattle.formula.specs.declared.side.Side.{Side}
use Rattle.formula.specs.declared.side.Side.TheVariants.{Ours, Device}
use Rattle.rules.specs.Naming.{base_of, wanted}
use Rattle.rules.proofs.Picked.{kept_name, left_name}
use Rattle.layout.specs.Viewed.{values_in, clauses_of}
use Rattle.layout.proofs.Shown.{nothing_before}
use Rattle.rules.proofs.sets.named_set.Goals as goal

-- the clause of a number, by subtraction
clause_by : (n k : ℕ) (σ : Side) (l : ℤ) (size base : ℕ) → size ≡ nat_abs l → base ≡ base_of n k σ → size - base - 1 ≡ clause_of n k σ l
clause_by n k Ours l size base e b = omega arith
clause_by n k Device l size base e b = omega arith

all_kept : (l : List ℕ) → keep (λ i. true) l ≡ l
all_kept [] = refl
all_kept (x ∷ l) = ap (λ r. x ∷ r) (all_kept l)

set_by : (C : Clauses) (σ : Side) (A : List ℕ) (x : Values) → keep (λ i. wanted σ (hits C x i)) A ≡ entry_set C σ A x
set_by C Ours A x = all_kept A
set_by C Device A x = refl

pub loop-name-preserved-then-not-is_wanted : goal.loop-name-preserved-then-not-is_wanted
loop-name-preserved-then-not-is_wanted c =
    let g = c.args.game.now in
    let p : ℕ → Bool = λ i. wanted c.args.side (get_or c.mark_hits.new.marks i false) in
    let name = get_or c.args.names.now c.loop-name.name-index (pos 0) in
    let fits : SFits w32 (get_or c.args.names.now c.loop-name.name-index (pos 0)) = search rules in
    let is = clause_by g.variables g.clauses c.args.side name c.magnitude.result c.base_of-base.result (c.magnitude.ensures ∙ ap nat_abs (to_z-of_z w32 name fits)) c.base_of-base.ensures.value in
    let e = left_name p (clause_of g.variables g.clauses c.args.side) c.args.names.now c.loop-name.name-index c.loop-name-test.true _ is (sym c.if-not-is_wanted.ensures) in
    (c.loop-name.invariant.0 ∙ sym e, omega (arith, c.loop-name.invariant.1))

pub loop-name-preserved : goal.loop-name-preserved
loop-name-preserved c =
    let g = c.args.game.now in
    let p : ℕ → Bool = λ i. wanted c.args.side (get_or c.mark_hits.new.marks i false) in
    let name = get_or c.args.names.now c.loop-name.name-index (pos 0) in
    let fits : SFits w32 (get_or c.args.names.now c.loop-name.name-index (pos 0)) = search rules in
    let is = clause_by g.variables g.clauses c.args.side name c.magnitude.result c.base_of-base.result (c.magnitude.ensures ∙ ap nat_abs (to_z-of_z w32 name fits)) c.base_of-base.ensures.value in
    let e = kept_name p (clause_of g.variables g.clauses c.args.side) c.args.names.now c.loop-name.name-index c.loop-name-test.true _ is (sym c.if-not-is_wanted.ensures) in
    let i = c.magnitude.result - c.base_of-base.result - 1 in
    (c.push.ensures.items ∙ ap (λ l. l ++ i ∷ []) c.loop-name.invariant.0 ∙ sym e, omega (arith, c.loop-name.invariant.1, c.push.ensures.len))

pub returns-clause-clauses : goal.returns-clause-clauses
returns-clause-clauses c =
    let g = c.args.game.now in
    let C = clauses_of g c.args.pool.now in
    let x = values_in g.variables c.args.chosen.now in
    let A = clauses_named g.variables g.clauses c.args.side c.args.names.now in
    let p : ℕ → Bool = λ i. wanted c.args.side (get_or c.mark_hits.new.marks i false) in
    let marked : (i : ℕ) → get_or c.mark_hits.new.marks i false ≡ hits C x i =
    λ i. c.mark_hits.ensures i ∙ ap (λ b. hits C x i || b) (nothing_before i) ∙ or-false (hits C x i) in
    c.loop-name.invariant.0
    ∙ ap (λ l. keep p (each (clause_of g.variables g.clauses c.args.side) l)) (take_all c.loop-name.name-index c.args.names.now c.loop-name-test.false)
    ∙ keep_same p (λ i. wanted c.args.side (hits C x i)) A (λ i. ap (wanted c.args.side) (marked i))
    ∙ set_by C c.args.side A x
