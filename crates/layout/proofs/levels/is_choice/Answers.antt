use Rattle.std.proofs.Common.{◌≡◌, suc, ◌≤◌, true, false, List, [], ◌∷◌, eqb, length, ℤ, nat_abs, refl, sym, ◌∙◌, arith, w32, SFits, rules}
use Rattle.std.proofs.lemmas.Int.{to_z-of_z}
use Rattle.std.proofs.lemmas.Bool.{ne_eqb}
use Rattle.formula.specs.Backward.{is_choice}
use Rattle.layout.specs.Shown.{binds_in}
use Rattle.layout.proofs.Choosing.{choice_past, choice_more, choice_other, choice_short, choice_end}
use Rattle.layout.proofs.levels.is_choice.Goals as goal

none_left : (xs : List ℤ) → length xs ≡ 0 → xs ≡ []
none_left [] e = refl
none_left (x ∷ xs) e = absurd (omega arith)

no_variable : (xs : List ℤ) → is_choice xs [] ≡ eqb (length xs) 0
no_variable [] = refl
no_variable (x ∷ xs) = sym (ne_eqb (suc (length xs)) 0 (λ e. omega arith))

pub loop-v-preserved-then-not-game-m : goal.loop-v-preserved-then-not-game-m
loop-v-preserved-then-not-game-m c =
    let g = c.args.game.now in
    let h : c.loop-v.v ≤ c.args.game.now.variables = omega arith in
    c.loop-v.invariant ∙ choice_past (binds_in g c.args.m) g.variables c.loop-v.v _ h c.if-not-game-m.true

pub loop-v-preserved : goal.loop-v-preserved
loop-v-preserved c =
    let g = c.args.game.now in
    let h : c.loop-v.v ≤ c.args.game.now.variables = omega arith in
    let x = c.in-Some.x.now in
    let fits : SFits w32 c.in-Some.x.now = search rules in
    let is : eqb (nat_abs x) c.loop-v.v ≡ true = sym (simp to_z-of_z at c.if-is_literal.ensures) in
    c.loop-v.invariant ∙ choice_more (binds_in g c.args.m) g.variables c.loop-v.v h c.if-not-game-m.false c.loop-v.rest.now x c.in-Some.after.now c.in-Some.ensures.cases.0 is

pub returns-in_default : goal.returns-in_default
returns-in_default c =
    let g = c.args.game.now in
    let h : c.loop-v.v ≤ c.args.game.now.variables = omega arith in
    let x = c.in-Some.x.now in
    let fits : SFits w32 c.in-Some.x.now = search rules in
    let is : eqb (nat_abs x) c.loop-v.v ≡ false = sym (simp to_z-of_z at c.if-is_literal.ensures) in
    sym (c.loop-v.invariant ∙ choice_other (binds_in g c.args.m) g.variables c.loop-v.v h c.if-not-game-m.false c.loop-v.rest.now x c.in-Some.after.now c.in-Some.ensures.cases.0 is)

pub returns-in_default-2 : goal.returns-in_default-2
returns-in_default-2 c =
    let g = c.args.game.now in
    let h : c.loop-v.v ≤ c.args.game.now.variables = omega arith in
    let empty : length c.loop-v.rest.now ≡ 0 = search rules in
    sym (c.loop-v.invariant ∙ choice_short (binds_in g c.args.m) g.variables c.loop-v.v h c.if-not-game-m.false c.loop-v.rest.now (none_left c.loop-v.rest.now empty))

pub returns : goal.returns
returns c =
    let g = c.args.game.now in
    c.is_empty.ensures ∙ sym (c.loop-v.invariant ∙ choice_end (binds_in g c.args.m) g.variables c.loop-v.v c.loop-v.rest.now (omega arith) ∙ no_variable c.loop-v.rest.now)
