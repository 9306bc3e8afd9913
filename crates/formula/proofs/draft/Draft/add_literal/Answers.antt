use Rattle.std.proofs.Common.{◌≡◌, ◌+◌, ◌<◌, false, leb, length, get_or, pos, nat_abs, sym, ap, ◌∙◌, subst, arith, w32, SFits, to_z, of_z, rules}
use Rattle.std.proofs.lemmas.Int.{to_z-of_z}
use Rattle.formula.specs.Built.{built, outcome, leaves}
use Rattle.formula.proofs.Arrays.{written}
use Rattle.formula.proofs.Adds.{adding_ok, with_literal, built_literal}
use Rattle.formula.proofs.draft.Draft.add_literal.Goals as goal

pub invariant_of-self : goal.invariant_of-self
invariant_of-self c =
    let old = c.args.self.now in
    let p = old.parts in
    let l = to_z w32 (of_z w32 c.args.literal) in
    let inside : p.count < length p.literals = search rules in
    let is : nat_abs l ≡ c.unsigned_abs-variable.result = sym c.unsigned_abs-variable.ensures.value in
    let here : 0 < get_or p.bound (nat_abs l) 0 = subst (λ v. 0 < get_or p.bound v 0) (sym is) (omega arith) in record {
      limits = (omega arith, omega arith, omega arith, omega arith);
      ordered = old.ordered;
      ends = (old.ends.0, omega (arith, old.ends.1));
      declared = old.declared;
      leveled = old.leveled;
      closed = λ j h. written (λ u x. u < p.count + 1 → 0 < get_or p.bound (nat_abs x) 0) p.literals p.count l (pos 0) inside (λ _. here) (λ u n k. old.closed u (omega arith)) j h;
      filled = old.filled;
    }

pub returns : goal.returns
returns c =
    let p = c.args.self.now.parts in
    let x = c.args.literal in
    let fits : SFits w32 x = search rules in
    let same : to_z w32 (of_z w32 x) ≡ x = to_z-of_z w32 x fits in
    let inside : p.count < length p.literals = search rules in
    let is : nat_abs x ≡ c.unsigned_abs-variable.result = ap nat_abs (sym same) ∙ sym c.unsigned_abs-variable.ensures.value in
    let few : leb 4096 p.count ≡ false = search rules in
    let ok = adding_ok x (built p) (omega arith) (λ e. c.if-self-variable-eq0.false (ap (λ v. get_or p.bound v 0) (sym is) ∙ e)) few in
    record {
      added = sym (ap outcome ok);
      after = ap (λ l. built (with_literal l p)) same ∙ built_literal x p c.args.self.now.ordered c.args.self.now.ends inside ∙ sym (ap (leaves (built p)) ok);
    }
