use Rattle.std.proofs.Common.{◌<◌, ◌≤◌, length, get_or, pos, nat_abs, sym, subst, arith, rules}
use Rattle.formula.proofs.Arrays.{written, lower_level_same}
use Rattle.formula.proofs.draft.Draft.bind.Goals as goal

pub invariant_of-self : goal.invariant_of-self
invariant_of-self c =
    let old = c.args.self.now in
    let b = old.parts.bound in
    let m = old.parts.levels in
    let v = c.args.variable in
    let inside : v < length b = search rules in
    let room : 0 < m = search rules in
    let top : v ≤ old.parts.variables = search rules in
    let some : 0 < v = search rules in
    let free : get_or b v 0 ≤ 0 = search rules in record {
      limits = old.limits;
      ordered = old.ordered;
      ends = old.ends;
      declared = written (λ u x. 0 < x → (0 < u) × (u ≤ old.parts.variables)) b v m 0 inside (λ _. (some, top)) (λ u _. old.declared u);
      leveled = written (λ u x. x ≤ m) b v m 0 inside (omega arith) (λ u _. old.leveled u);
      closed = λ j h. written (λ u x. 0 < get_or b u 0 → 0 < x) b v m 0 inside (λ _. room) (λ u _ k. k) (nat_abs (get_or old.parts.literals j (pos 0))) (old.closed j h);
      filled = λ j h k. subst (λ l. 0 < length l) (sym (lower_level_same old.parts.variables b v m j inside free h k)) (old.filled j h k);
    }
