use Rattle.std.proofs.Common.{refl, arith, lit≤}
use Rattle.formula.proofs.Zeros.{zeros_le, zeros_none}
use Rattle.formula.proofs.draft.Draft.new.Goals as goal

pub invariant_of-result : goal.invariant_of-result
invariant_of-result c = record {
  limits = (omega arith, lit≤ tt, lit≤ tt, lit≤ tt);
  ordered = λ i h. absurd (omega arith);
  ends = (refl, lit≤ tt);
  declared = λ v h. absurd (zeros_none 257 v h);
  leveled = λ v. zeros_le 257 v 0;
  closed = λ j h. absurd (omega arith);
  filled = λ m h k. absurd (omega arith);
}
