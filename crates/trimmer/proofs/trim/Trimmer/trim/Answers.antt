use Rattle.std.proofs.Common.{◌≡◌, ◌-◌, ◌≤◌, length, take, sym, refl, ap, ◌∙◌, arith, rules, below_more}
use Rattle.std.proofs.lemmas.List.{length-take-le, take_at}
use Rattle.std.proofs.lemmas.Bool.{false≢true}
use Rattle.engine.specs.Asking.{asked}
use Rattle.engine.specs.Meaning.{clauses, Clash, Part}
use Rattle.engine.proofs.Parts.{part_same, part_trans}
use Rattle.trimmer.specs.Trim.{without}
use Rattle.trimmer.proofs.Without.{part_without, needed_without, proper_part}
use Rattle.trimmer.proofs.trim.Trimmer.trim.Goals as goal

pub loop-i-init : goal.loop-i-init
loop-i-init g c =
    (omega arith, omega arith, part_same _, c.requires.1.1.1.1, (λ k h. absurd (omega arith)), search rules, search rules, search rules)

pub clashes-requires : goal.clashes-requires
clashes-requires g c =
    let q = asked c.args.question in
    let left = take c.loop-i.n c.loop-i.self.named in
    let cut : take (c.loop-i.n - 1) c.leave_out.new.trial ≡ without left c.loop-i.i = ap (λ k. take (k - 1) c.leave_out.new.trial) (sym (length-take-le c.loop-i.n c.loop-i.self.named (search rules))) ∙ c.leave_out.ensures in
    let fewer : Part (without left c.loop-i.i) (take c.args.count c.args.self.now.named) = part_trans (part_without left c.loop-i.i) c.loop-i.invariant.2 in
    let proper = proper_part q (without left c.loop-i.i) (take c.args.count c.args.self.now.named) c.requires.1.1.1.0 fewer in
    (c.requires.0, (omega arith, rw cut proper))

-- one is dropped
pub loop-i-preserved-then-clashes : goal.loop-i-preserved-then-clashes
loop-i-preserved-then-clashes g c =
    let left = take c.loop-i.n c.loop-i.self.named in
    let cut : take (c.loop-i.n - 1) c.leave_out.new.trial ≡ without left c.loop-i.i = ap (λ k. take (k - 1) c.leave_out.new.trial) (sym (length-take-le c.loop-i.n c.loop-i.self.named (search rules))) ∙ c.leave_out.ensures in
    let q = clauses (asked c.args.question) in
    let less = c.loop-i.n - 1 in
    let room : less ≤ length c.leave_out.new.trial = search rules in
    let is : take less c.copy_front.new.to ≡ without left c.loop-i.i =
    ap (take less) c.copy_front.ensures ∙ take_at (take less c.leave_out.new.trial) _ less (length-take-le less c.leave_out.new.trial room) ∙ cut in
    let clash : Clash q (without left c.loop-i.i) = rw cut at (c.if-clashes.ensures.0 refl) in
    rw is (
      omega arith,
      omega arith,
      part_trans (part_without left c.loop-i.i) c.loop-i.invariant.2,
      clash,
      needed_without q left c.loop-i.i c.loop-i.invariant.4,
      search rules,
      search rules,
      search rules,
    )

-- one is needed
pub loop-i-preserved : goal.loop-i-preserved
loop-i-preserved g c =
    let left = take c.loop-i.n c.loop-i.self.named in
    let cut : take (c.loop-i.n - 1) c.leave_out.new.trial ≡ without left c.loop-i.i = ap (λ k. take (k - 1) c.leave_out.new.trial) (sym (length-take-le c.loop-i.n c.loop-i.self.named (search rules))) ∙ c.leave_out.ensures in
    let q = clauses (asked c.args.question) in
    let need' : Clash q (without left c.loop-i.i) → ⊥ =
    λ clash. false≢true (c.if-clashes.ensures.1 (rw cut clash)) in (
      omega arith,
      c.loop-i.invariant.1,
      c.loop-i.invariant.2,
      c.loop-i.invariant.3,
      below_more _ _ c.loop-i.invariant.4 need',
      c.loop-i.invariant.5,
      search rules,
      search rules,
    )
