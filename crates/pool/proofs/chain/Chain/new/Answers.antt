use Rattle.std.proofs.Common.{length, refl}
use Rattle.pool.proofs.Chains.{linked_within}
use Rattle.pool.proofs.Tested.{test_from_linked}
use Rattle.pool.proofs.chain.Chain.new.Goals as goal
use Rattle.pool.proofs.chain.Chain.new.Goals.{then-whole, else-whole}

pub invariant_of-result : goal.invariant_of-result
invariant_of-result c =
    let pool = c.args.pool.now in record {
      sound = elim c.if-whole.branch [
        | then-whole w ↦
            let sound = w.if-whole.ensures.0 refl in
            rw w.at-is (test_from_linked c.args.signals pool (length pool) c.args.head c.args.head
            (linked_within c.args.signals pool c.args.used (length pool) sound.0 c.args.head c.args.head sound.1))
        | else-whole w ↦ rw w.at-is
      ];
    }
