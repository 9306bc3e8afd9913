use Rattle.std.proofs.Common.{◌≡◌, length, rules}
use Rattle.pool.specs.Chains.{records_of}
use Rattle.branching.proofs.Models.{solved_from}
use Rattle.branching.proofs.solve.solve.Goals as goal

pub returns-in-Some : goal.returns-in-Some
returns-in-Some c =
    let size : length c.search.new.values ≡ c.args.chain.signals = search rules in
    solved_from c.args.chain.signals (records_of c.args.chain) c.args.assumptions.now c.suppose.new.values c.search.new.values _ c.suppose.new.trail c.search.new.trail c.in-Some.top c.suppose.new.marks c.search.new.marks c.search.result size c.in-Some.ensures c.search.ensures
