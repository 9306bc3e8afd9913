use Rattle.std.proofs.Common.{Bool, false, List, replicate, ap}
use Rattle.layout.specs.declared.game.Level.{Level}
use Rattle.layout.proofs.begin.new_level.Goals as goal

pub returns : goal.returns
returns c =
    let make : List Bool → Level = λ fl. record { side = c.args.block.now.side; variables = fl; chain = c.args.chain; entries = 0; satisfied = replicate 512 false; values = replicate 257 false } in
    ap make c.level_flags.ensures
