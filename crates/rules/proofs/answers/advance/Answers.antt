use Rattle.std.proofs.Common.{ℕ, ◌-◌, Bool, get_or, pos}
use lib.Signed.{lt_z}
use Rattle.rules.proofs.Chosen.{advanced, advanced_marks}
use Rattle.rules.proofs.answers.advance.Goals as goal

pub returns : goal.returns
returns c =
    let α : ℕ → Bool = λ v. lt_z (pos 0) (get_or c.args.words.now (v - 1) (pos 0)) in
    let g = c.args.game.now in
    let flags = c.read_level_values-level.result in
    let marks = c.mark_hits.new.marks in
    record {
      game = advanced g c.args.pool.now α flags marks c.requires.0.0 c.mark_hits.array_long c.read_level_values-level.ensures c.mark_hits.ensures;
      marked = advanced_marks g c.args.pool.now α flags marks c.requires.0.0 c.mark_hits.array_long c.read_level_values-level.ensures c.mark_hits.ensures;
    }
