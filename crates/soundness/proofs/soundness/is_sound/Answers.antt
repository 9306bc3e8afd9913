use Rattle.std.proofs.Common.{arith, rules}
use Rattle.std.proofs.lemmas.Bool.Decides.{Decides-like}
use Rattle.std.proofs.lemmas.Iterator.{cases_from_all, YieldsList-from_range}
use Rattle.soundness.specs.Soundness.{SoundLevel}
use Rattle.soundness.proofs.Chained.{all_told, row_told}
use Rattle.soundness.proofs.soundness.is_sound.Goals as goal

pub returns : goal.returns
returns c =
    let g = c.args.game.now in
    let pool = c.args.pool.now in
    let levels = row_told (SoundLevel g pool) g.depth c.all.result
    (all_told (SoundLevel g pool) _ c.all.result
    (cases_from_all c.all.new.self _ c.all.result (SoundLevel g pool) (λ m. SoundLevel g pool m → ⊥) c.all.ensures.ran (YieldsList-from_range 0 g.depth g.depth (search rules) (omega arith))
    (λ x q k. search rules) (λ x q k. search rules))) in
    Decides-like c.all.result (λ h. record { size = search rules; formula = search rules; levels = h }) (λ s. s.levels) levels
