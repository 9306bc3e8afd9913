use Rattle.std.proofs.Common.{◌+◌, inr, ⊎_elim}
use Rattle.std.proofs.lemmas.Bool.Decides.{Decides-like, not_from_Decides}
use Rattle.strategy.specs.Check.{entries_at}
use Rattle.layout.specs.Viewed.{clauses_of}
use Rattle.plan_check.specs.Places.{shown_from}
use Rattle.plan_check.proofs.Learning.{learned_record_lem}
use Rattle.plan_check.proofs.Placed.{clauses_count}
use Rattle.plan_check.proofs.chains.record_holds.Goals as goal

pub returns-else-is_opening : goal.returns-else-is_opening
returns-else-is_opening c =
    let g = c.args.game.now in
    let pool = c.args.pool.now in
    let rec = c.args.numbers.now in
    let numbers = learned_record_lem (clauses_of g pool) g.variables g.clauses c.args.side rec (entries_at (shown_from g pool (c.args.m + 1))) (clauses_count g pool c.requires.0.sound.formula) in
    Decides-like c.is_learned.result (λ h. inr (numbers.1 h))
    (λ w. ⊎_elim (λ opening. absurd (not_from_Decides _ c.is_opening.ensures c.if-is_opening.false opening)) numbers.0 w) c.is_learned.ensures
