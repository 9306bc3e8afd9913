use Rattle.std.proofs.Common.{length, replicate, sym, ap, ◌∙◌, subst, arith}
use Rattle.formula.specs.Model.{qbf}
use Rattle.reader.specs.Text.{reads}
use Rattle.layout.specs.Table.{Limits, Filled, blank}
use Rattle.layout.specs.Opening.{open_chains}
use Rattle.layout.specs.Laying.{laid}
use Rattle.layout.specs.Opened.{new_levels, unused, opened_game}
use Rattle.layout.proofs.Begun.{chains_some, length_put}
use Rattle.game.specs.Tables.{is_held, game_in}
use Rattle.game.specs.Opens.{open_gives, pool_after, game_after, holds_after}
use Rattle.formula.proofs.ProperFormula.{proper}
use Rattle.game.proofs.OpeningFits.{too_short, long_enough, never_both, same_ok}
use Rattle.layout.specs.Begun.{Begun}
use Rattle.layout.proofs.Shown.{begins as begins-so}
use Rattle.soundness.specs.Soundness.{SoundPool}
use Rattle.soundness.proofs.OpenSound.{open_sound}
use Rattle.game.proofs.opening.open.Goals as goal

pub returns-then-pool-words_needed : goal.returns-then-pool-words_needed
returns-then-pool-words_needed c =
    let q = qbf c.in_ok-formula.formula.parts in
    let size = length c.args.pool.now in
    let e = too_short size q (reads c.args.text.now) (omega arith) c.in_ok-formula.ensures.result (omega (arith, c.words_needed.ensures)) in
    record {
      gives = sym (ap open_gives e);
      words = sym (ap (pool_after c.args.pool.now) e);
      game = sym (ap (game_after (game_in c.args.table.now.game) c.args.number c.args.pool.now) e);
      holds = sym (ap (holds_after (is_held c.args.table.now.game)) e);
      begins = λ q' is. absurd (never_both _ _ q' e is);
      sound = λ q' is. absurd (never_both _ _ q' e is);
    }

pub invariant_of-table : goal.invariant_of-table
invariant_of-table c =
    let q = qbf c.in_ok-formula.formula.parts in
    let p = proper c.in_ok-formula.formula in
    let limits : Limits (opened_game q c.args.number c.args.pool.now) = (p.few_variables, p.few_clauses, p.few_levels, omega arith) in
    let filled : Filled (opened_game q c.args.number c.args.pool.now) = (chains_some (unused c.args.pool.now) (open_chains q) (omega arith), omega arith, length_put 0 (new_levels q.clauses q.variables (laid (unused c.args.pool.now) q.clauses) q.first q.levels) (replicate 32 blank)) in
    record { limits = subst Limits (sym c.write_game.ensures.game) limits; filled = subst Filled (sym c.write_game.ensures.game) filled }

pub returns : goal.returns
returns c =
    let q = qbf c.in_ok-formula.formula.parts in
    let size = length c.args.pool.now in
    let e = long_enough size q (reads c.args.text.now) (omega arith) c.in_ok-formula.ensures.result (omega (arith, c.words_needed.ensures)) in
    record {
      gives = sym (ap open_gives e);
      words = c.write_game.ensures.words ∙ sym (ap (pool_after c.args.pool.now) e);
      game = c.write_game.ensures.game ∙ sym (ap (game_after (game_in c.args.table.now.game) c.args.number c.args.pool.now) e);
      holds = sym (ap (holds_after (is_held c.args.table.now.game)) e);
      begins = λ q' is.
          subst (λ p. Begun p c.write_game.result c.write_game.new.pool) (same_ok _ q q' e is)
          (subst (λ g. Begun q g c.write_game.new.pool) (sym c.write_game.ensures.game)
          (subst (Begun q (opened_game q c.args.number c.args.pool.now)) (sym c.write_game.ensures.words)
          (begins-so q c.args.number c.args.pool.now (proper c.in_ok-formula.formula) (omega (arith, c.words_needed.ensures)) (omega arith))));
      sound = λ _ _.
          subst (λ g. SoundPool g c.write_game.new.pool) (sym c.write_game.ensures.game)
          (subst (SoundPool (opened_game q c.args.number c.args.pool.now)) (sym c.write_game.ensures.words)
          (open_sound q c.args.number c.args.pool.now (proper c.in_ok-formula.formula) (omega (arith, c.words_needed.ensures)) (omega arith)));
    }
