use Rattle.std.proofs.Common.{◌≡◌, length, replicate, None, sym, ap, ◌∙◌, subst, arith}
use Rattle.formula.specs.Model.{qbf}
use Rattle.layout.specs.Laying.{Laid, laid, laid_chains, EnoughChains}
use Rattle.layout.specs.Places.{laid_as}
use Rattle.layout.specs.Opening.{level_chains, open_chains}
use Rattle.layout.specs.Opened.{unused, new_levels, put_from}
use Rattle.layout.specs.Table.{blank}
use Rattle.layout.proofs.Records.{same_game}
use Rattle.layout.proofs.Begun.{enough_others}
use Rattle.layout.proofs.writing.write_game.Goals as goal

pub write_levels-end-requires : goal.write_levels-end-requires
write_levels-end-requires c =
    let q = qbf c.args.formula.now.parts in
    let rest = level_chains q.clauses q.variables q.first q.levels in
    let all : EnoughChains (length c.args.pool.now) (unused c.args.pool.now) (open_chains q) = record { some = omega arith; within = omega (arith, c.requires.0); indexed = omega (arith, c.requires.1) } in
    subst (λ m. EnoughChains m (laid_as c.write_clauses-clauses.new.pool c.write_clauses-clauses.result) rest) (sym c.write_clauses-clauses.auto.pool)
    (subst (λ s. EnoughChains (length c.args.pool.now) s rest) (sym c.write_clauses-clauses.ensures) (enough_others (length c.args.pool.now) (unused c.args.pool.now) q.clauses rest all))

pub returns : goal.returns
returns c =
    let q = qbf c.args.formula.now.parts in
    let rest = level_chains q.clauses q.variables q.first q.levels in
    let begun = c.write_clauses-clauses.ensures in
    let whole : laid_as c.write_levels-end.new.pool c.write_levels-end.result ≡ laid_chains (unused c.args.pool.now) (open_chains q) =
    c.write_levels-end.ensures.words ∙ ap (λ s. laid_chains s rest) begun in
    let levels : c.write_levels-end.new.levels ≡ put_from 0 (new_levels q.clauses q.variables (laid (unused c.args.pool.now) q.clauses) q.first q.levels) (replicate 32 blank) =
    c.write_levels-end.ensures.levels ∙ ap (λ s. put_from 0 (new_levels q.clauses q.variables s q.first q.levels) (replicate 32 blank)) begun in
    let head = ap (λ (s : Laid). s.head) begun in
    let used = ap (λ (s : Laid). s.used) whole in
    let v = c.variables.ensures.value in
    let k = c.clauses.ensures.value in
    let d = c.levels.ensures.value in
    record {
      words = ap (λ (s : Laid). s.words) whole;
      game = same_game 0 c.args.number (length c.args.pool.now) None v k d levels head used;
    }
