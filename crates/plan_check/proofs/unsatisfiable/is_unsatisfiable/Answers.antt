use Rattle.std.proofs.Common.{◌≡◌, ℕ, ◌+◌, ◌*◌, Bool, false, length, get_or, sym, ap, ◌∙◌, subst, arith}
use Rattle.std.specs.List.{AllByRecursion}
use Rattle.pool.specs.Records.{records, Literal, Sound}
use Rattle.strategy.specs.Records.{assumptions}
use Rattle.strategy.specs.Questions.{assumed, assumed_clauses}
use Rattle.engine.specs.Meaning.{Clash}
use Rattle.layout.specs.Table.{level_of}
use Rattle.plan_check.proofs.Clashing.{unsatisfiable_clash, assumed_literals}
use Rattle.game.proofs.Replies.{clash_unsatisfiable}
use Rattle.plan_check.proofs.unsatisfiable.is_unsatisfiable.Goals as goal

pub says_no-requires : goal.says_no-requires
says_no-requires g c =
    let game = c.args.game.now in
    let n = game.variables in
    let k = game.clauses in
    let before : ℕ → Bool = λ i. get_or c.args.satisfied.now i false in
    let named = assumptions n k c.args.side (assumed_clauses k c.args.side before) in
    let cut : c.as_slice.result.now ≡ named = c.as_slice.ensures.value ∙ c.assumptions_of-assumed.ensures.list in
    let s : n + 2 * k ≡ c.count_signals.result = sym c.count_signals.ensures.value in
    let size = ap length c.as_slice.ensures.value in (
      omega (arith, c.requires.1.1),
      (
        omega (arith, c.count_signals.ensures.few),
        record {
          sound = subst (λ x. Sound x c.args.pool.now game.used (level_of game c.args.m).chain) s (c.requires.0.sound.levels c.args.m c.requires.1.0).chain;
          literals = subst (λ x. AllByRecursion (Literal x) c.as_slice.result.now) s (subst (AllByRecursion (Literal (n + 2 * k))) (sym cut) (assumed_literals n k c.args.side (assumed c.args.side before) 0 k (omega arith)));
          few = omega (arith, size, c.assumptions_of-assumed.ensures.few);
        },
      ),
    )

pub returns : goal.returns
returns g c =
    let game = c.args.game.now in
    let n = game.variables in
    let k = game.clauses in
    let before : ℕ → Bool = λ i. get_or c.args.satisfied.now i false in
    let named = assumptions n k c.args.side (assumed_clauses k c.args.side before) in
    let cut : c.as_slice.result.now ≡ named = c.as_slice.ensures.value ∙ c.assumptions_of-assumed.ensures.list in
    let rs = records c.args.pool.now (level_of game c.args.m).chain in
    let told = c.says_no.ensures in
    (λ e. clash_unsatisfiable rs named (subst (Clash rs) cut (told.0 e)), λ u. told.1 (subst (Clash rs) (sym cut) (unsatisfiable_clash rs named u)))
