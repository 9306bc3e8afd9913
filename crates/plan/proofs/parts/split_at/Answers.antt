use Rattle.std.proofs.Common.{◌≡◌, ℕ, ◌+◌, ◌-◌, List, length, ℤ, sym, ap, ◌∙◌, ap₂, arith}
use Rattle.strategy.specs.Entries.{Entry}
use Rattle.layout.specs.Table.{level_of}
use Rattle.layout.specs.Shown.{binds_in, variables_at}
use Rattle.soundness.specs.Forms.{are_signals}
use Rattle.soundness.proofs.Forming.{form_long, tests_from_form}
use Rattle.plan.specs.Fitting.{set_of}
use Rattle.layout.proofs.ProperRows.{row_proper}
use Rattle.plan.proofs.Entered.{entry_split, signals_range}
use Rattle.plan.proofs.parts.split_at.Goals as goal

pub overflow_sub-entry : goal.overflow_sub-entry
overflow_sub-entry c =
    let g = c.args.game.now in
    let long = form_long g.variables g.clauses (level_of g c.args.m).side (variables_at g c.args.m) c.args.entry.now c.requires.1.1.1 in
    omega (arith, c.requires.1.1.0)

pub returns : goal.returns
returns c =
    let g = c.args.game.now in
    let n = g.variables in
    let σ = (level_of g c.args.m).side in
    let vs = variables_at g c.args.m in
    let xs = c.args.entry.now in
    let form = c.requires.1.1.1 in
    let long = form_long n g.clauses σ vs xs form in
    let p = length xs - c.args.count in
    let place : length xs - c.args.count + length (variables_at g c.args.m) ≡ length xs = omega (arith, c.requires.1.1.0) in
    let cut = c.in-Some.ensures.cases in
    let signs = ap (are_signals σ n (n + g.clauses)) cut.1 ∙ (tests_from_form n g.clauses σ vs xs form p place).0 in
    record {
      is = entry_split n g.clauses σ vs (row_proper (binds_in g c.args.m) n) xs form p place ∙ ap₂ {C = Entry} (λ (S : List ℕ) (x : List ℤ). record { set = S; values = x }) (ap (set_of n) (sym cut.1)) (sym cut.2);
      count = omega arith;
      named = λ j h. let r = signals_range σ n (n + g.clauses) _ signs j h in (r.0, omega (arith, r.1, c.requires.0.1));
    }
