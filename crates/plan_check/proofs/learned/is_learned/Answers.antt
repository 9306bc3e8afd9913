use Rattle.std.proofs.Common.{◌≡◌, ℕ, ◌+◌, false, T, List, get_or, replicate, sym, subst, arith}
use Rattle.std.proofs.lemmas.Bool.{false≢true}
use Rattle.std.proofs.lemmas.Bool.Decides.{Decides-like}
use Rattle.formula.specs.Lists.{all, Any, elem}
use Rattle.strategy.specs.Entries.{Entry}
use Rattle.strategy.specs.Check.{LevelRecords, entries_at, learned_set_of}
use Rattle.layout.proofs.Shown.{nothing_before}
use Rattle.soundness.proofs.Rows.{test_true}
use Rattle.plan_check.proofs.Learning.{flagged, any_flagged}
use Rattle.plan_check.proofs.Placed.{levels_fit, shown_here, shown_end}
use Rattle.plan_check.proofs.learned.is_learned.Goals as goal

pub returns-then-m-game : goal.returns-then-m-game
returns-then-m-game c =
    let g = c.args.game.now in
    let P : Entry → Type 0 = λ e. T (all (λ i. elem i (learned_set_of g.variables g.clauses c.args.numbers.now)) e.set) in
    let none = shown_end g c.args.pool.now (c.args.m + 1) (omega arith) in
    (λ f. absurd (false≢true f), λ w. absurd (subst (λ (l : List LevelRecords). Any P (entries_at l)) none w.1))

pub returns : goal.returns
returns c =
    let g = c.args.game.now in
    let A = learned_set_of g.variables g.clauses c.args.numbers.now in
    let flags = c.mark.new.flags in
    let same : (i : ℕ) → get_or flags i false ≡ elem i A = flagged flags (replicate 512 false) A c.mark.ensures nothing_before in
    let P : Entry → Type 0 = λ e. T (all (λ i. elem i A) e.set) in
    let next = shown_here g c.args.pool.now (c.args.m + 1) (omega arith) (levels_fit g c.args.pool.now c.requires.0) in
    Decides-like c.is_entered.result
    (λ h. (test_true _ (sym c.if-not-are_learned_numbers.ensures), subst (λ (l : List LevelRecords). Any P (entries_at l)) (sym next) (any_flagged (λ i. get_or flags i false) (λ i. elem i A) same _ h)))
    (λ w. any_flagged (λ i. elem i A) (λ i. get_or flags i false) (λ i. sym (same i)) _ (subst (λ (l : List LevelRecords). Any P (entries_at l)) next w.1))
    c.is_entered.ensures
