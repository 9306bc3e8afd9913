use Rattle.std.proofs.Common.{◌≡◌, ◌+◌, ◌↔◌, List, ℤ, sym, refl, ap, subst}
use Rattle.std.proofs.lemmas.Bool.{false≢true}
use Rattle.std.proofs.lemmas.Bool.Decides.{not_from_Decides}
use Rattle.formula.specs.Lists.{All, each}
use Rattle.strategy.specs.Entries.{Entry}
use Rattle.strategy.specs.Records.{entry_of}
use Rattle.strategy.specs.Check.{EntryCheck}
use Rattle.pool.specs.Records.{records}
use Rattle.pool.specs.Chains.{records_of}
use Rattle.layout.specs.Table.{level_of}
use Rattle.layout.specs.Shown.{variables_at, entries_in}
use Rattle.layout.specs.Viewed.{clauses_of}
use Rattle.soundness.specs.Soundness.{EntryForm}
use Rattle.soundness.proofs.Rows.{all_next, all_broken}
use Rattle.plan_check.specs.Places.{shown_from}
use Rattle.plan_check.proofs.entries.entries_hold.Goals as goal

pub loop-entry-init : goal.loop-entry-init
loop-entry-init g c =
    let game = c.args.game.now in
    let pool = c.args.pool.now in
    let P : Entry → Type 0 = EntryCheck (clauses_of game pool) game.variables c.args.side (shown_from game pool (c.args.m + 1)) in
    let Form : List ℤ → Type 0 = EntryForm game.variables game.clauses (level_of game c.args.m).side (variables_at game c.args.m) in
    let entries = (c.requires.0.sound.levels c.args.m c.requires.1.0).entries in
    let same : records_of c.chain-rest.result ≡ records pool (level_of game c.args.m).entries = c.chain-rest.ensures.records (c.chain-rest.ensures.sound.1 entries.chain) in
    (subst (λ l. All P (entries_in game pool c.args.m) ↔ All P (each (entry_of game.variables) l)) (sym same) ((λ w. w), (λ w. w)), subst (All Form) (sym same) entries.forms)

pub returns-then-not-entry_holds : goal.returns-then-not-entry_holds
returns-then-not-entry_holds g c =
    let game = c.args.game.now in
    let pool = c.args.pool.now in
    let P : Entry → Type 0 = EntryCheck (clauses_of game pool) game.variables c.args.side (shown_from game pool (c.args.m + 1)) in
    let shape = ap (each (entry_of game.variables)) c.in-Some.ensures.records in
    (λ f. absurd (false≢true f), λ w. absurd (all_broken P _ _ c.loop-entry.invariant.0 _ _ shape (not_from_Decides _ c.if-not-entry_holds.ensures refl) w))

pub loop-entry-preserved : goal.loop-entry-preserved
loop-entry-preserved g c =
    let game = c.args.game.now in
    let pool = c.args.pool.now in
    let P : Entry → Type 0 = EntryCheck (clauses_of game pool) game.variables c.args.side (shown_from game pool (c.args.m + 1)) in
    let Form : List ℤ → Type 0 = EntryForm game.variables game.clauses (level_of game c.args.m).side (variables_at game c.args.m) in
    let shape = ap (each (entry_of game.variables)) c.in-Some.ensures.records in
    (all_next P _ _ c.loop-entry.invariant.0 _ _ shape (c.if-not-entry_holds.ensures.0 refl), (subst (All Form) c.in-Some.ensures.records c.loop-entry.invariant.1).1)
