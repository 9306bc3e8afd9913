use Rattle.std.proofs.Common.{◌≡◌, true, sym, rules, List, ℤ}
use Rattle.std.proofs.lemmas.Bool.Decides.{Decides-like}
use Rattle.std.proofs.lemmas.Iterator.{cases_from_all}
use Rattle.std.proofs.lemmas.Iterator.Consumers.{YieldsList-from_first}
use Rattle.pool.specs.Records.{records}
use Rattle.pool.specs.Chains.{records_of}
use Rattle.layout.specs.Table.{level_of}
use Rattle.layout.specs.Shown.{variables_at}
use Rattle.soundness.specs.Soundness.{EntryForm}
use Rattle.soundness.proofs.Chained.{all_told}
use Rattle.soundness.proofs.soundness.are_entries.Goals as goal

pub returns-then-is_sound : goal.returns-then-is_sound
returns-then-is_sound c =
    let g = c.args.game.now in
    let m = c.args.m in
    let P : List ℤ → Type 0 = EntryForm g.variables g.clauses (level_of g m).side (variables_at g m) in
    let sound : c.chain-entries.result.whole ≡ true = sym (c.if-is_sound.ensures) in
    let rs = records c.args.pool.now (level_of g m).entries in
    let same : records_of c.chain-entries.result ≡ rs = c.chain-entries.ensures.records sound in
    let forms = all_told P rs c.all.result
    (cases_from_all c.all.new.self _ c.all.result P (λ x. P x → ⊥) c.all.ensures.ran (YieldsList-from_first (λ x. x.now) (λ c'. records_of c') rs same)
    (λ x q k. search rules) (λ x q k. search rules)) in
    Decides-like c.all.result (λ h. record { chain = c.chain-entries.ensures.sound.0 sound; forms = h }) (λ s. s.forms) forms
