-- How long the records of a step are.
use Rattle.std.proofs.Common.{◌≡◌, ℕ, ◌+◌, List, length, ap, ◌∙◌}
use Rattle.std.proofs.lemmas.List.{length-append, length-map}
use Rattle.formula.specs.Game.{Clauses, Values}
use Rattle.formula.specs.declared.side.Side.{Side}
use Rattle.formula.specs.declared.side.Side.TheVariants.{Ours, Device}
use Rattle.strategy.specs.Records.{learned_record, entry_record}

pub length_entry : (n : ℕ) (σ : Side) (A : List ℕ) (x : Values) → length (entry_record n σ (record { set = A; values = x })) ≡ length A + length x
length_entry n Ours A x = length-append _ x ∙ ap (λ m. m + length x) (length-map A _)
length_entry n Device A x = length-append _ x ∙ ap (λ m. m + length x) (length-map A _)

pub length_learned : (C : Clauses) (n : ℕ) (σ : Side) (A : List ℕ) → length (learned_record C n σ A) ≡ length A
length_learned C n Ours A = length-map A _
length_learned C n Device A = length-map A _
