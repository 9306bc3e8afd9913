-- Learned records by their numbers, as flags have them.
use Rattle.std.proofs.Common.{◌≡◌, ℕ, Bool, true, false, cond, T, ◌↔◌, List, length, get_or, ℤ, refl, ap, ◌∙◌, subst}
use Rattle.formula.specs.Lists.{all, Any, elem}
use Rattle.formula.specs.Game.{Clauses}
use Rattle.formula.specs.declared.side.Side.{Side}
use Rattle.formula.proofs.Members.{any_map, all_same}
use Rattle.strategy.specs.Entries.{Entry}
use Rattle.strategy.specs.Records.{learned_record}
use Rattle.strategy.specs.Check.{is_learned_number, learned_set_of}
use Rattle.strategy.proofs.Flats.{learned_by_numbers}

-- flags that are set at just these clauses
pub flagged : (flags old : List Bool) (A : List ℕ) → ((i : ℕ) → get_or flags i false ≡ cond (elem i A) true (get_or old i false)) → ((i : ℕ) → get_or old i false ≡ false) → (i : ℕ) → get_or flags i false ≡ elem i A
flagged flags old A told none i = told i ∙ ap (cond (elem i A) true) (none i) ∙ whole (elem i A)
  where
    whole : (b : Bool) → cond b true false ≡ b
    whole true = refl
    whole false = refl

-- an entry's set lies among flagged clauses just when it lies in their set
pub any_flagged : (f g : ℕ → Bool) → ((i : ℕ) → f i ≡ g i) → (entries : List Entry) → Any (λ e. T (all f e.set)) entries → Any (λ e. T (all g e.set)) entries
any_flagged f g same entries = any_map (λ e. T (all f e.set)) (λ e. T (all g e.set)) entries (λ e h. subst T (all_same f g e.set same) h)

-- the record of a learned set that contains an entry's set, by its numbers
pub learned_record_lem : (C : Clauses) (n k : ℕ) (σ : Side) (rec : List ℤ) (entries : List Entry) → length C ≡ k
    → ((A : List ℕ) × (rec ≡ learned_record C n σ A) × Any (λ e. T (all (λ i. elem i A) e.set)) entries)
    ↔ (T (all (is_learned_number n k σ) rec) × Any (λ e. T (all (λ i. elem i (learned_set_of n k rec)) e.set)) entries)
learned_record_lem C n k σ rec entries e =
    subst (λ j. ((A : List ℕ) × (rec ≡ learned_record C n σ A) × Any (λ e. T (all (λ i. elem i A) e.set)) entries)
    ↔ (T (all (is_learned_number n j σ) rec) × Any (λ e. T (all (λ i. elem i (learned_set_of n j rec)) e.set)) entries)) e (learned_by_numbers C n σ rec entries)
