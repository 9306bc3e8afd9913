-- The words of records, counted from a place on; and the chains of the levels from a place on.
use Rattle.std.proofs.Common.{◌≡◌, ℕ, ◌+◌, ◌-◌, ◌*◌, ◌<◌, ◌≤◌, true, false, eqb, List, [], ◌∷◌, length, get_or, take, drop, ℤ, sym, refl, ap, ◌∙◌, mul-suc, add-one, arith}
use Rattle.std.proofs.lemmas.List.{length-take-le, length-drop, drop_more}
use Rattle.std.proofs.lemmas.Bool.{eq-eqb, ne_eqb}
use Rattle.formula.specs.Lists.{each, below}
use Rattle.formula.specs.Game.{other, Clauses, Qbf}
use Rattle.formula.specs.Model.{level_at}
use Rattle.formula.specs.declared.side.Side.{Side}
use Rattle.formula.specs.declared.side.Side.TheVariants.{Ours, Device}
use Rattle.strategy.specs.Records.{gather, open_records}
use Rattle.layout.specs.Laying.{words_for}
use Rattle.layout.specs.Opening.{our_record, device_record, level_records, is_nil, level_chains}

-- the records of two numbers each
pub words_of_pairs : (C : Clauses) (n i : ℕ) (ls : List ℤ) → words_for (each (device_record C n i) ls) ≡ 4 * length ls
words_of_pairs C n i [] = refl
words_of_pairs C n i (l ∷ ls) = let h = words_of_pairs C n i ls in let m = mul-suc 4 (length ls) in omega arith

pub length_of_front : (buffer front : List ℤ) (n : ℕ) → n ≤ length buffer → take n buffer ≡ front → length front ≡ n
length_of_front buffer front n h e = sym (ap length e) ∙ length-take-le n buffer h

-- what open writes for a level, clause by clause
gather-each : {A B : Type 0} (g : A → B) (l : List A) → each g l ≡ gather (λ a. g a ∷ []) l
gather-each g [] = refl
gather-each g (x ∷ l) = ap (λ r. g x ∷ r) (gather-each g l)

pub open_records_lem : {R : Type 0} (C : Clauses) (n : ℕ) (σ : Side) (vs : List ℕ) (after : List R) → open_records C n σ vs after ≡ level_records C n σ vs (is_nil after)
open_records_lem C n Ours vs [] = gather-each (our_record C n vs true) (below (length C))
open_records_lem C n Ours vs (m ∷ after) = gather-each (our_record C n vs false) (below (length C))
open_records_lem C n Device vs after = refl

nil_by : {R : Type 0} (rest : List R) (m k : ℕ) → length rest ≡ k - m → m ≤ k → is_nil rest ≡ eqb m k
nil_by [] m k e h = sym (eq-eqb m k (omega arith))
nil_by (x ∷ rest) m k e h = sym (ne_eqb m k (λ s. omega arith))

last_level : {R : Type 0} (levels : List R) (m : ℕ) → m < length levels → is_nil (drop (m + 1) levels) ≡ eqb (m + 1) (length levels)
last_level levels m h = nil_by (drop (m + 1) levels) (m + 1) (length levels) (length-drop (m + 1) levels) (omega arith)

-- the records of the level at the place m
module _ (q : Qbf) (σ : Side) (m : ℕ) (here : m < length q.levels) where
  pub records_place : open_records q.clauses q.variables σ (get_or q.levels m []) (drop (m + 1) q.levels)
      ≡ level_records q.clauses q.variables σ (level_at q (m + 1)) (eqb (m + 1) (length q.levels))
  records_place =
      open_records_lem q.clauses q.variables σ (get_or q.levels m []) (drop (m + 1) q.levels)
      ∙ ap (level_records q.clauses q.variables σ (get_or q.levels m [])) (last_level q.levels m here)
      ∙ ap (λ vs. level_records q.clauses q.variables σ vs (eqb (m + 1) (length q.levels))) (sym (ap (level_at q) (add-one m)))

  pub levels_place : level_chains q.clauses q.variables σ (drop m q.levels)
      ≡ level_records q.clauses q.variables σ (level_at q (m + 1)) (eqb (m + 1) (length q.levels)) ∷ level_chains q.clauses q.variables (other σ) (drop (m + 1) q.levels)
  levels_place =
      ap (level_chains q.clauses q.variables σ) (drop_more q.levels m [] here)
      ∙ ap (λ l. l ∷ level_chains q.clauses q.variables (other σ) (drop (m + 1) q.levels)) records_place

pub first_chains : (C : Clauses) (n : ℕ) (σ τ : Side) (levels : List (List ℕ)) → (0 < length levels → σ ≡ τ) → level_chains C n σ levels ≡ level_chains C n τ levels
first_chains C n σ τ [] h = refl
first_chains C n σ τ (vs ∷ after) h = ap (λ ρ. level_chains C n ρ (vs ∷ after)) (h (omega arith))
