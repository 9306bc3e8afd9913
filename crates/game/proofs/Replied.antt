-- The question about the present level is never refused, and an answer to it is one of the theory.
use Rattle.std.proofs.Common.{◌≡◌, ℕ, zero, suc, ◌+◌, ◌-◌, ◌*◌, ◌<◌, ◌≤◌, Bool, false, cond, List, [], ◌∷◌, length, get_or, take, drop, ℤ, pos, neg_ℤ, nat_abs, sym, refl, ap, ◌∙◌, subst, arith}
use Rattle.std.proofs.lemmas.List.{length-map}
use lib.Signed.{lt_z}
use Rattle.std.specs.List.{AllByRecursion}
use Rattle.std.proofs.lemmas.Bool.{cond_both}
use Rattle.formula.specs.Lists.{keep, from, below}
use Rattle.formula.specs.Lists.{All as Each}
use Rattle.formula.specs.declared.side.Side.{Side}
use Rattle.formula.specs.declared.side.Side.TheVariants.{Ours, Device}
use Rattle.formula.proofs.Ranges.{length_from}
use Rattle.pool.specs.Records.{records, Literal}
use Rattle.engine.specs.declared.question.Answer.{Answer}
use Rattle.engine.specs.declared.question.Answer.TheVariants.{Yes, No}
use Rattle.engine.specs.declared.question.Refusal.{Refusal}
use Rattle.engine.specs.declared.question.Refusal.TheVariants.{TooManySignals, ShortSlice, UnsoundQuestion}
use Rattle.engine.specs.Meaning.{Asked, clauses, Proper, Refused, Given}
use Rattle.engine.proofs.Parts.{part_every}
use Rattle.engine.proofs.Layers.{Named, named_from_no}
use Rattle.strategy.specs.Signals.{signal}
use Rattle.strategy.specs.Records.{assumptions, values_of}
use Rattle.strategy.specs.Questions.{assumed, assumed_clauses, YesAnswer, NoAnswer, clauses_named}
use Rattle.strategy.specs.View.{LevelView, at}
use Rattle.strategy.proofs.Numbers.{no_by_names}
use Rattle.layout.specs.declared.game.Game.{Game}
use Rattle.layout.specs.Table.{Limits, level_of}
use Rattle.layout.specs.Viewed.{view_level, view_of, signals_of}
use Rattle.layout.specs.Shown.{variables_at}
use Rattle.soundness.specs.Soundness.{SoundPool}
use Rattle.rules.specs.Naming.{base_of}
use Rattle.rules.specs.Changes.{values_said}
use Rattle.rules.proofs.SetsOf.{keep_few}
use Rattle.rules.proofs.Chosen.{each_kept}
use Rattle.rules.proofs.Growing.{each_at}
use Rattle.rules.proofs.Stepping.{ascending_keep, ascending_from}
use Rattle.game.specs.Replies.{Replied}
use Rattle.game.proofs.Replies.{meets_chain, meets_each, clash_unsatisfiable, value_said, part_ascends, part_in}

-- what the question assumes of clauses that satisfy P, by their numbers
assumed_all : (P : ℤ → Type 0) (n k : ℕ) (σ : Side) → ((i : ℕ) → i < k → P (neg_ℤ (pos (signal n k σ i)))) → (B : List ℕ) → Each (λ i. i < k) B → AllByRecursion P (assumptions n k σ B)
assumed_all P n k σ h [] b = tt
assumed_all P n k σ h (i ∷ B) b = (h i b.0, assumed_all P n k σ h B b.1)

below_small : (p : ℕ → Bool) (k : ℕ) → Each (λ i. i < k) (keep p (below k))
below_small p k = go p k 0 k (omega arith)
  where
    go : (p : ℕ → Bool) (k i m : ℕ) → i + m ≤ k → Each (λ j. j < k) (keep p (from i m))
    go p k i zero h = tt
    go p k i (suc m) h = cond_both (p i) (i ∷ keep p (from (suc i) m)) (keep p (from (suc i) m)) (Each (λ j. j < k)) (λ t. (omega arith, go p k (suc i) m (omega arith))) (λ f. go p k (suc i) m (omega arith))

signal_literal : (n k : ℕ) (σ : Side) (i : ℕ) → i < k → Literal (n + 2 * k) (neg_ℤ (pos (signal n k σ i)))
signal_literal n k Ours i h = (omega arith, omega arith)
signal_literal n k Device i h = (omega arith, omega arith)

signal_named : (n k : ℕ) (σ : Side) (i : ℕ) → i < k → (base_of n k σ < nat_abs (neg_ℤ (pos (signal n k σ i)))) × (nat_abs (neg_ℤ (pos (signal n k σ i))) ≤ base_of n k σ + k)
signal_named n k Ours i h = (omega arith, omega arith)
signal_named n k Device i h = (omega arith, omega arith)

all_at : (P : ℤ → Type 0) (l : List ℤ) → AllByRecursion P l → (j : ℕ) → j < length l → P (get_or l j (pos 0))
all_at P [] h j b = absurd (omega arith)
all_at P (x ∷ l) h zero b = h.0
all_at P (x ∷ l) h (suc j) b = all_at P l h.1 j (omega arith)

-- the clauses that the question about the present level assumes something of; and the question, as an engine is asked it
abbrev before : Game → ℕ → Bool
before g i = get_or (level_of g g.present).satisfied i false

abbrev clauses_assumed : Game → List ℕ
clauses_assumed g = assumed_clauses g.clauses (level_of g g.present).side (before g)

abbrev pub question : Game → List ℤ → Asked
question g pool = record {
  signals = signals_of g;
  words = pool;
  in_use = g.used;
  first = (level_of g g.present).chain;
  assumed = assumptions g.variables g.clauses (level_of g g.present).side (clauses_assumed g);
}

module _ (g : Game) (pool : List ℤ) (limits : Limits g) (sound : SoundPool g pool) (long : g.depth ≤ length g.levels) (here : g.present < g.depth) where
  abbrev σ : Side
  σ = (level_of g g.present).side

  few_assumed : length (assumptions g.variables g.clauses σ (clauses_assumed g)) ≤ g.clauses
  few_assumed = let h = keep_few (assumed σ (before g)) (below g.clauses) in let k = length_from 0 g.clauses in let m = length-map (clauses_assumed g) (λ i. neg_ℤ (pos (signal g.variables g.clauses σ i))) in omega arith

  proper : Proper (question g pool)
  proper =
      let h = few_assumed in
      record {
        sound = (sound.levels g.present here).chain;
        literals = assumed_all (Literal (signals_of g)) g.variables g.clauses σ (signal_literal g.variables g.clauses σ) (clauses_assumed g) (below_small (assumed σ (before g)) g.clauses);
        few = omega arith;
      }

  pub never_refused : (most room : ℕ) → signals_of g ≤ most → signals_of g ≤ room → (e : Refusal) → Refused most (question g pool) room e → ⊥
  never_refused most room h k TooManySignals r = omega arith
  never_refused most room h k ShortSlice r = omega (arith, r.1)
  never_refused most room h k UnsoundQuestion r = r.2 proper

  shown : at (view_of g pool).levels g.present ≡ view_level g.variables pool (level_of g g.present)
  shown = each_at (view_level g.variables pool) g.levels g.depth g.present _ _ here (omega arith)

  pub replied : (old words : List ℤ) (a : Answer) → Given (question g pool) old words a → length words ≡ 1280 → Replied g pool a words
  replied old words Yes given room =
      let α = given.0 in
      let n = g.variables in
      let flags : ℕ → Bool = λ v. get_or (level_of g g.present).variables v false in
      let n-few = limits.0 in
      let is : values_said n (level_of g g.present).variables words ≡ values_of α (variables_at g g.present) =
      each_kept (λ v. cond (lt_z (pos 0) (get_or words (v - 1) (pos 0))) (pos v) (neg_ℤ (pos v))) (λ v. cond (α v) (pos v) (neg_ℤ (pos v))) flags 1 n
      (λ v low high t. ap (λ b. cond b (pos v) (neg_ℤ (pos v))) (ap (λ w. lt_z (pos 0) (get_or w (v - 1) (pos 0))) given.2 ∙ value_said α (signals_of g) v (drop (signals_of g) old) low (omega arith))) in
      record {
        readable = omega arith;
        of_level = ((λ v. lt_z (pos 0) (get_or words (v - 1) (pos 0))), refl);
        answers = λ t. subst (λ (v : LevelView). YesAnswer n g.clauses v.side v.before v.chain v.variables (values_said n (level_of g g.present).variables words)) (sym shown)
            (record { assignment = α; chain_true = meets_chain α (clauses (question g pool)) given.1.0; assumptions_true = meets_each α (question g pool).assumed given.1.1; values = is });
      }
  replied old words (No c) given room =
      let n = g.variables in
      let k = g.clauses in
      let named : Named (question g pool) words c = named_from_no (question g pool) old words (No c) c refl given in
      let names = take c words in
      let few = few_assumed in
      let k-few = limits.1 in
      let fits : c ≤ length words = omega (arith, named.few) in
      let P : ℤ → Type 0 = λ l. (base_of n k σ < nat_abs l) × (nat_abs l ≤ base_of n k σ + k) in
      let all_named : AllByRecursion P names = part_every P named.part (assumed_all P n k σ (signal_named n k σ) (clauses_assumed g) (below_small (assumed σ (before g)) k)) in
      let answer = no_by_names n k σ (before g) (records pool (level_of g g.present).chain) names (part_in named.part) (clash_unsatisfiable (clauses (question g pool)) names named.clash) in
      record {
        readable = (fits, omega (arith, named.few), all_at P names all_named);
        of_level = part_ascends n k σ named.part (clauses_assumed g) refl 0 (ascending_keep (assumed σ (before g)) 0 k (below k) (ascending_from 0 k k (omega arith)));
        answers = λ t. subst (λ (v : LevelView). NoAnswer n k v.side v.before v.chain (clauses_named n k σ names)) (sym shown) answer.0;
      }
