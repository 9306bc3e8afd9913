-- An engine's answers in records against the answers by meaning, both ways.
use Rattle.std.proofs.Common.{◌≡◌, ℕ, ◌<◌, Bool, not, T, List, length, ℤ, pos, neg_ℤ, sym, refl, subst}
use Rattle.formula.specs.Lists.{all, keep, elem, below}
use Rattle.formula.specs.Game.{Values, Clauses, Play, hit}
use Rattle.formula.proofs.Tests.{all_at, all_from, in_below, below_in, keep_in, kept_in, kept_passes}
use Rattle.strategy.specs.Entries.{LevelState}
use Rattle.strategy.specs.Signals.{t_signal, b_signal, signal}
use Rattle.strategy.specs.Records.{holds, satisfies, assumptions, chain, values_of}
use Rattle.strategy.specs.WellFormed.{ProperLevel}
use Rattle.strategy.specs.Questions.{assumed, assumed_clauses, YesAt, NoAt}
use Rattle.strategy.specs.Check.{UnsatisfiableWhen}
use Rattle.strategy.specs.Meaning.{t_or_b, NothingMeets}
use Rattle.strategy.proofs.ByMeaning.{YesMeaning, NoMeaning}
use Rattle.strategy.proofs.RecordTests.{all-each}
use Rattle.strategy.proofs.ChainMeaning.{chain_meets}
use Rattle.strategy.proofs.Assignments.{Refuted, values_in_lem, assigned, refuted_nothing_meets, nothing_meets_refuted}
use Rattle.formula.specs.declared.side.Side.{Side}
use Rattle.formula.specs.declared.side.Side.TheVariants.{Ours, Device}

module _ (n k : ℕ) (σ : Side) (α : ℕ → Bool) where
  neg_signal : (i : ℕ) → holds α (neg_ℤ (pos (signal n k σ i))) ≡ not (α (signal n k σ i))
  neg_signal i = at σ
    where
      at : (σ : Side) → holds α (neg_ℤ (pos (signal n k σ i))) ≡ not (α (signal n k σ i))
      at Ours = refl
      at Device = refl

  -- the assumptions about A are true just when the signals of A are false
  pub assumptions_at : (A : List ℕ) → T (all (holds α) (assumptions n k σ A)) → (i : ℕ) → T (elem i A) → T (not (α (signal n k σ i)))
  assumptions_at A h i m =
      subst T (neg_signal i) (all_at (λ j. holds α (neg_ℤ (pos (signal n k σ j)))) A (subst T (all-each (holds α) (λ j. neg_ℤ (pos (signal n k σ j))) A) h) i m)

  pub assumptions_from : (A : List ℕ) → ((i : ℕ) → T (elem i A) → T (not (α (signal n k σ i)))) → T (all (holds α) (assumptions n k σ A))
  assumptions_from A f =
      subst T (sym (all-each (holds α) (λ j. neg_ℤ (pos (signal n k σ j))) A))
      (all_from (λ j. holds α (neg_ℤ (pos (signal n k σ j)))) A (λ i m. subst T (sym (neg_signal i)) (f i m)))

-- a chain is unsatisfiable under assumptions just when it is refuted
module _ (C : Clauses) (n : ℕ) (σ : Side) (ch : List (List ℤ)) where
  pub unsatisfiable_refuted : (F : ℕ → Bool) → UnsatisfiableWhen C n σ ch F → Refuted C n σ ch F
  unsatisfiable_refuted F u α sat f =
      u α sat (assumptions_from n (length C) σ α (keep F (below (length C)))
      (λ i m. f i (below_in (length C) i (kept_in F (below (length C)) i m)) (kept_passes F (below (length C)) i m)))

  pub refuted_unsatisfiable : (F : ℕ → Bool) → Refuted C n σ ch F → UnsatisfiableWhen C n σ ch F
  refuted_unsatisfiable F r α sat h =
      r α sat (λ i lt f. assumptions_at n (length C) σ α (keep F (below (length C))) h i (keep_in F (below (length C)) i (in_below (length C) i lt) f))

module _ (C : Clauses) (n : ℕ) (σ : Side) (π : Play) (s : LevelState) (r : List LevelState) (proper : ProperLevel n s.variables) where
  assumed_small : (i : ℕ) → T (elem i (assumed_clauses (length C) σ (hit C π))) → i < length C
  assumed_small i m = below_in (length C) i (kept_in (assumed σ (hit C π)) (below (length C)) i m)

  pub yes_meaning : (x : Values) → YesAt C n σ π s r x → YesMeaning C σ π s r x
  yes_meaning x a = subst (λ y. YesMeaning C σ π s r y) (sym a.values) (
      record {
        t = λ i. a.assignment (t_signal n i);
        b = λ i. a.assignment (b_signal n (length C) i);
        among = values_in_lem a.assignment s.variables;
        meets = chain_meets C n σ s r a.assignment proper a.chain_true;
        agrees = λ i lt h. at σ i (assumptions_at n (length C) σ a.assignment (assumed_clauses (length C) σ (hit C π)) a.assumptions_true i
            (keep_in (assumed σ (hit C π)) (below (length C)) i (in_below (length C) i lt) h));
      })
    where
      at : (σ : Side) (i : ℕ) → T (not (a.assignment (signal n (length C) σ i)))
          → T (not (t_or_b σ (λ j. a.assignment (t_signal n j)) (λ j. a.assignment (b_signal n (length C) j)) i))
      at Ours i h = h
      at Device i h = h

  pub no_meaning : (A : List ℕ) → NoAt C n σ π s r A → NoMeaning C σ π s r A
  no_meaning A a =
      record {
        small = λ i m. assumed_small i (a.named i m);
        named = λ i m. kept_passes (assumed σ (hit C π)) (below (length C)) i (a.named i m);
        nothing_meets = refuted_nothing_meets C n σ s r (λ i. elem i A) proper
            (λ α sat f. a.unsatisfiable α sat (assumptions_from n (length C) σ α A (λ i m. f i (assumed_small i (a.named i m)) m)));
      }

  -- what is said by meaning can be said in records
  pub meaning_yes : (x : Values) → YesMeaning C σ π s r x → YesAt C n σ π s r x
  meaning_yes x a =
      let g : (α : ℕ → Bool) × T (satisfies α (chain C n σ s r)) × (values_of α s.variables ≡ x) × ((i : ℕ) → i < length C → α (signal n (length C) σ i) ≡ t_or_b σ a.t a.b i) =
      assigned C n σ s r x a.t a.b proper a.among a.meets in
      record {
        assignment = g.0;
        chain_true = g.1;
        assumptions_true = assumptions_from n (length C) σ g.0 (assumed_clauses (length C) σ (hit C π))
            (λ i m. subst (λ c. T (not c)) (sym (g.3 i (assumed_small i m))) (a.agrees i (assumed_small i m) (kept_passes (assumed σ (hit C π)) (below (length C)) i m)));
        values = sym g.2;
      }

  pub meaning_no : (A : List ℕ) → NoMeaning C σ π s r A → NoAt C n σ π s r A
  meaning_no A a =
      record {
        named = λ i m. keep_in (assumed σ (hit C π)) (below (length C)) i (in_below (length C) i (a.small i m)) (a.named i m);
        unsatisfiable = λ α sat h. nothing_meets_refuted C n σ s r (λ i. elem i A) proper a.nothing_meets α sat (λ i lt m. assumptions_at n (length C) σ α A h i m);
      }

-- a level's chain is unsatisfiable under assumptions just when no values of the level meet it
pub nothing_meets_unsatisfiable : (C : Clauses) (n : ℕ) (σ : Side) (s : LevelState) (r : List LevelState) (F : ℕ → Bool) → ProperLevel n s.variables
    → NothingMeets C σ s r F → UnsatisfiableWhen C n σ (chain C n σ s r) F
nothing_meets_unsatisfiable C n σ s r F p h = refuted_unsatisfiable C n σ (chain C n σ s r) F (nothing_meets_refuted C n σ s r F p h)

pub unsatisfiable_nothing_meets : (C : Clauses) (n : ℕ) (σ : Side) (s : LevelState) (r : List LevelState) (F : ℕ → Bool) → ProperLevel n s.variables
    → UnsatisfiableWhen C n σ (chain C n σ s r) F → NothingMeets C σ s r F
unsatisfiable_nothing_meets C n σ s r F p h = refuted_nothing_meets C n σ s r F p (unsatisfiable_refuted C n σ (chain C n σ s r) F h)
