-- What an assignment says of a chain: it satisfies the chain just when its values and signals meet it.
use Rattle.std.proofs.Common.{◌≡◌, ℕ, ◌<◌, Bool, true, false, not, ◌||◌, T, List, [], ◌∷◌, ◌++◌, length, pos, neg_ℤ, sym, ap, ◌∙◌, subst}
use Rattle.formula.specs.Backward.{turned}
use Rattle.formula.specs.Game.{Clauses, hits}
use Rattle.formula.specs.Lists.{all, any, each, below}
use Rattle.formula.proofs.Members.{all_same}
use Rattle.formula.proofs.Tests.{and_l, and_r, both, all_at, all_from, in_below, below_in}
use Rattle.strategy.specs.Entries.{LevelState}
use Rattle.strategy.specs.Meaning.{Meets}
use Rattle.strategy.specs.Records.{holds, satisfies, literals_on, open_records, learned_record, chain, values_of}
use Rattle.strategy.specs.Signals.{t_signal, b_signal}
use Rattle.strategy.specs.WellFormed.{ProperLevel}
use Rattle.strategy.proofs.RecordTests.{all-turned, any_append, all_append, any_not, any_twice, All-all, all-All, all-each, any-each, all-gather, hits_values, device_part}
use Rattle.formula.specs.declared.side.Side.{Side}
use Rattle.formula.specs.declared.side.Side.TheVariants.{Ours, Device}

out₁ : (h t : Bool) → T (h || (t || false)) → T (not t) → T h
out₁ true t p q = tt
out₁ false true p q = q
out₁ false false p q = p

in₁ : (h t : Bool) → (T (not t) → T h) → T (h || (t || false))
in₁ true t f = tt
in₁ false true f = tt
in₁ false false f = f tt

out₂ : (h t b : Bool) → T (h || (t || (b || false))) → T (not t) → T (not b) → T h
out₂ true t b p q r = tt
out₂ false true b p q r = q
out₂ false false true p q r = r
out₂ false false false p q r = p

in₂ : (h t b : Bool) → (T (not t) → T (not b) → T h) → T (h || (t || (b || false)))
in₂ true t b f = tt
in₂ false true b f = tt
in₂ false false true f = tt
in₂ false false false f = f tt tt

out₃ : (h n : Bool) → T (not h || n) → T h → T n
out₃ true n p q = p
out₃ false n p q = absurd q

in₃ : (h n : Bool) → (T h → T n) → T (not h || n)
in₃ true n f = f tt
in₃ false n f = tt

below_all : (p : ℕ → Bool) (k : ℕ) → T (all p (below k)) → (i : ℕ) → i < k → T (p i)
below_all p k h i lt = all_at p (below k) h i (in_below k i lt)

all-below : (p : ℕ → Bool) (k : ℕ) → ((i : ℕ) → i < k → T (p i)) → T (all p (below k))
all-below p k f = all_from p (below k) (λ i m. f i (below_in k i m))

module _ (C : Clauses) (n : ℕ) (α : ℕ → Bool) (vs : List ℕ) (proper : ProperLevel n vs) where
  -- the records at the start
  last_open : (R : Type 0) → satisfies α (open_records {R = R} C n Ours vs []) ≡ all (λ i. hits C (values_of α vs) i || (α (t_signal n i) || false)) (below (length C))
  last_open R =
      all-each (λ rec. any (holds α) rec) (λ i. literals_on C vs i ++ (pos (t_signal n i) ∷ [])) (below (length C))
      ∙ all_same (λ i. any (holds α) (literals_on C vs i ++ (pos (t_signal n i) ∷ []))) (λ i. hits C (values_of α vs) i || (α (t_signal n i) || false)) (below (length C))
      (λ i. any_append (holds α) (literals_on C vs i) (pos (t_signal n i) ∷ []) ∙ ap (λ b. b || (α (t_signal n i) || false)) (hits_values C α n vs proper i))

  ours_open : {R : Type 0} (m : R) (r : List R) → satisfies α (open_records C n Ours vs (m ∷ r)) ≡ all (λ i. hits C (values_of α vs) i || (α (t_signal n i) || (α (b_signal n (length C) i) || false))) (below (length C))
  ours_open m r =
      all-each (λ rec. any (holds α) rec) (λ i. literals_on C vs i ++ (pos (t_signal n i) ∷ pos (b_signal n (length C) i) ∷ [])) (below (length C))
      ∙ all_same (λ i. any (holds α) (literals_on C vs i ++ (pos (t_signal n i) ∷ pos (b_signal n (length C) i) ∷ []))) (λ i. hits C (values_of α vs) i || (α (t_signal n i) || (α (b_signal n (length C) i) || false))) (below (length C))
      (λ i. any_append (holds α) (literals_on C vs i) (pos (t_signal n i) ∷ pos (b_signal n (length C) i) ∷ []) ∙ ap (λ b. b || (α (t_signal n i) || (α (b_signal n (length C) i) || false))) (hits_values C α n vs proper i))

  device_open : {R : Type 0} (r : List R) → satisfies α (open_records C n Device vs r) ≡ all (λ i. not (hits C (values_of α vs) i) || not (α (b_signal n (length C) i))) (below (length C))
  device_open r =
      all-gather (λ rec. any (holds α) rec) (λ i. each (λ l. neg_ℤ l ∷ neg_ℤ (pos (b_signal n (length C) i)) ∷ []) (literals_on C vs i)) (below (length C))
      ∙ all_same (λ i. all (λ rec. any (holds α) rec) (each (λ l. neg_ℤ l ∷ neg_ℤ (pos (b_signal n (length C) i)) ∷ []) (literals_on C vs i))) (λ i. not (hits C (values_of α vs) i) || not (α (b_signal n (length C) i))) (below (length C))
      (λ i. all-each (λ rec. any (holds α) rec) (λ l. neg_ℤ l ∷ neg_ℤ (pos (b_signal n (length C) i)) ∷ []) (literals_on C vs i) ∙ device_part C α n vs (not (α (b_signal n (length C) i))) proper i)

  -- and as they stand on the chain, the last one first
  last_is : (R : Type 0) → satisfies α (turned (open_records {R = R} C n Ours vs [])) ≡ all (λ i. hits C (values_of α vs) i || (α (t_signal n i) || false)) (below (length C))
  last_is R = all-turned (λ rec. any (holds α) rec) (open_records {R = R} C n Ours vs []) ∙ last_open R

  ours_is : {R : Type 0} (m : R) (r : List R) → satisfies α (turned (open_records C n Ours vs (m ∷ r)))
      ≡ all (λ i. hits C (values_of α vs) i || (α (t_signal n i) || (α (b_signal n (length C) i) || false))) (below (length C))
  ours_is m r = all-turned (λ rec. any (holds α) rec) (open_records C n Ours vs (m ∷ r)) ∙ ours_open m r

  device_is : {R : Type 0} (r : List R) → satisfies α (turned (open_records C n Device vs r))
      ≡ all (λ i. not (hits C (values_of α vs) i) || not (α (b_signal n (length C) i))) (below (length C))
  device_is r = all-turned (λ rec. any (holds α) rec) (open_records C n Device vs r) ∙ device_open r

-- the learned records
learned_ours : (C : Clauses) (n : ℕ) (α : ℕ → Bool) (l : List (List ℕ)) → satisfies α (each (learned_record C n Ours) l) ≡ all (λ A. not (all (λ i. α (b_signal n (length C) i)) A)) l
learned_ours C n α l =
    all-each (λ rec. any (holds α) rec) (learned_record C n Ours) l
    ∙ all_same (λ A. any (holds α) (learned_record C n Ours A)) (λ A. not (all (λ i. α (b_signal n (length C) i)) A)) l
    (λ A. any-each (holds α) (λ i. neg_ℤ (pos (b_signal n (length C) i))) A ∙ any_not (λ i. α (b_signal n (length C) i)) A)

learned_device : (C : Clauses) (n : ℕ) (α : ℕ → Bool) (l : List (List ℕ)) → satisfies α (each (learned_record C n Device) l) ≡ all (λ A. not (all (λ i. not (α (b_signal n (length C) i))) A)) l
learned_device C n α l =
    all-each (λ rec. any (holds α) rec) (learned_record C n Device) l
    ∙ all_same (λ A. any (holds α) (learned_record C n Device A)) (λ A. not (all (λ i. not (α (b_signal n (length C) i))) A)) l
    (λ A. any-each (holds α) (λ i. pos (b_signal n (length C) i)) A ∙ any_twice (λ i. α (b_signal n (length C) i)) A)

-- an assignment that satisfies the chain meets it
pub chain_meets : (C : Clauses) (n : ℕ) (σ : Side) (s : LevelState) (r : List LevelState) (α : ℕ → Bool) → ProperLevel n s.variables → T (satisfies α (chain C n σ s r))
    → Meets C σ s r (values_of α s.variables) (λ i. α (t_signal n i)) (λ i. α (b_signal n (length C) i))
chain_meets C n Ours s [] α p h = λ i lt nt.
    out₁ (hits C (values_of α s.variables) i) (α (t_signal n i))
    (below_all (λ j. hits C (values_of α s.variables) j || (α (t_signal n j) || false)) (length C) (subst T (last_is C n α s.variables p LevelState) h) i lt) nt
chain_meets C n Ours s (m ∷ r) α p h =
    let e : _ = subst T (all_append (λ rec. any (holds α) rec) (each (learned_record C n Ours) s.learned) (turned (open_records C n Ours s.variables (m ∷ r)))) h in (
      λ i lt nt nb.
          out₂ (hits C (values_of α s.variables) i) (α (t_signal n i)) (α (b_signal n (length C) i))
          (below_all (λ j. hits C (values_of α s.variables) j || (α (t_signal n j) || (α (b_signal n (length C) j) || false))) (length C)
          (subst T (ours_is C n α s.variables p m r) (and_r (satisfies α (each (learned_record C n Ours) s.learned)) (satisfies α (turned (open_records C n Ours s.variables (m ∷ r)))) e)) i lt) nt nb,
      all-All (λ A. not (all (λ i. α (b_signal n (length C) i)) A)) s.learned
          (subst T (learned_ours C n α s.learned) (and_l (satisfies α (each (learned_record C n Ours) s.learned)) (satisfies α (turned (open_records C n Ours s.variables (m ∷ r)))) e)),
    )
chain_meets C n Device s r α p h =
    let e : _ = subst T (all_append (λ rec. any (holds α) rec) (each (learned_record C n Device) s.learned) (turned (open_records C n Device s.variables r))) h in (
      λ i lt hy.
          out₃ (hits C (values_of α s.variables) i) (not (α (b_signal n (length C) i)))
          (below_all (λ j. not (hits C (values_of α s.variables) j) || not (α (b_signal n (length C) j))) (length C)
          (subst T (device_is C n α s.variables p r) (and_r (satisfies α (each (learned_record C n Device) s.learned)) (satisfies α (turned (open_records C n Device s.variables r))) e)) i lt) hy,
      all-All (λ A. not (all (λ i. not (α (b_signal n (length C) i))) A)) s.learned
          (subst T (learned_device C n α s.learned) (and_l (satisfies α (each (learned_record C n Device) s.learned)) (satisfies α (turned (open_records C n Device s.variables r))) e)),
    )

-- and the other way round
pub meets_chain : (C : Clauses) (n : ℕ) (σ : Side) (s : LevelState) (r : List LevelState) (α : ℕ → Bool) → ProperLevel n s.variables
    → Meets C σ s r (values_of α s.variables) (λ i. α (t_signal n i)) (λ i. α (b_signal n (length C) i)) → T (satisfies α (chain C n σ s r))
meets_chain C n Ours s [] α p h =
    subst T (sym (last_is C n α s.variables p LevelState)) (all-below (λ j. hits C (values_of α s.variables) j || (α (t_signal n j) || false)) (length C)
    (λ i lt. in₁ (hits C (values_of α s.variables) i) (α (t_signal n i)) (h i lt)))
meets_chain C n Ours s (m ∷ r) α p h =
    subst T (sym (all_append (λ rec. any (holds α) rec) (each (learned_record C n Ours) s.learned) (turned (open_records C n Ours s.variables (m ∷ r)))))
    (both (satisfies α (each (learned_record C n Ours) s.learned)) (satisfies α (turned (open_records C n Ours s.variables (m ∷ r))))
    (subst T (sym (learned_ours C n α s.learned)) (All-all (λ A. not (all (λ i. α (b_signal n (length C) i)) A)) s.learned h.1))
    (subst T (sym (ours_is C n α s.variables p m r))
    (all-below (λ j. hits C (values_of α s.variables) j || (α (t_signal n j) || (α (b_signal n (length C) j) || false))) (length C)
    (λ i lt. in₂ (hits C (values_of α s.variables) i) (α (t_signal n i)) (α (b_signal n (length C) i)) (h.0 i lt)))))
meets_chain C n Device s r α p h =
    subst T (sym (all_append (λ rec. any (holds α) rec) (each (learned_record C n Device) s.learned) (turned (open_records C n Device s.variables r))))
    (both (satisfies α (each (learned_record C n Device) s.learned)) (satisfies α (turned (open_records C n Device s.variables r)))
    (subst T (sym (learned_device C n α s.learned)) (All-all (λ A. not (all (λ i. not (α (b_signal n (length C) i))) A)) s.learned h.1))
    (subst T (sym (device_is C n α s.variables p r))
    (all-below (λ j. not (hits C (values_of α s.variables) j) || not (α (b_signal n (length C) j))) (length C)
    (λ i lt. in₃ (hits C (values_of α s.variables) i) (not (α (b_signal n (length C) i))) (h.0 i lt)))))
