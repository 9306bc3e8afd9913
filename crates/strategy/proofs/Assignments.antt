-- A chain is refuted, by assignments, just when nothing meets it.
use Rattle.std.proofs.Common.{◌≡◌, ℕ, zero, suc, ◌+◌, ◌-◌, ◌<◌, ◌≤◌, Bool, true, false, cond, not, ◌||◌, T, eqb, leb, ◌⊎◌, List, [], ◌∷◌, ◌++◌, length, ℤ, pos, negsuc, neg_ℤ, sym, refl, ap, ◌∙◌, subst, ap₂, inl, inr, ⊎_elim, not-suc-le-zero, arith, le→leb, eqb→eq, leb→le}
use mathlib.Core.Path.{fun_ext}
use lib.Dec.{eqb_refl, not_T}
use Rattle.formula.specs.Game.{same, has, Values, choices, Clauses}
use Rattle.formula.specs.Lists.{In, each, elem}
use Rattle.formula.proofs.Values.{in_append, in_each}
use Rattle.formula.proofs.Members.{in_left, in_right, in_map}
use Rattle.formula.proofs.Tests.{clash, or_l, or_r, or_cases, is_true, is_false}
use Rattle.strategy.specs.Entries.{LevelState, choices_at}
use Rattle.strategy.specs.Meaning.{Meets, t_or_b, NothingMeets}
use Rattle.strategy.specs.Records.{chain, values_of, satisfies}
use Rattle.strategy.specs.Signals.{t_signal, b_signal, signal}
use Rattle.strategy.specs.WellFormed.{ProperLevel}
use Rattle.strategy.proofs.ChainMeaning.{chain_meets, meets_chain}
use Rattle.formula.specs.declared.side.Side.{Side}
use Rattle.formula.specs.declared.side.Side.TheVariants.{Ours, Device}

-- the values of an assignment are a choice
values_step : (v : ℕ) (x : Values) (cs : List Values) (b : Bool) → In x cs
    → In (cond b (pos v) (neg_ℤ (pos v)) ∷ x) (each (λ x. pos v ∷ x) cs ++ each (λ x. neg_ℤ (pos v) ∷ x) cs)
values_step v x cs true h =
    in_left (pos v ∷ x) (each (λ x. pos v ∷ x) cs) (each (λ x. neg_ℤ (pos v) ∷ x) cs) (in_map (λ (x : Values). pos v ∷ x) x cs h)
values_step v x cs false h =
    in_right (neg_ℤ (pos v) ∷ x) (each (λ x. pos v ∷ x) cs) (each (λ x. neg_ℤ (pos v) ∷ x) cs) (in_map (λ (x : Values). neg_ℤ (pos v) ∷ x) x cs h)

pub values_in_lem : (α : ℕ → Bool) (vs : List ℕ) → In (values_of α vs) (choices vs)
values_in_lem α [] = inl refl
values_in_lem α (v ∷ vs) = values_step v (values_of α vs) (choices vs) (α v) (values_in_lem α vs)

-- a choice: one of two literals, before a choice for the rest
choice_cases : (v : ℕ) (y : Values) (cs : List Values) → In y (each (λ x. pos v ∷ x) cs ++ each (λ x. neg_ℤ (pos v) ∷ x) cs)
    → ((z : Values) × In z cs × (y ≡ pos v ∷ z)) ⊎ ((z : Values) × In z cs × (y ≡ neg_ℤ (pos v) ∷ z))
choice_cases v y cs h =
    ⊎_elim (λ k. inl (in_each (λ (x : Values). pos v ∷ x) y cs k)) (λ k. inr (in_each (λ (x : Values). neg_ℤ (pos v) ∷ x) y cs k))
    (in_append y (each (λ x. pos v ∷ x) cs) (each (λ x. neg_ℤ (pos v) ∷ x) cs) h)

same_neg_var : (v w : ℕ) → T (same (pos v) (neg_ℤ (pos w))) → T (eqb v w)
same_neg_var v zero h = h
same_neg_var v (suc w) h = absurd h

choices-has : (vs : List ℕ) (y : Values) → In y (choices vs) → (v : ℕ) → T (has (pos v) y) → T (elem v vs)
choices-has [] y (inl e) v h = subst (λ x. T (has (pos v) x)) e h
choices-has [] y (inr k) v h = absurd k
choices-has (w ∷ vs) y k v h =
    ⊎_elim
    (λ c. ⊎_elim (or_l (eqb v w) (elem v vs)) (λ g. or_r (eqb v w) (elem v vs) (choices-has vs c.0 c.1 v g))
    (or_cases (eqb v w) (has (pos v) c.0) (subst (λ x. T (has (pos v) x)) c.2 h)))
    (λ c. ⊎_elim (λ g. or_l (eqb v w) (elem v vs) (same_neg_var v w g)) (λ g. or_r (eqb v w) (elem v vs) (choices-has vs c.0 c.1 v g))
    (or_cases (same (pos v) (neg_ℤ (pos w))) (has (pos v) c.0) (subst (λ x. T (has (pos v) x)) c.2 h)))
    (choice_cases w y (choices vs) k)

apart : (v w : ℕ) (vs : List ℕ) → T (not (elem v vs)) → T (elem w vs) → eqb w v ≡ false
apart v w vs n m = is_false (eqb w v) (not_T (eqb w v) (λ e. clash (elem v vs) (subst (λ k. T (elem k vs)) (eqb→eq w v e) m) n))

-- the assignment that says of each variable whether y has it gives back y
pub values_back : (α : ℕ → Bool) (n : ℕ) (vs : List ℕ) (y : Values) → ProperLevel n vs → In y (choices vs) → ((v : ℕ) → T (elem v vs) → α v ≡ has (pos v) y) → values_of α vs ≡ y
values_back α n [] y p (inl e) f = sym e
values_back α n [] y p (inr k) f = absurd k
values_back α n (zero ∷ vs) y p k f = absurd (not-suc-le-zero p.0)
values_back α n (suc u ∷ vs) y p k f =
    ⊎_elim
    (λ c. let h : α (suc u) ≡ true = f (suc u) (or_l (eqb (suc u) (suc u)) (elem (suc u) vs) (eqb_refl (suc u))) ∙ ap (has (pos (suc u))) c.2
    ∙ is_true (eqb (suc u) (suc u) || has (pos (suc u)) c.0) (or_l (eqb (suc u) (suc u)) (has (pos (suc u)) c.0) (eqb_refl (suc u))) in
    ap₂ {C = Values} (λ b x. cond b (pos (suc u)) (negsuc u) ∷ x) h
    (values_back α n vs c.0 p.3 c.1 (λ w m. f w (or_r (eqb w (suc u)) (elem w vs) m) ∙ ap (has (pos w)) c.2 ∙ ap (λ b. b || has (pos w) c.0) (apart (suc u) w vs p.2 m)))
    ∙ sym c.2)
    (λ c. let h : α (suc u) ≡ false = f (suc u) (or_l (eqb (suc u) (suc u)) (elem (suc u) vs) (eqb_refl (suc u))) ∙ ap (has (pos (suc u))) c.2
    ∙ is_false (has (pos (suc u)) c.0) (not_T (has (pos (suc u)) c.0) (λ g. clash (elem (suc u) vs) (choices-has vs c.0 c.1 (suc u) g) p.2)) in
    ap₂ {C = Values} (λ b x. cond b (pos (suc u)) (negsuc u) ∷ x) h
    (values_back α n vs c.0 p.3 c.1 (λ w m. f w (or_r (eqb w (suc u)) (elem w vs) m) ∙ ap (has (pos w)) c.2))
    ∙ sym c.2)
    (choice_cases (suc u) y (choices vs) k)

-- an assignment with the values y and the signals t and b
abbrev assign : Clauses → ℕ → Values → (ℕ → Bool) → (ℕ → Bool) → ℕ → Bool
assign C n y t b x = cond (leb x n) (has (pos x) y) (cond (leb x (n + length C)) (t (x - suc n)) (b (x - suc (n + length C))))

module _ (C : Clauses) (n : ℕ) (y : Values) (t b : ℕ → Bool) where
  over_n : (x : ℕ) → n < x → leb x n ≡ false
  over_n x h = is_false (leb x n) (not_T (leb x n) (λ l. let k : x ≤ n = leb→le x n l in omega arith))

  assign_t : (i : ℕ) → i < length C → assign C n y t b (t_signal n i) ≡ t i
  assign_t i lt =
      ap (λ c. cond c (has (pos (t_signal n i)) y) (cond (leb (t_signal n i) (n + length C)) (t (t_signal n i - suc n)) (b (t_signal n i - suc (n + length C))))) (over_n (t_signal n i) (omega arith))
      ∙ ap (λ c. cond c (t (t_signal n i - suc n)) (b (t_signal n i - suc (n + length C)))) (is_true (leb (t_signal n i) (n + length C)) (le→leb (t_signal n i) (n + length C) (omega arith)))
      ∙ ap t (omega arith)

  assign_b : (i : ℕ) → assign C n y t b (b_signal n (length C) i) ≡ b i
  assign_b i =
      ap (λ c. cond c (has (pos (b_signal n (length C) i)) y) (cond (leb (b_signal n (length C) i) (n + length C)) (t (b_signal n (length C) i - suc n)) (b (b_signal n (length C) i - suc (n + length C))))) (over_n (b_signal n (length C) i) (omega arith))
      ∙ ap (λ c. cond c (t (b_signal n (length C) i - suc n)) (b (b_signal n (length C) i - suc (n + length C))))
      (is_false (leb (b_signal n (length C) i) (n + length C)) (not_T (leb (b_signal n (length C) i) (n + length C)) (λ l. let k : b_signal n (length C) i ≤ n + length C = leb→le (b_signal n (length C) i) (n + length C) l in omega arith)))
      ∙ ap b (omega arith)

  assign_v : (v : ℕ) → v ≤ n → assign C n y t b v ≡ has (pos v) y
  assign_v v h = ap (λ c. cond c (has (pos v) y) (cond (leb v (n + length C)) (t (v - suc n)) (b (v - suc (n + length C))))) (is_true (leb v n) (le→leb v n h))

proper_le : (n : ℕ) (vs : List ℕ) → ProperLevel n vs → (v : ℕ) → T (elem v vs) → v ≤ n
proper_le n [] p v m = absurd m
proper_le n (w ∷ vs) p v m = ⊎_elim (λ e. subst (λ k. k ≤ n) (sym (eqb→eq v w e)) p.1) (proper_le n vs p.3 v) (or_cases (eqb v w) (elem v vs) m)

meets_shift : (C : Clauses) (σ : Side) (s : LevelState) (r : List LevelState) (y : Values) (t t' b b' : ℕ → Bool) → ((i : ℕ) → i < length C → t' i ≡ t i) → b ≡ b'
    → Meets C σ s r y t b → Meets C σ s r y t' b'
meets_shift C Ours s [] y t t' b b' e q h = λ i lt nt. h i lt (subst (λ c. T (not c)) (e i lt) nt)
meets_shift C Ours s (m ∷ r) y t t' b b' e q h =
    let k : Meets C Ours s (m ∷ r) y t b' = subst (λ c. Meets C Ours s (m ∷ r) y t c) q h in (λ i lt nt. k.0 i lt (subst (λ c. T (not c)) (e i lt) nt), k.1)
meets_shift C Device s r y t t' b b' e q h = subst (λ c. Meets C Device s r y t' c) q h

-- no assignment satisfies the chain and has the assumed signals of the clauses in F false
abbrev pub Refuted : Clauses → ℕ → Side → List (List ℤ) → (ℕ → Bool) → Type 0
Refuted C n σ ch F = (α : ℕ → Bool) → T (satisfies α ch) → ((i : ℕ) → i < length C → T (F i) → T (not (α (signal n (length C) σ i)))) → ⊥

-- an assignment with the values y that satisfies the chain, when y and the signals t and b meet it
pub assigned : (C : Clauses) (n : ℕ) (σ : Side) (s : LevelState) (r : List LevelState) (y : Values) (t b : ℕ → Bool) → ProperLevel n s.variables
    → In y (choices_at s) → Meets C σ s r y t b
    → (α : ℕ → Bool) × T (satisfies α (chain C n σ s r)) × (values_of α s.variables ≡ y) × ((i : ℕ) → i < length C → α (signal n (length C) σ i) ≡ t_or_b σ t b i)
assigned C n σ s r y t b p m meets = (
  α,
  meets_chain C n σ s r α p (subst (λ x. Meets C σ s r x (λ i. α (t_signal n i)) (λ i. α (b_signal n (length C) i))) (sym back)
      (meets_shift C σ s r y t (λ i. α (t_signal n i)) b (λ i. α (b_signal n (length C) i)) (assign_t C n y t b) (fun_ext (λ i. sym (assign_b C n y t b i))) meets)),
  back,
  at σ,
)
  where
    α : ℕ → Bool
    α = assign C n y t b

    back : values_of α s.variables ≡ y
    back = values_back α n s.variables y p m (λ v e. assign_v C n y t b v (proper_le n s.variables p v e))

    at : (σ : Side) (i : ℕ) → i < length C → α (signal n (length C) σ i) ≡ t_or_b σ t b i
    at Ours i lt = assign_t C n y t b i lt
    at Device i lt = assign_b C n y t b i

pub refuted_nothing_meets : (C : Clauses) (n : ℕ) (σ : Side) (s : LevelState) (r : List LevelState) (F : ℕ → Bool) → ProperLevel n s.variables
    → Refuted C n σ (chain C n σ s r) F → NothingMeets C σ s r F
refuted_nothing_meets C n σ s r F p ref y m t b meets f =
    let a : (α : ℕ → Bool) × T (satisfies α (chain C n σ s r)) × (values_of α s.variables ≡ y) × ((i : ℕ) → i < length C → α (signal n (length C) σ i) ≡ t_or_b σ t b i) =
    assigned C n σ s r y t b p m meets in
    ref a.0 a.1 (λ i lt h. subst (λ c. T (not c)) (sym (a.3 i lt)) (f i lt h))

-- and the other way round
pub nothing_meets_refuted : (C : Clauses) (n : ℕ) (σ : Side) (s : LevelState) (r : List LevelState) (F : ℕ → Bool) → ProperLevel n s.variables
    → NothingMeets C σ s r F → Refuted C n σ (chain C n σ s r) F
nothing_meets_refuted C n σ s r F p st α sat f =
    st (values_of α s.variables) (values_in_lem α s.variables) (λ i. α (t_signal n i)) (λ i. α (b_signal n (length C) i)) (chain_meets C n σ s r α p sat) (at σ f)
  where
    at : (σ : Side) → ((i : ℕ) → i < length C → T (F i) → T (not (α (signal n (length C) σ i))))
        → (i : ℕ) → i < length C → T (F i) → T (not (t_or_b σ (λ j. α (t_signal n j)) (λ j. α (b_signal n (length C) j)) i))
    at Ours f = f
    at Device f = f
