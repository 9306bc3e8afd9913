-- Each step lowers the potential.
use Rattle.std.proofs.Common.{◌≡◌, ℕ, suc, ◌+◌, ◌*◌, ◌<◌, ◌≤◌, Bool, true, false, not, ◌&&◌, T, List, [], ◌∷◌, length, sym, refl, ap, subst, ap₂, ⊎_elim, mul-le-mul_right, suc-mul, arith}
use lib.Dec.{not_T}
use Rattle.formula.specs.Game.{other, Values, Clauses, Play, hits, hit}
use Rattle.formula.specs.Lists.{all, In, All, elem, below}
use Rattle.formula.proofs.Tests.{dec, clash, or_cases, nor_l, nor_r, and_l, both, all_at, all_from, kept_in, kept_passes}
use Rattle.strategy.specs.Entries.{LevelState, choices_at, variables_of}
use Rattle.strategy.specs.Potential.{same_values, weight, excludes, excluded, unexcluded, unexcluded_but, present_term, kept_terms, potential}
use Rattle.strategy.specs.Steps.{KeptLevel, played, State, playing, learn, enter, last_entry_set, entry_set, no_level_ours, no_level_device, yes_below_last, yes_only_level, yes_at_last, no_first, no_second, no_later}
use Rattle.strategy.proofs.ByMeaning.{YesMeaning, NoMeaning, MeaningStep}
use Rattle.strategy.proofs.Counting.{count_le, count_lt, count_length, none_of, all_map₂, same_values_refl, same_values_eq}
use Rattle.strategy.proofs.Growth.{SoundKept, kept_front}
use Rattle.strategy.proofs.Verdicts.{SoundState}
use Rattle.formula.specs.declared.side.Side.{Side}
use Rattle.formula.specs.declared.side.Side.TheVariants.{Ours, Device}

-- arithmetic
yes_falls : (B F K W N : ℕ) → K < F → N ≤ W → (suc (K * suc W) + B) + N < B + suc (F * suc W)
yes_falls B F K W N h k =
    let m : suc K * suc W ≤ F * suc W = mul-le-mul_right (suc W) h in
    let e : suc K * suc W ≡ K * suc W + suc W = suc-mul K (suc W) in omega arith

return_falls : (B F K W N : ℕ) → F ≤ K → 0 < N → B + suc (F * suc W) < (suc (K * suc W) + B) + N
return_falls B F K W N h k = let m : F * suc W ≤ K * suc W = mul-le-mul_right (suc W) h in omega arith

return_falls₂ : (B F K W N Z : ℕ) → F ≤ K → 0 < N → B + suc (F * suc W) < (Z + (suc (K * suc W) + B)) + N
return_falls₂ B F K W N Z h k = let m : F * suc W ≤ K * suc W = mul-le-mul_right (suc W) h in omega arith

-- the present level counts at least 1, and at most its weight
pub present_pos : (C : Clauses) (σ : Side) (π : Play) (f : List LevelState) → 0 < present_term C σ π f
present_pos C σ π [] = omega arith
present_pos C σ π (s ∷ []) = omega arith
present_pos C σ π (s ∷ n ∷ r) = omega arith

pub present_weight : (C : Clauses) (σ : Side) (π : Play) (f : List LevelState) → present_term C σ π f ≤ weight (variables_of f)
present_weight C σ π [] = omega arith
present_weight C σ π (s ∷ []) = omega arith
present_weight C σ π (s ∷ n ∷ r) =
    let m : unexcluded C σ π s * suc (weight (variables_of (n ∷ r))) ≤ length (choices_at s) * suc (weight (variables_of (n ∷ r))) =
    mul-le-mul_right (suc (weight (variables_of (n ∷ r)))) (count_length (λ x. not (excluded C σ π s x)) (choices_at s)) in
    omega arith

-- what is behind depends on the shape alone of what is in front
kept_terms_same : (C : Clauses) (σ : Side) (back : List KeptLevel) (f f' : List LevelState) → variables_of f ≡ variables_of f' → kept_terms C σ back f ≡ kept_terms C σ back f'
kept_terms_same C σ [] f f' e = refl
kept_terms_same C σ (p ∷ back) f f' e =
    ap₂ (λ w b. suc (unexcluded_but C (other σ) (played back) p.state p.kept * suc w) + b) (ap weight e)
    (kept_terms_same C (other σ) back (p.state ∷ f) (p.state ∷ f') (ap {B = List (List ℕ)} (λ v. p.state.variables ∷ v) e))

-- a yes gives values that are not excluded
pub yes_unexcluded : (C : Clauses) (σ : Side) (π : Play) (s n : LevelState) (r : List LevelState) (x : Values) → YesMeaning C σ π s (n ∷ r) x
    → All (λ A. (i : ℕ) → T (elem i A) → i < length C) s.learned → T (not (excluded C σ π s x))
yes_unexcluded C Ours π s n r x a small =
    none_of (excludes C Ours (x ∷ π)) s.learned
    (all_map₂ (λ A. T (not (all a.b A))) (λ A. (i : ℕ) → T (elem i A) → i < length C) (λ A. T (not (excludes C Ours (x ∷ π) A))) s.learned bar a.meets.1 small)
  where
    bar : (A : List ℕ) → T (not (all a.b A)) → ((i : ℕ) → T (elem i A) → i < length C) → T (not (excludes C Ours (x ∷ π) A))
    bar A nb lt =
        not_T (excludes C Ours (x ∷ π) A) (λ al. clash (all a.b A)
        (all_from a.b A (λ i m. ⊎_elim (λ h. h)
        (λ h. let nh : T (not (hit C (x ∷ π) i)) = all_at (λ j. not (hit C (x ∷ π) j)) A al i m in
        absurd (clash (hits C x i) (a.meets.0 i (lt i m) (a.agrees i (lt i m) (nor_r (hits C x i) (hit C π i) nh)) h) (nor_l (hits C x i) (hit C π i) nh)))
        (dec (a.b i)))) nb)
yes_unexcluded C Device π s n r x a small =
    none_of (excludes C Device (x ∷ π)) s.learned
    (all_map₂ (λ A. T (not (all (λ i. not (a.b i)) A))) (λ A. (i : ℕ) → T (elem i A) → i < length C) (λ A. T (not (excludes C Device (x ∷ π) A))) s.learned bar a.meets.1 small)
  where
    bar : (A : List ℕ) → T (not (all (λ i. not (a.b i)) A)) → ((i : ℕ) → T (elem i A) → i < length C) → T (not (excludes C Device (x ∷ π) A))
    bar A nb lt =
        not_T (excludes C Device (x ∷ π) A) (λ al. clash (all (λ i. not (a.b i)) A)
        (all_from (λ i. not (a.b i)) A (λ i m. ⊎_elim (a.meets.0 i (lt i m)) (a.agrees i (lt i m))
        (or_cases (hits C x i) (hit C π i) (all_at (hit C (x ∷ π)) A al i m)))) nb)

kept_falls : (C : Clauses) (σ : Side) (π : Play) (s : LevelState) (x : Values) → In x (choices_at s) → T (not (excluded C σ π s x)) → unexcluded_but C σ π s x < unexcluded C σ π s
kept_falls C σ π s x m u =
    count_lt (λ y. not (excluded C σ π s y) && not (same_values y x)) (λ y. not (excluded C σ π s y)) (choices_at s) x (λ y h. and_l (not (excluded C σ π s y)) (not (same_values y x)) h) m
    (not_T (not (excluded C σ π s x) && not (same_values x x)) (λ h. clash (same_values x x) (same_values_refl x) (and_last (not (excluded C σ π s x)) (not (same_values x x)) h))) u
  where
    and_last : (a b : Bool) → T (a && b) → T b
    and_last true b h = h
    and_last false b h = absurd h

-- a learned set that excludes the kept values
learn_falls : (C : Clauses) (σ : Side) (π : Play) (s : LevelState) (z : Values) (A : List ℕ) → T (excludes C σ (z ∷ π) A) → unexcluded C σ π (learn A s) ≤ unexcluded_but C σ π s z
learn_falls C σ π s z A bar =
    count_le (λ x. not (excluded C σ π (learn A s) x)) (λ x. not (excluded C σ π s x) && not (same_values x z)) (choices_at s)
    (λ x h. both (not (excluded C σ π s x)) (not (same_values x z)) (nor_r (excludes C σ (x ∷ π) A) (excluded C σ π s x) h)
    (not_T (same_values x z) (λ e. clash (excludes C σ (x ∷ π) A) (subst (λ y. T (excludes C σ (y ∷ π) A)) (sym (same_values_eq x z e)) bar) (nor_l (excludes C σ (x ∷ π) A) (excluded C σ π s x) h))))

pub no_excludes : (C : Clauses) (σ : Side) (π : Play) (x z : Values) (s : LevelState) (r : List LevelState) (A : List ℕ) → NoMeaning C σ (x ∷ z ∷ π) s r A → T (excludes C σ (z ∷ π) (entry_set C σ A x))
no_excludes C Ours π x z s r A a = all_from (λ i. not (hit C (z ∷ π) i)) A (λ i m. nor_r (hits C x i) (hit C (z ∷ π) i) (a.named i m))
no_excludes C Device π x z s r A a =
    all_from (hit C (z ∷ π)) (entry_set C Device A x) (λ i m.
    ⊎_elim (λ h. absurd (clash (hits C x i) h (kept_passes (λ j. not (hits C x j)) A i m))) (λ h. h)
    (or_cases (hits C x i) (hit C (z ∷ π) i) (a.named i (kept_in (λ j. not (hits C x j)) A i m))))

pub last_excludes : (C : Clauses) (π : Play) (x : Values) → T (excludes C Device π (last_entry_set C (hit C π) x))
last_excludes C π x = all_from (hit C π) (last_entry_set C (hit C π) x) (λ i m. and_l (hit C π i) (not (hits C x i)) (kept_passes (λ j. hit C π j && not (hits C x j)) (below (length C)) i m))

-- each step lowers the potential
pub step_falls : (C : Clauses) (τ : Side) (levels : List (List ℕ)) {a b : State} → MeaningStep C a b → SoundState C τ levels a → potential C b < potential C a
step_falls C τ levels (no_level_ours e) h = omega arith
step_falls C τ levels (no_level_device e) h = omega arith
step_falls C τ levels (yes_below_last {σ} {back} {s} {n} {r} x a) h = go σ a h.2
  where
    go : (σ : Side) → YesMeaning C σ (played back) s (n ∷ r) x → SoundKept C σ back (s ∷ n ∷ r)
        → potential C (playing (other σ) (record { state = s; kept = x } ∷ back) (n ∷ r)) < potential C (playing σ back (s ∷ n ∷ r))
    go Ours a h =
        yes_falls (kept_terms C Ours back (s ∷ n ∷ r)) (unexcluded C Ours (played back) s) (unexcluded_but C Ours (played back) s x) (weight (variables_of (n ∷ r))) (present_term C Device (x ∷ played back) (n ∷ r))
        (kept_falls C Ours (played back) s x a.among (yes_unexcluded C Ours (played back) s n r x a (kept_front C Ours back (s ∷ n ∷ r) h).0.small))
        (present_weight C Device (x ∷ played back) (n ∷ r))
    go Device a h =
        yes_falls (kept_terms C Device back (s ∷ n ∷ r)) (unexcluded C Device (played back) s) (unexcluded_but C Device (played back) s x) (weight (variables_of (n ∷ r))) (present_term C Ours (x ∷ played back) (n ∷ r))
        (kept_falls C Device (played back) s x a.among (yes_unexcluded C Device (played back) s n r x a (kept_front C Device back (s ∷ n ∷ r) h).0.small))
        (present_weight C Ours (x ∷ played back) (n ∷ r))
step_falls C τ levels (yes_only_level x a) h = omega arith
step_falls C τ levels (yes_at_last {p} {back} {s} x a) h =
    let A : List ℕ = last_entry_set C (hit C (played (p ∷ back))) x in
    rw (kept_terms_same C Device back (learn A p.state ∷ enter A x s ∷ []) (p.state ∷ s ∷ []) refl)
    (return_falls (kept_terms C Device back (p.state ∷ s ∷ [])) (unexcluded C Device (played back) (learn A p.state)) (unexcluded_but C Device (played back) p.state p.kept) 1 1
    (learn_falls C Device (played back) p.state p.kept A (last_excludes C (played (p ∷ back)) x)) (omega arith))
step_falls C τ levels (no_first {σ} {s} {r} A a) h = omega (arith, present_pos C σ [] (s ∷ r))
step_falls C τ levels (no_second {σ} {p} {s} {r} A a) h = omega (arith, present_pos C σ (p.kept ∷ []) (s ∷ r))
step_falls C τ levels (no_later {σ} {p} {q} {back} {s} {r} A a) h = go σ a
  where
    go : (σ : Side) → NoMeaning C σ (played (p ∷ q ∷ back)) s r A
        → potential C (playing σ back (learn (entry_set C σ A p.kept) q.state ∷ enter (entry_set C σ A p.kept) p.kept p.state ∷ s ∷ r))
        < potential C (playing σ (p ∷ q ∷ back) (s ∷ r))
    go Ours a =
        rw (kept_terms_same C Ours back (learn A q.state ∷ enter A p.kept p.state ∷ s ∷ r) (q.state ∷ p.state ∷ s ∷ r) refl)
        (return_falls₂ (kept_terms C Ours back (q.state ∷ p.state ∷ s ∷ r)) (unexcluded C Ours (played back) (learn A q.state)) (unexcluded_but C Ours (played back) q.state q.kept)
        (weight (variables_of (p.state ∷ s ∷ r))) (present_term C Ours (played (p ∷ q ∷ back)) (s ∷ r)) (suc (unexcluded_but C Device (played (q ∷ back)) p.state p.kept * suc (weight (variables_of (s ∷ r)))))
        (learn_falls C Ours (played back) q.state q.kept A (no_excludes C Ours (played back) p.kept q.kept s r A a)) (present_pos C Ours (played (p ∷ q ∷ back)) (s ∷ r)))
    go Device a =
        let B : List ℕ = entry_set C Device A p.kept in
        rw (kept_terms_same C Device back (learn B q.state ∷ enter B p.kept p.state ∷ s ∷ r) (q.state ∷ p.state ∷ s ∷ r) refl)
        (return_falls₂ (kept_terms C Device back (q.state ∷ p.state ∷ s ∷ r)) (unexcluded C Device (played back) (learn B q.state)) (unexcluded_but C Device (played back) q.state q.kept)
        (weight (variables_of (p.state ∷ s ∷ r))) (present_term C Device (played (p ∷ q ∷ back)) (s ∷ r)) (suc (unexcluded_but C Ours (played (q ∷ back)) p.state p.kept * suc (weight (variables_of (s ∷ r)))))
        (learn_falls C Device (played back) q.state q.kept B (no_excludes C Device (played back) p.kept q.kept s r A a)) (present_pos C Device (played (p ∷ q ∷ back)) (s ∷ r)))
