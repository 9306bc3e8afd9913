-- At most 2 ^ (q + 1) steps: the potential at open.
use Rattle.std.proofs.Common.{◌≡◌, ℕ, suc, ◌+◌, ◌*◌, ◌^◌, ◌<◌, ◌≤◌, List, [], ◌∷◌, length, refl, ap, mul-le-mul_left, pow-suc, mul-add, mul_left_comm, arith, pow_mono, pow-add}
use Rattle.formula.specs.Game.{Clauses}
use Rattle.formula.specs.Lists.{All, each}
use Rattle.formula.proofs.Values.{choices-length}
use Rattle.strategy.specs.Entries.{variables_of}
use Rattle.strategy.specs.Potential.{weight, potential}
use Rattle.strategy.specs.Steps.{State, here, more, new_level, opened}
use Rattle.formula.specs.Model.{bound_in}
use Rattle.strategy.proofs.ByMeaning.{MeaningStep, MeaningSteps}
use Rattle.strategy.proofs.Falls.{present_weight, step_falls}
use Rattle.strategy.proofs.Verdicts.{SoundState, steps_keep, opened_sound}
use Rattle.formula.specs.declared.side.Side.{Side}

pub steps_fall : (C : Clauses) (τ : Side) (levels : List (List ℕ)) {n : ℕ} {a b : State} → MeaningSteps C n a b → SoundState C τ levels a → n + potential C b ≤ potential C a
steps_fall C τ levels here h = omega arith
steps_fall C τ levels (more ss s) h =
    omega (arith, steps_fall C τ levels ss h, step_falls C τ levels s (steps_keep C τ levels ss h))

-- W + 3 ≤ 2 * P, for one level more, of a choices
more_weight : (a W P : ℕ) → 2 ≤ a → W + 3 ≤ 2 * P → suc (a * suc W) + 3 ≤ 2 * (a * P)
more_weight a W P h k =
    let m : a * (suc W + 2) ≤ a * (2 * P) = mul-le-mul_left a (omega arith) in
    let e : a * (suc W + 2) ≡ a * suc W + a * 2 = mul-add a (suc W) 2 in
    let c : a * (2 * P) ≡ 2 * (a * P) = mul_left_comm a 2 P in omega arith

many : (vs : List ℕ) → 0 < length vs → 2 ≤ 2 ^ length vs
many vs h = pow_mono {i = 1} {j = length vs} h

weight_below : (v : List ℕ) (r : List (List ℕ)) → All (λ vs. 0 < length vs) (v ∷ r) → weight (v ∷ r) + 3 ≤ 2 * 2 ^ bound_in (v ∷ r)
weight_below v [] h = rw (pow-add 2 (length v) 0) (omega (arith, many v h.0))
weight_below v (w ∷ r) h =
    rw (pow-add 2 (length v) (bound_in (w ∷ r)), choices-length v) (more_weight (2 ^ length v) (weight (w ∷ r)) (2 ^ bound_in (w ∷ r)) (many v h.0) (weight_below w r h.1))

weight_bound : (levels : List (List ℕ)) → All (λ vs. 0 < length vs) levels → weight levels ≤ 2 ^ suc (bound_in levels)
weight_bound [] h = omega arith
weight_bound (v ∷ r) h = omega (arith, weight_below v r h, pow-suc 2 (bound_in (v ∷ r)))

new_weight : (levels : List (List ℕ)) → weight (variables_of (each new_level levels)) ≡ weight levels
new_weight levels = ap weight (go levels)
  where
    go : (levels : List (List ℕ)) → variables_of (each new_level levels) ≡ levels
    go [] = refl
    go (v ∷ vs) = ap {B = List (List ℕ)} (λ l. v ∷ l) (go vs)

pub step_bound : (C : Clauses) (σ : Side) (levels : List (List ℕ)) (n : ℕ) (b : State) → All (λ vs. 0 < length vs) levels
    → MeaningSteps C n (opened σ levels) b → n ≤ 2 ^ suc (bound_in levels)
step_bound C σ levels n b h ss =
    omega (arith, steps_fall C σ levels ss (opened_sound C σ levels), present_weight C σ [] (each new_level levels), new_weight levels, weight_bound levels h)

pub step_lowers : (C : Clauses) (σ : Side) (levels : List (List ℕ)) (n : ℕ) (a b : State) → MeaningSteps C n (opened σ levels) a → MeaningStep C a b → potential C b < potential C a
step_lowers C σ levels n a b ss s = step_falls C σ levels s (steps_keep C σ levels ss (opened_sound C σ levels))

pub start_potential : (C : Clauses) (σ : Side) (levels : List (List ℕ)) → All (λ vs. 0 < length vs) levels → potential C (opened σ levels) ≤ 2 ^ suc (bound_in levels)
start_potential C σ levels h = omega (arith, present_weight C σ [] (each new_level levels), new_weight levels, weight_bound levels h)
