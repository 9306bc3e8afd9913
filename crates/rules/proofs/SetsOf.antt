-- The sets that a step enters are sets of the game's clauses; and a level has no more variables than all levels bind.
use Rattle.std.proofs.Common.{◌≡◌, ℕ, zero, suc, ◌+◌, ◌<◌, ◌≤◌, Bool, false, not, ◌&&◌, List, [], ◌∷◌, length, get_or, take, ℤ, nat_abs, refl, ap, arith}
use Rattle.std.proofs.lemmas.List.{length-map}
use Rattle.std.proofs.lemmas.Bool.{cond_both}
use Rattle.formula.specs.Lists.{keep, All, each, from, below}
use Rattle.formula.specs.Game.{Clauses, Values, hits}
use Rattle.formula.specs.Model.{bound_in}
use Rattle.formula.specs.declared.side.Side.{Side}
use Rattle.formula.specs.declared.side.Side.TheVariants.{Ours, Device}
use Rattle.formula.proofs.Ranges.{length_from}
use Rattle.strategy.specs.Questions.{clause_of, clauses_named}
use Rattle.strategy.specs.Steps.{last_entry_set, entry_set}
use Rattle.layout.specs.declared.game.Level.{Level}
use Rattle.layout.specs.declared.game.Game.{Game}
use Rattle.layout.specs.Table.{nought, level_of}
use Rattle.layout.specs.Viewed.{variables_in}
use Rattle.rules.specs.Naming.{base_of, Names}
use Rattle.rules.specs.Spare.{bound_by, SetOf}

pub keep_few : (p : ℕ → Bool) (l : List ℕ) → length (keep p l) ≤ length l
keep_few p [] = omega arith
keep_few p (i ∷ l) = let h = keep_few p l in cond_both (p i) (i ∷ keep p l) (keep p l) (λ r. length r ≤ suc (length l)) (λ t. omega arith) (λ f. omega arith)

keep_all : (P : ℕ → Type 0) (p : ℕ → Bool) (l : List ℕ) → All P l → All P (keep p l)
keep_all P p [] h = tt
keep_all P p (i ∷ l) h = cond_both (p i) (i ∷ keep p l) (keep p l) (All P) (λ t. (h.0, keep_all P p l h.1)) (λ f. keep_all P p l h.1)

pub all_at : (k : ℕ) (l : List ℕ) → All (λ i. i < k) l → (j : ℕ) → j < length l → get_or l j 0 < k
all_at k [] h j b = absurd (omega arith)
all_at k (i ∷ l) h zero b = h.0
all_at k (i ∷ l) h (suc j) b = all_at k l h.1 j (omega arith)

from_small : (i n k : ℕ) → i + n ≤ k → All (λ j. j < k) (from i n)
from_small i zero k h = tt
from_small i (suc n) k h = (omega arith, from_small (suc i) n k (omega arith))

pub last_set_of : (g : Game) (C : Clauses) (before : ℕ → Bool) (x : Values) → length C ≡ g.clauses → SetOf g (last_entry_set C before x)
last_set_of g C before x count =
    let p : ℕ → Bool = λ i. before i && not (hits C x i) in
    let few = keep_few p (below (length C)) in
    let long = length_from 0 (length C) in
    record { few = omega arith; clauses = all_at g.clauses (keep p (below (length C))) (keep_all (λ i. i < g.clauses) p (below (length C)) (from_small 0 (length C) g.clauses (omega arith))) }

clause_small : (n k : ℕ) (σ : Side) (l : ℤ) → base_of n k σ < nat_abs l → nat_abs l ≤ base_of n k σ + k → clause_of n k σ l < k
clause_small n k Ours l a b = omega arith
clause_small n k Device l a b = omega arith

names_small : (n k : ℕ) (σ : Side) (names : List ℤ) → Names n k σ names → All (λ i. i < k) (clauses_named n k σ names)
names_small n k σ [] h = tt
names_small n k σ (l ∷ names) h = let here = h 0 (omega arith) in (clause_small n k σ l here.0 here.1, names_small n k σ names (λ j b. h (suc j) (omega arith)))

entry_small : (C : Clauses) (σ : Side) (A : List ℕ) (x : Values) (k : ℕ) → All (λ i. i < k) A → All (λ i. i < k) (entry_set C σ A x) × (length (entry_set C σ A x) ≤ length A)
entry_small C Ours A x k h = (h, omega arith)
entry_small C Device A x k h = (keep_all (λ i. i < k) (λ i. not (hits C x i)) A h, keep_few (λ i. not (hits C x i)) A)

pub named_set_of : (g : Game) (C : Clauses) (σ : Side) (names : List ℤ) (x : Values) → length names ≤ g.clauses → Names g.variables g.clauses σ names
    → SetOf g (entry_set C σ (clauses_named g.variables g.clauses σ names) x)
named_set_of g C σ names x few named =
    let A = clauses_named g.variables g.clauses σ names in
    let small = entry_small C σ A x g.clauses (names_small g.variables g.clauses σ names named) in
    let long : length A ≡ length names = length-map names (clause_of g.variables g.clauses σ) in
    record { few = omega (arith, small.1); clauses = all_at g.clauses (entry_set C σ A x) small.0 }

-- the variables of one level, and those of all
none_flagged : (l : List ℕ) → keep (λ v. get_or [] v false) l ≡ []
none_flagged [] = refl
none_flagged (v ∷ l) = none_flagged l

level_bound : (n : ℕ) (ls : List Level) (d m : ℕ) → m < d → length (variables_in n (get_or ls m nought)) ≤ bound_in (each (variables_in n) (take d ls))
level_bound n [] d m h = let none = ap (λ (l : List ℕ). length l) (none_flagged (from 1 n)) in omega arith
level_bound n (l ∷ ls) zero m h = absurd (omega arith)
level_bound n (l ∷ ls) (suc d) zero h = omega arith
level_bound n (l ∷ ls) (suc d) (suc m) h = let rest = level_bound n ls d m (omega arith) in omega arith

pub level_few : (g : Game) (m : ℕ) → m < g.depth → length (variables_in g.variables (level_of g m)) ≤ bound_by g
level_few g m h = level_bound g.variables g.levels g.depth m h
