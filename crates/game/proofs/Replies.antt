-- An engine's answer, by its meaning, is an answer to the question about the present level.
use Rattle.std.proofs.Common.{◌≡◌, ℕ, zero, suc, ◌-◌, ◌<◌, ◌≤◌, Bool, true, false, cond, ◌&&◌, ◌||◌, T, List, [], ◌∷◌, ◌++◌, get_or, ℤ, pos, negsuc, sym, refl, ap, ◌∙◌, subst, ap₂, inl, inr, ⊎_elim, arith}
use mathlib.Core.List.{nil≢cons}
use lib.Signed.{lt_z}
use Rattle.std.proofs.lemmas.List.{get_or_append_left, get_or_push}
use Rattle.std.proofs.lemmas.Bool.{cases_lt, lt-ltb}
use Rattle.formula.specs.Lists.{all, any, In, each}
use Rattle.formula.specs.Proper.{Ascending}
use Rattle.formula.specs.declared.side.Side.{Side}
use Rattle.formula.proofs.Turned.{same_head, same_tail}
use Rattle.engine.proofs.Values.{length_values}
use Rattle.engine.specs.Truth.{literal, clause, chain}
use Rattle.engine.specs.Truth.{each as each_true}
use Rattle.engine.specs.Meaning.{Part, none, leave, Clash, values, value_after}
use Rattle.engine.specs.Meaning.{keep as take-it}
use Rattle.rules.proofs.Stepping.{ascending_lower}
use Rattle.strategy.specs.Records.{holds, satisfies, Unsatisfiable, assumptions}
use Rattle.strategy.specs.Questions.{clause_of, clauses_named}
use Rattle.strategy.proofs.Numbers.{clause_back}

-- the engine's words for what is true, and the theory's
literal_is : (α : ℕ → Bool) (x : ℤ) → literal α x ≡ holds α x
literal_is α (pos n) = refl
literal_is α (negsuc n) = refl

clause_is : (α : ℕ → Bool) (c : List ℤ) → clause α c ≡ any (holds α) c
clause_is α [] = refl
clause_is α (x ∷ c) = ap₂ ◌||◌ (literal_is α x) (clause_is α c)

pub each_is : (α : ℕ → Bool) (xs : List ℤ) → each_true α xs ≡ all (holds α) xs
each_is α [] = refl
each_is α (x ∷ xs) = ap₂ ◌&&◌ (literal_is α x) (each_is α xs)

pub chain_is : (α : ℕ → Bool) (cs : List (List ℤ)) → chain α cs ≡ satisfies α cs
chain_is α [] = refl
chain_is α (c ∷ cs) = ap₂ ◌&&◌ (clause_is α c) (chain_is α cs)

true_test : (b : Bool) → b ≡ true → T b
true_test b e = subst T (sym e) tt

test_true : (b : Bool) → T b → b ≡ true
test_true true t = refl
test_true false t = absurd t

pub meets_chain : (α : ℕ → Bool) (cs : List (List ℤ)) → chain α cs ≡ true → T (satisfies α cs)
meets_chain α cs e = true_test _ (sym (chain_is α cs) ∙ e)

pub meets_each : (α : ℕ → Bool) (xs : List ℤ) → each_true α xs ≡ true → T (all (holds α) xs)
meets_each α xs e = true_test _ (sym (each_is α xs) ∙ e)

pub clash_unsatisfiable : (cs : List (List ℤ)) (xs : List ℤ) → Clash cs xs → Unsatisfiable cs xs
clash_unsatisfiable cs xs c α s a = c α (chain_is α cs ∙ test_true _ s, each_is α xs ∙ test_true _ a)

-- yes: the word of a signal says its value
value_among : (α : ℕ → Bool) (s k : ℕ) → k < s → get_or (values α s) k (pos 0) ≡ value_after α k
value_among α zero k h = absurd (omega arith)
value_among α (suc s) k h =
    ⊎_elim (λ l. get_or_append_left (values α s) (value_after α s ∷ []) (pos 0) k (subst (λ m. k < m) (sym (length_values α s)) l) ∙ value_among α s k l)
    (λ l. let e : k ≡ s = omega arith in ap (λ m. get_or (values α s ++ value_after α s ∷ []) m (pos 0)) e ∙ get_or_push (values α s) (value_after α s) (pos 0) s (length_values α s) ∙ ap (value_after α) (sym e))
    (cases_lt k s)

signed_value : (b : Bool) (k : ℕ) → lt_z (pos 0) (cond b (pos (suc k)) (negsuc k)) ≡ b
signed_value true k = lt-ltb 0 (suc k) (omega arith)
signed_value false k = refl

-- the value of a variable that is one of the signals
pub value_said : (α : ℕ → Bool) (s v : ℕ) (rest : List ℤ) → 1 ≤ v → v ≤ s → lt_z (pos 0) (get_or (values α s ++ rest) (v - 1) (pos 0)) ≡ α v
value_said α s v rest low high =
    let k = v - 1 in
    let up : suc (v - 1) ≡ v = omega arith in
    ap (lt_z (pos 0)) (get_or_append_left (values α s) rest (pos 0) k (subst (λ m. k < m) (sym (length_values α s)) (omega arith)) ∙ value_among α s k (omega arith))
    ∙ signed_value (α (suc k)) k ∙ ap α up

-- no: the names are a part of the assumptions, in their order, and so their clauses ascend
module _ (n k : ℕ) (σ : Side) where
  pub part_ascends : {xs ys : List ℤ} → Part xs ys → (B : List ℕ) → ys ≡ assumptions n k σ B → (low : ℕ) → Ascending low k (each (λ i. suc i) B) → Ascending low k (each (λ i. suc i) (clauses_named n k σ xs))
  part_ascends none B e low a = tt
  part_ascends (take-it p) [] e low a = absurd (nil≢cons (sym e))
  part_ascends (take-it {x = x} {xs = xs} {ys = ys} p) (i ∷ B) e low a =
      let is : clause_of n k σ x ≡ i = ap (clause_of n k σ) (same_head x _ ys _ e) ∙ clause_back n k σ i in
      subst (λ j. Ascending low k (suc j ∷ each (λ i. suc i) (clauses_named n k σ xs))) (sym is) (a.0, a.1, part_ascends p B (same_tail x _ ys _ e) (suc i) a.2)
  part_ascends (leave p) [] e low a = absurd (nil≢cons (sym e))
  part_ascends (leave {x = x} {xs = xs} {ys = ys} p) (i ∷ B) e low a =
      let l = a.0 in
      ascending_lower (suc i) low k (clauses_named n k σ xs) (omega arith) (part_ascends p B (same_tail x _ ys _ e) (suc i) a.2)

pub part_in : {xs ys : List ℤ} → Part xs ys → (l : ℤ) → In l xs → In l ys
part_in none l h = h
part_in (take-it p) l (inl e) = inl e
part_in (take-it p) l (inr h) = inr (part_in p l h)
part_in (leave p) l h = inr (part_in p l h)
