-- The assignment that a complete row of values has. Assumes nothing.
use Rattle.std.proofs.Common.{◌≡◌, ℕ, zero, suc, ◌+◌, ◌-◌, ◌≤◌, Bool, true, false, cond, List, [], ◌∷◌, ◌++◌, length, take, ℤ, pos, negsuc, nat_abs, Some, MatchBool, sym, refl, ap, ◌∙◌, subst, ⊎_elim, add-one, arith}
use Rattle.std.proofs.lemmas.List.{take_more, take_at, take_all}
use Rattle.engine.specs.Meaning.{values, value_after}
use Rattle.propagation.specs.Rows.{at, Shaped}
use Rattle.branching.specs.Search.{positive, Complete}
use Rattle.branching.proofs.Order.{reads, agrees_reads, number_first}
use Rattle.propagation.specs.Steps.{Stuck}
use Rattle.branching.specs.Search.{Met, Solved, Supposed}
use Rattle.branching.proofs.Uses.{clash_used, agrees_sourced}

value_reads : (row : List ℤ) (k : ℕ) → nat_abs (at row k) ≡ k + 1 → value_after (reads row) k ≡ at row k
value_reads row k e = ap (λ j. cond (positive (at row j)) (pos (suc k)) (negsuc k)) place ∙ go (at row k) refl
  where
    place : suc k - 1 ≡ k
    place = omega arith

    go : (z : ℤ) → at row k ≡ z → cond (positive (at row k)) (pos (suc k)) (negsuc k) ≡ at row k
    go (pos n) is =
        let size : n ≡ k + 1 = sym (ap nat_abs is) ∙ e in
        ap (λ z. cond (positive z) (pos (suc k)) (negsuc k)) is ∙ ap pos (omega arith) ∙ sym is
    go (negsuc n) is =
        let size : suc n ≡ k + 1 = sym (ap nat_abs is) ∙ e in
        ap (λ z. cond (positive z) (pos (suc k)) (negsuc k)) is ∙ ap negsuc (omega arith) ∙ sym is

pub values_reads : (row : List ℤ) → Shaped row → Complete row → (k : ℕ) → k ≤ length row → values (reads row) k ≡ take k row
values_reads row shaped complete zero h = refl
values_reads row shaped complete (suc k) h =
    let size : nat_abs (at row k) ≡ k + 1 = ⊎_elim (λ none. absurd (complete k (omega arith) none)) (λ e. e) (shaped k (omega arith)) in
    ap (λ l. l ++ (value_after (reads row) k ∷ [])) (values_reads row shaped complete k (omega arith))
    ∙ ap (λ z. take k row ++ (z ∷ [])) (value_reads row k size)
    ∙ sym (take_more row k (pos 0) (omega arith)) ∙ ap (λ n. take n row) (add-one k)

pub solved_from : (s : ℕ) (cs : List (List ℤ)) (named row₀ row rest : List ℤ) (trail₀ trail : List ℕ) (mark : ℕ) (marks₀ marks : List Bool) (r : Bool) → length row ≡ s
    → Supposed named row₀ trail₀ marks₀ (Some mark) → MatchBool r (Met cs row₀ row) (Stuck cs row₀ trail₀ mark row trail marks) → Solved s cs named (row ++ rest) marks r
solved_from s cs named row₀ row rest trail₀ trail mark marks₀ marks true size supposed met =
    let agrees = agrees_reads row in (
      reads row,
      (met.meets (reads row) agrees, supposed.3 (reads row) (met.extends (reads row) agrees)),
      take_at row rest s size ∙ sym (values_reads row met.shaped met.complete s (omega arith) ∙ take_all s row (omega arith)),
      (λ b meets. number_first row b s (omega arith) (met.first b meets.0 (agrees_sourced b named row₀ supposed.2 meets.1))),
    )
solved_from s cs named row₀ row rest trail₀ trail mark marks₀ marks false size supposed stuck = clash_used cs marks row₀ named supposed.2 stuck.blocked

pub solved_same : (s s' : ℕ) (cs cs' : List (List ℤ)) (named row : List ℤ) (marks : List Bool) → s ≡ s' → cs ≡ cs' → Solved s cs named row marks true → Solved s' cs' named row marks true
solved_same s s' cs cs' named row marks e f solved = subst (λ t. Solved t cs' named row marks true) e (subst (λ l. Solved s l named row marks true) f solved)
