-- One turn of the loop that writes the chains of the levels and puts the levels at their places.
use Rattle.std.proofs.Common.{◌≡◌, ℕ, suc, ◌+◌, ◌<◌, eqb, List, [], ◌∷◌, length, get_or, drop, set, ℤ, sym, refl, ap, ◌∙◌, subst, add-one, arith}
use Rattle.std.proofs.lemmas.List.{drop_more, length-set}
use Rattle.formula.specs.Game.{other, Clauses, Qbf}
use Rattle.formula.specs.Model.{level_at}
use Rattle.formula.specs.declared.side.Side.{Side}
use Rattle.strategy.specs.Records.{open_records}
use Rattle.layout.specs.declared.game.Level.{Level}
use Rattle.layout.specs.Laying.{Laid, lay, laid, fresh, laid_chains, words_for, Enough, EnoughChains}
use Rattle.layout.specs.Opening.{level_records, level_chains}
use Rattle.layout.specs.Opened.{new_level, new_levels, put_from}
use Rattle.layout.proofs.Counted.{records_place, levels_place}
use Rattle.layout.proofs.Room.{enough_next}

pub enough_first : (size : ℕ) (s : Laid) (c : List (List ℤ)) (cs : List (List (List ℤ))) → EnoughChains size s (c ∷ cs) → Enough size (fresh s) c
enough_first size s c cs e = let w = e.within in record { some = e.some; below = e.some; within = omega arith; indexed = e.indexed }

-- the words in use after the records of a chain
used_after : (size : ℕ) (s : Laid) (c : List (List ℤ)) → Enough size s c → ((laid s c).used ≡ s.used + words_for c)
used_after size s [] e = omega arith
used_after size s (xs ∷ c) e = let h = used_after size (lay s xs) c (enough_next size s xs c e) in let b = e.some in omega arith

-- some word is in use, and stays so
laid_some : (s : Laid) (c : List (List ℤ)) → 0 < s.used → 0 < (laid s c).used
laid_some s [] h = h
laid_some s (xs ∷ c) h = laid_some (lay s xs) c (omega arith)

pub chains_some : (s : Laid) (cs : List (List (List ℤ))) → 0 < s.used → 0 < (laid_chains s cs).used
chains_some s [] h = h
chains_some s (c ∷ cs) h = chains_some (laid (fresh s) c) cs (laid_some (fresh s) c h)

pub length_put : (m : ℕ) (ls at : List Level) → length (put_from m ls at) ≡ length at
length_put m [] at = refl
length_put m (l ∷ ls) at = length_put (suc m) ls (set at m l) ∙ length-set at m l

pub enough_others : (size : ℕ) (s : Laid) (c : List (List ℤ)) (cs : List (List (List ℤ))) → EnoughChains size s (c ∷ cs) → EnoughChains size (laid (fresh s) c) cs
enough_others size s c cs e =
    let w = e.within in
    let b = e.some in
    let u = used_after size (fresh s) c (enough_first size s c cs e) in
    record { some = omega arith; within = omega arith; indexed = e.indexed }

module _ (q : Qbf) (s t : Laid) (σ τ : Side) (m k : ℕ) (here : m < length q.levels) (all : k ≡ length q.levels)
    (to : t ≡ laid (fresh s) (level_records q.clauses q.variables σ (level_at q (m + 1)) (eqb (m + 1) k))) (turns : τ ≡ other σ) where
  written : t ≡ laid (fresh s) (level_records q.clauses q.variables σ (level_at q (m + 1)) (eqb (m + 1) (length q.levels)))
  written = to ∙ ap (λ j. laid (fresh s) (level_records q.clauses q.variables σ (level_at q (m + 1)) (eqb (m + 1) j))) all

  pub chains_next : laid_chains t (level_chains q.clauses q.variables τ (drop (m + 1) q.levels)) ≡ laid_chains s (level_chains q.clauses q.variables σ (drop m q.levels))
  chains_next =
      ap (λ ρ. laid_chains t (level_chains q.clauses q.variables ρ (drop (m + 1) q.levels))) turns
      ∙ ap (λ u. laid_chains u (level_chains q.clauses q.variables (other σ) (drop (m + 1) q.levels))) written
      ∙ sym (ap (laid_chains s) (levels_place q σ m here))

  pub enough_next_levels : (size : ℕ) → EnoughChains size s (level_chains q.clauses q.variables σ (drop m q.levels)) → EnoughChains size t (level_chains q.clauses q.variables τ (drop (m + 1) q.levels))
  enough_next_levels size e =
      subst (λ ρ. EnoughChains size t (level_chains q.clauses q.variables ρ (drop (m + 1) q.levels))) (sym turns)
      (subst (λ u. EnoughChains size u (level_chains q.clauses q.variables (other σ) (drop (m + 1) q.levels))) (sym written)
      (enough_others size s _ _ (subst (EnoughChains size s) (levels_place q σ m here) e)))

  pub levels_next : (at : List Level) (l : Level) → l ≡ new_level σ (level_at q (m + 1)) t.head
      → put_from (m + 1) (new_levels q.clauses q.variables t τ (drop (m + 1) q.levels)) (set at m l) ≡ put_from m (new_levels q.clauses q.variables s σ (drop m q.levels)) at
  levels_next at l is =
      let C = q.clauses in
      let n = q.variables in
      let vs = get_or q.levels m [] in
      let after = drop (m + 1) q.levels in
      let u = laid (fresh s) (open_records C n σ vs after) in
      let same : t ≡ u = written ∙ ap (laid (fresh s)) (sym (records_place q σ m here)) in
      let level : l ≡ new_level σ vs u.head = is ∙ ap (λ ws. new_level σ ws t.head) (ap (level_at q) (add-one m)) ∙ ap (λ (w : Laid). new_level σ vs w.head) same in
      ap (λ j. put_from j (new_levels C n t τ after) (set at m l)) (add-one m)
      ∙ ap (λ ρ. put_from (suc m) (new_levels C n t ρ after) (set at m l)) turns
      ∙ ap (λ w. put_from (suc m) (new_levels C n w (other σ) after) (set at m l)) same
      ∙ ap (λ x. put_from (suc m) (new_levels C n u (other σ) after) (set at m x)) level
      ∙ sym (ap (λ ls. put_from m (new_levels C n s σ ls) at) (drop_more q.levels m [] here))

pub enough_level : (q : Qbf) (s : Laid) (σ : Side) (m k size here : ℕ) → m < length q.levels → k ≡ length q.levels → here ≡ size
    → EnoughChains size s (level_chains q.clauses q.variables σ (drop m q.levels))
    → Enough here (fresh s) (level_records q.clauses q.variables σ (level_at q (m + 1)) (eqb (m + 1) k))
enough_level q s σ m k size here h all same e =
    subst (λ j. Enough j (fresh s) (level_records q.clauses q.variables σ (level_at q (m + 1)) (eqb (m + 1) k))) (sym same)
    (subst (λ j. Enough size (fresh s) (level_records q.clauses q.variables σ (level_at q (m + 1)) (eqb (m + 1) j))) (sym all)
    (enough_first size s _ _ (subst (EnoughChains size s) (levels_place q σ m h) e)))

pub first_levels : (C : Clauses) (n : ℕ) (s : Laid) (σ τ : Side) (levels : List (List ℕ)) → (0 < length levels → σ ≡ τ) → new_levels C n s σ levels ≡ new_levels C n s τ levels
first_levels C n s σ τ [] h = refl
first_levels C n s σ τ (vs ∷ after) h = ap (λ ρ. new_levels C n s ρ (vs ∷ after)) (h (omega arith))
