-- The values of a level as flags, and as literals; and the game after a yes below the last level.
use Rattle.std.proofs.Common.{◌≡◌, ℕ, zero, suc, ◌+◌, ◌<◌, ◌≤◌, Bool, true, false, cond, ◌&&◌, ◌||◌, List, ◌∷◌, length, get_or, set, replicate, ℤ, pos, neg_ℤ, sym, refl, ap, ◌∙◌, subst, ap₂, ⊎_elim, zero-add, add-one, arith}
use Rattle.std.proofs.lemmas.List.{ext_get_or, get_or-set_other, length-map}
use Rattle.std.proofs.lemmas.Bool.{cases_lt, cond_both}
use Rattle.formula.specs.Lists.{keep, each, elem, from, below}
use Rattle.formula.specs.Game.{Clauses, Values, has, hits}
use Rattle.formula.proofs.Looked.{each-from_at, elem_low, elem_kept, elem_high}
use Rattle.formula.proofs.Ranges.{length_from}
use Rattle.strategy.specs.Records.{values_of}
use Rattle.strategy.specs.Next.{satisfied}
use Rattle.strategy.proofs.RecordTests.{has_values}
use Rattle.layout.specs.declared.game.Level.{Level}
use Rattle.layout.specs.declared.game.Game.{Game}
use Rattle.layout.specs.Table.{nought, level_of}
use Rattle.layout.specs.Viewed.{variables_in, values_in, clauses_of}
use Rattle.layout.proofs.ProperRows.{row_proper}
use Rattle.rules.specs.Changes.{with_present, with_levels, values_to, satisfied_to, flags_for, satisfied_after, kept, Marked}

-- an array of nothing but false
pub none_set : (n i : ℕ) → get_or (replicate n false) i false ≡ false
none_set zero i = refl
none_set (suc n) zero = refl
none_set (suc n) (suc i) = none_set n i

pub length_flags : (x : Values) → length (flags_for x) ≡ 257
length_flags x = length-map (below 257) (λ v. has (pos v) x) ∙ length_from 0 257

module _ (α p : ℕ → Bool) (n : ℕ) where
  flag : (v : ℕ) → v < 257 → get_or (flags_for (values_of α (keep p (from 1 n)))) v false ≡ (elem v (keep p (from 1 n)) && α v)
  flag v h =
      each-from_at (λ u. has (pos u) (values_of α (keep p (from 1 n)))) 0 257 v false h
      ∙ ap (λ u. has (pos u) (values_of α (keep p (from 1 n)))) (zero-add v) ∙ has_values α n (keep p (from 1 n)) (row_proper p n) (pos v)

  pub flag_here : (v : ℕ) → v < 257 → 1 ≤ v → v ≤ n → get_or (flags_for (values_of α (keep p (from 1 n)))) v false ≡ (p v && α v)
  flag_here v h low high = flag v h ∙ ap (λ b. b && α v) (elem_kept p 1 n v low (omega arith))

  pub flag_low : (v : ℕ) → v < 1 → get_or (flags_for (values_of α (keep p (from 1 n)))) v false ≡ false
  flag_low v h = flag v (omega arith) ∙ ap (λ b. b && α v) (elem_low p 1 n v h)

  pub flag_high : (v : ℕ) → v < 257 → n < v → get_or (flags_for (values_of α (keep p (from 1 n)))) v false ≡ false
  flag_high v h high = flag v h ∙ ap (λ b. b && α v) (elem_high p 1 n v (omega arith))

  -- flags that say the same at each place
  pub same_flags : (flags : List Bool) → length flags ≡ 257 → ((v : ℕ) → v < 1 → get_or flags v false ≡ false) → ((v : ℕ) → 1 ≤ v → v ≤ n → get_or flags v false ≡ (p v && α v))
      → ((v : ℕ) → n < v → get_or flags v false ≡ false) → flags ≡ flags_for (values_of α (keep p (from 1 n)))
  same_flags flags long low here high =
      ext_get_or false flags (flags_for (values_of α (keep p (from 1 n)))) (long ∙ sym (length_flags (values_of α (keep p (from 1 n)))))
      (λ v h. let k : v < 257 = subst (λ m. v < m) long h in
      ⊎_elim (λ z. low v z ∙ sym (flag_low v z))
      (λ z. ⊎_elim (λ y. here v z (omega arith) ∙ sym (flag_here v k z (omega arith))) (λ y. high v (omega arith) ∙ sym (flag_high v k (omega arith))) (cases_lt v (n + 1)))
      (cases_lt v 1))

-- a function on the numbers that a row keeps
pub each_kept : (f h : ℕ → ℤ) (p : ℕ → Bool) (i k : ℕ) → ((v : ℕ) → i ≤ v → v < i + k → p v ≡ true → f v ≡ h v) → each f (keep p (from i k)) ≡ each h (keep p (from i k))
each_kept f h p i zero e = refl
each_kept f h p i (suc k) e =
    let rest = each_kept f h p (suc i) k (λ v a b t. e v (omega arith) (omega arith) t) in
    cond_both (p i) (i ∷ keep p (from (suc i) k)) (keep p (from (suc i) k)) (λ l. each f l ≡ each h l)
    (λ t. ap₂ {C = List ℤ} (λ (x : ℤ) l. x ∷ l) (e i (omega arith) (omega arith) t) rest) (λ t. rest)

-- a level that keeps the flags of its values has these values
pub values_kept : (α : ℕ → Bool) (n : ℕ) (l : Level) → n ≤ 256 → values_in n (values_to (flags_for (values_of α (variables_in n l))) l) ≡ values_of α (variables_in n l)
values_kept α n l few =
    let p : ℕ → Bool = λ v. get_or l.variables v false in
    each_kept (λ v. cond (get_or (flags_for (values_of α (keep p (from 1 n)))) v false) (pos v) (neg_ℤ (pos v))) (λ v. cond (α v) (pos v) (neg_ℤ (pos v))) p 1 n
    (λ v a b t. ap (λ c. cond c (pos v) (neg_ℤ (pos v))) (flag_here α p n v (omega arith) a (omega arith) ∙ ap (λ c. c && α v) t))

-- what is satisfied before the next level, place by place
pub same_satisfied : (C : Clauses) (x : Values) (l : Level) (flags : List Bool) → length flags ≡ 512 → ((i : ℕ) → get_or flags i false ≡ (hits C x i || get_or l.satisfied i false)) → flags ≡ satisfied_after C x l
same_satisfied C x l flags long at =
    ext_get_or false flags (satisfied_after C x l) (long ∙ sym (length-map (below 512) (λ i. hits C x i || get_or l.satisfied i false) ∙ length_from 0 512))
    (λ i h. at i ∙ sym (each-from_at (λ j. hits C x j || get_or l.satisfied j false) 0 512 i false (subst (λ m. i < m) long h) ∙ ap (λ j. hits C x j || get_or l.satisfied j false) (zero-add i)))

-- the game after a yes below the last level
pub advanced_marks : (g : Game) (pool : List ℤ) (α : ℕ → Bool) (flags marks : List Bool) → g.variables ≤ 256 → length marks ≡ 512
    → flags ≡ flags_for (values_of α (variables_in g.variables (level_of g g.present)))
    → ((i : ℕ) → get_or marks i false ≡ (hits (clauses_of g pool) (values_in g.variables (values_to flags (level_of g g.present))) i || get_or (level_of g g.present).satisfied i false))
    → Marked g pool (satisfied (values_of α (variables_in g.variables (level_of g g.present))))
advanced_marks g pool α flags marks few long is at below i =
    let l = level_of g g.present in
    let x = values_of α (variables_in g.variables l) in
    let played : values_in g.variables (values_to flags l) ≡ x = ap (λ f. values_in g.variables (values_to f l)) is ∙ values_kept α g.variables l few in
    let told : (j : ℕ) → get_or marks j false ≡ (hits (clauses_of g pool) x j || get_or l.satisfied j false) = λ j. at j ∙ ap (λ y. hits (clauses_of g pool) y j || get_or l.satisfied j false) played in
    ap (λ m. get_or m i false) (sym (same_satisfied (clauses_of g pool) x l marks long told)) ∙ told i

pub advanced : (g : Game) (pool : List ℤ) (α : ℕ → Bool) (flags marks : List Bool) → g.variables ≤ 256 → length marks ≡ 512
    → flags ≡ flags_for (values_of α (variables_in g.variables (level_of g g.present)))
    → ((i : ℕ) → get_or marks i false ≡ (hits (clauses_of g pool) (values_in g.variables (values_to flags (level_of g g.present))) i || get_or (level_of g g.present).satisfied i false))
    → with_present (g.present + 1) (with_levels (set (set g.levels g.present (values_to flags (level_of g g.present))) (g.present + 1)
    (satisfied_to marks (get_or (set g.levels g.present (values_to flags (level_of g g.present))) (g.present + 1) nought))) g)
    ≡ (kept g pool (values_of α (variables_in g.variables (level_of g g.present)))).game
advanced g pool α flags marks few long is at =
    let m = g.present in
    let l = level_of g m in
    let x = values_of α (variables_in g.variables l) in
    let played : values_in g.variables (values_to flags l) ≡ x = ap (λ f. values_in g.variables (values_to f l)) is ∙ values_kept α g.variables l few in
    let marked : marks ≡ satisfied_after (clauses_of g pool) x l =
    same_satisfied (clauses_of g pool) x l marks long (λ i. at i ∙ ap (λ y. hits (clauses_of g pool) y i || get_or l.satisfied i false) played) in
    let next : get_or (set g.levels m (values_to flags l)) (m + 1) nought ≡ level_of g (suc m) = get_or-set_other g.levels m (m + 1) (values_to flags l) nought (λ e. omega arith) ∙ ap (level_of g) (add-one m) in
    ap₂ {C = Game} (λ (j : ℕ) (r : Level). with_present j (with_levels (set (set g.levels m (values_to flags l)) j (satisfied_to marks r)) g)) (add-one m) next
    ∙ ap₂ {C = Game} (λ (f s : List Bool). with_present (suc m) (with_levels (set (set g.levels m (values_to f l)) (suc m) (satisfied_to s (level_of g (suc m)))) g)) is marked
