-- One record of a sound chain after another: the fuel does not matter where it reaches the index. Assumes nothing.
use Rattle.std.proofs.Common.{◌≡◌, ℕ, zero, suc, ◌<◌, ◌≤◌, ◌↔◌, List, [], ◌∷◌, ℤ, sym, refl, ap, le_trans, arith}
use Rattle.std.specs.List.{AllByRecursion}
use Rattle.pool.specs.Layout.{next_at, numbers_at}
use Rattle.pool.specs.Records.{walk, records, Literal, Whole, Linked}

module _ (s : ℕ) (pool : List ℤ) (used : ℕ) where
  linked_end : (f : ℕ) → Linked f s pool used 0
  linked_end zero = refl
  linked_end (suc f) = tt

  pub linked_fuel : (f g p : ℕ) → p ≤ f → p ≤ g → Linked f s pool used p → Linked g s pool used p
  linked_fuel zero g zero hf hg l = linked_end g
  linked_fuel zero g (suc q) hf hg l = absurd (omega arith)
  linked_fuel (suc f) g zero hf hg l = linked_end g
  linked_fuel (suc f) zero (suc q) hf hg l = absurd (omega arith)
  linked_fuel (suc f) (suc g) (suc q) hf hg l =
      let down : next_at pool (suc q) < suc q = l.0.falls in
      (l.0, linked_fuel f g (next_at pool (suc q)) (omega arith) (omega arith) l.1)

  pub linked_step : (p : ℕ) → 0 < p → Linked p s pool used p ↔ (Whole s pool used p × Linked (next_at pool p) s pool used (next_at pool p))
  linked_step zero h = absurd (omega arith)
  linked_step (suc q) h = (
    (λ l. let down : next_at pool (suc q) < suc q = l.0.falls in (l.0, linked_fuel q (next_at pool (suc q)) (next_at pool (suc q)) (omega arith) (omega arith) l.1)),
    (λ l. let down : next_at pool (suc q) < suc q = l.0.falls in (l.0, linked_fuel (next_at pool (suc q)) q (next_at pool (suc q)) (omega arith) (omega arith) l.1)),
  )

  -- the record at p of a sound chain
  pub whole_at : (p : ℕ) → (p ≡ 0 → ⊥) → Linked p s pool used p → Whole s pool used p
  whole_at p h l = ((linked_step p (omega arith)).0 l).0

  pub rest_at : (p : ℕ) → (p ≡ 0 → ⊥) → Linked p s pool used p → Linked (next_at pool p) s pool used (next_at pool p)
  rest_at p h l = ((linked_step p (omega arith)).0 l).1

  walk_end : (f : ℕ) → walk f pool 0 ≡ []
  walk_end zero = refl
  walk_end (suc f) = refl

  pub walk_fuel : (f g p : ℕ) → p ≤ f → p ≤ g → Linked f s pool used p → walk f pool p ≡ walk g pool p
  walk_fuel zero g zero hf hg l = sym (walk_end g)
  walk_fuel zero g (suc q) hf hg l = absurd (omega arith)
  walk_fuel (suc f) g zero hf hg l = sym (walk_end g)
  walk_fuel (suc f) zero (suc q) hf hg l = absurd (omega arith)
  walk_fuel (suc f) (suc g) (suc q) hf hg l =
      let down : next_at pool (suc q) < suc q = l.0.falls in
      ap (λ t. numbers_at pool (suc q) ∷ t) (walk_fuel f g (next_at pool (suc q)) (omega arith) (omega arith) l.1)

  pub records_step : (p : ℕ) → 0 < p → Linked p s pool used p → records pool p ≡ numbers_at pool p ∷ records pool (next_at pool p)
  records_step zero h l = absurd (omega arith)
  records_step (suc q) h l =
      let down : next_at pool (suc q) < suc q = l.0.falls in
      ap (λ t. numbers_at pool (suc q) ∷ t) (walk_fuel q (next_at pool (suc q)) (next_at pool (suc q)) (omega arith) (omega arith) l.1)

-- a chain that is sound in the words in use is so in more of them
pub linked_within : (s : ℕ) (pool : List ℤ) (used used' : ℕ) → used ≤ used' → (f p : ℕ) → Linked f s pool used p → Linked f s pool used' p
linked_within s pool used used' h zero p l = l
linked_within s pool used used' h (suc f) zero l = tt
linked_within s pool used used' h (suc f) (suc q) l =
    let w = l.0 in (
      record {
        lies = record { ends = le_trans w.lies.ends h; next_sign = w.lies.next_sign; count_sign = w.lies.count_sign };
        falls = w.falls;
        literals = w.literals;
      },
      linked_within s pool used used' h f (next_at pool (suc q)) l.1,
    )

-- the numbers of a sound chain name signals
pub records_literals : (s : ℕ) (pool : List ℤ) (used f p : ℕ) → Linked f s pool used p → AllByRecursion (AllByRecursion (Literal s)) (walk f pool p)
records_literals s pool used zero p l = tt
records_literals s pool used (suc f) zero l = tt
records_literals s pool used (suc f) (suc q) l = (l.0.literals, records_literals s pool used f (next_at pool (suc q)) l.1)
