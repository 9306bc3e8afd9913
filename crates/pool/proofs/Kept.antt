-- A chain sees only the words in use: what is written behind them changes neither its soundness nor its records. Assumes nothing.
use Rattle.std.proofs.Common.{◌≡◌, ℕ, zero, suc, ◌+◌, ◌<◌, ◌≤◌, List, ◌∷◌, length, get_or, take, drop, ℤ, pos, nat_abs, ◌≤ℤ◌, sym, refl, ap, ◌∙◌, subst, arith}
use Rattle.std.specs.List.{AllByRecursion}
use Rattle.std.proofs.lemmas.List.{get_or-take, take-take, drop-take}
use Rattle.pool.specs.Layout.{word_at, next_at, count_at, numbers_at, Lies}
use Rattle.pool.specs.Records.{walk, records, Literal, Whole, Linked, Sound}

module _ (s used : ℕ) (pool after : List ℤ) (same : take used after ≡ take used pool) where
  word_kept : (i : ℕ) → i < used → word_at after i ≡ word_at pool i
  word_kept i h = sym (get_or-take used after i (pos 0) h) ∙ ap (λ l. get_or l i (pos 0)) same ∙ get_or-take used pool i (pos 0) h

  front_kept : (n : ℕ) → n ≤ used → take n after ≡ take n pool
  front_kept n h = sym (take-take n used after h) ∙ ap (take n) same ∙ take-take n used pool h

  module _ (p : ℕ) (lies : Lies pool p used) where
    next_word : word_at after p ≡ word_at pool p
    next_word = let h = lies.ends in word_kept p (omega arith)

    count_word : word_at after (p + 1) ≡ word_at pool (p + 1)
    count_word = let h = lies.ends in word_kept (p + 1) (omega arith)

    numbers_kept : numbers_at after p ≡ numbers_at pool p
    numbers_kept =
        ap (λ z. take (nat_abs z) (drop (p + 2) after)) count_word
        ∙ sym (drop-take (p + 2) (count_at pool p) after)
        ∙ ap (drop (p + 2)) (front_kept (p + 2 + count_at pool p) lies.ends)
        ∙ drop-take (p + 2) (count_at pool p) pool

    lies_kept : Lies after p used
    lies_kept =
        record {
          ends = subst (λ z. p + 2 + nat_abs z ≤ used) (sym count_word) lies.ends;
          next_sign = subst (λ z. pos 0 ≤ℤ z) (sym next_word) lies.next_sign;
          count_sign = subst (λ z. pos 0 ≤ℤ z) (sym count_word) lies.count_sign;
        }

  whole_kept : (p : ℕ) → Whole s pool used p → Whole s after used p
  whole_kept p w =
      record {
        lies = lies_kept p w.lies;
        falls = subst (λ z. nat_abs z < p) (sym (next_word p w.lies)) w.falls;
        literals = subst (AllByRecursion (Literal s)) (sym (numbers_kept p w.lies)) w.literals;
      }

  linked_kept : (f p : ℕ) → Linked f s pool used p → Linked f s after used p
  linked_kept zero p l = l
  linked_kept (suc f) zero l = tt
  linked_kept (suc f) (suc q) l =
      (whole_kept (suc q) l.0, subst (λ z. Linked f s after used (nat_abs z)) (sym (next_word (suc q) l.0.lies)) (linked_kept f (next_at pool (suc q)) l.1))

  walk_kept : (f p : ℕ) → Linked f s pool used p → walk f after p ≡ walk f pool p
  walk_kept zero p l = refl
  walk_kept (suc f) zero l = refl
  walk_kept (suc f) (suc q) l =
      ap (λ xs. xs ∷ walk f after (next_at after (suc q))) (numbers_kept (suc q) l.0.lies)
      ∙ ap (λ z. numbers_at pool (suc q) ∷ walk f after (nat_abs z)) (next_word (suc q) l.0.lies)
      ∙ ap (λ t. numbers_at pool (suc q) ∷ t) (walk_kept f (next_at pool (suc q)) l.1)

  pub sound_kept : (head : ℕ) → used ≤ length after → Sound s pool used head → Sound s after used head
  sound_kept head h sound = (h, linked_kept head head sound.1)

  pub records_kept : (head : ℕ) → Sound s pool used head → records after head ≡ records pool head
  records_kept head sound = walk_kept head head sound.1
