-- A play in one list, level by level; the clauses that it hits, the last clause first.
use Rattle.std.proofs.Common.{◌≡◌, ℕ, suc, ◌+◌, ◌-◌, ◌<◌, ◌≤◌, Bool, true, false, ◌&&◌, ◌||◌, eqb, ◌≢◌, List, [], ◌∷◌, ◌++◌, length, get_or, take, drop, set, ℤ, pos, neg_ℤ, sym, refl, ap, ◌∙◌, ⊎_elim, zero-add, arith}
use Rattle.std.proofs.Math.Bool.{and_assoc}
use Rattle.std.proofs.lemmas.List.{drop_more, drop_all, append_assoc, take-append-drop, length-take-le, get_or-take, get_or_append_left, get_or_push, get_or-set_same, get_or-set_other, length-append, length-map}
use Rattle.std.proofs.lemmas.Bool.{and_right, ne_eqb, cases_lt}
use Rattle.formula.specs.Lists.{any, each, below}
use Rattle.formula.specs.Game.{same, has, hits}
use Rattle.formula.specs.Backward.{is_choice, onto, turned}
use Rattle.formula.proofs.Ranges.{length_from}
use Rattle.formula.proofs.Looked.{each-from_at}
use Rattle.strategy.specs.RecordedPlan.{flat, is_flat_play}

-- values of a level, then those of the levels after
choice_both : (a b : List ℤ) (vs ws : List ℕ) → length a ≡ length vs → is_choice (a ++ b) (vs ++ ws) ≡ (is_choice a vs && is_choice b ws)
choice_both [] b [] ws e = refl
choice_both [] b (v ∷ vs) ws e = absurd (omega arith)
choice_both (x ∷ a) b [] ws e = absurd (omega arith)
choice_both (x ∷ a) b (v ∷ vs) ws e =
    ap (λ t. (same x (pos v) || same x (neg_ℤ (pos v))) && t) (choice_both a b vs ws (omega arith))
    ∙ sym (and_assoc (same x (pos v) || same x (neg_ℤ (pos v))) (is_choice a vs) (is_choice b ws))

choice_short : (xs : List ℤ) (vs ws : List ℕ) → length xs < length vs → is_choice xs (vs ++ ws) ≡ false
choice_short xs [] ws h = absurd (omega arith)
choice_short [] (v ∷ vs) ws h = refl
choice_short (x ∷ xs) (v ∷ vs) ws h = and_right (same x (pos v) || same x (neg_ℤ (pos v))) _ (choice_short xs vs ws (omega arith))

-- the levels from m on, of the first `upto`
module _ (f : ℕ → List ℕ) (depth upto m : ℕ) (within : upto ≤ depth) (here : m < upto) where
  pub levels_next : drop m (take upto (each f (below depth))) ≡ f m ∷ drop (m + 1) (take upto (each f (below depth)))
  levels_next =
      let L = each f (below depth) in
      let count : length L ≡ depth = length-map (below depth) f ∙ length_from 0 depth in
      let some : length (take upto L) ≡ upto = length-take-le upto L (omega arith) in
      drop_more (take upto L) m [] (omega arith)
      ∙ ap (λ l. l ∷ drop (m + 1) (take upto L)) (get_or-take upto L m [] here ∙ each-from_at f 0 depth m [] (omega arith) ∙ ap f (zero-add m))

  module _ (rest : List ℤ) where
    pub play_short : length rest < length (f m) → is_flat_play (drop m (take upto (each f (below depth)))) rest ≡ false
    play_short h = ap (λ ls. is_flat_play ls rest) levels_next ∙ choice_short rest (f m) (flat (drop (m + 1) (take upto (each f (below depth))))) h

    module _ (values after : List ℤ) (c : ℕ) (front : values ≡ take c rest) (back : after ≡ drop c rest) (count : length values ≡ length (f m)) where
      parts : is_flat_play (drop m (take upto (each f (below depth)))) rest ≡ (is_choice values (f m) && is_flat_play (drop (m + 1) (take upto (each f (below depth)))) after)
      parts =
          ap (λ ls. is_flat_play ls rest) levels_next
          ∙ ap (λ r. is_choice r (f m ++ flat (drop (m + 1) (take upto (each f (below depth)))))) (sym (take-append-drop c rest) ∙ ap (λ a. a ++ drop c rest) (sym front) ∙ ap (λ b. values ++ b) (sym back))
          ∙ choice_both values after (f m) (flat (drop (m + 1) (take upto (each f (below depth))))) count

      pub play_more : is_choice values (f m) ≡ true → is_flat_play (drop m (take upto (each f (below depth)))) rest ≡ is_flat_play (drop (m + 1) (take upto (each f (below depth)))) after
      play_more e = parts ∙ ap (λ b. b && is_flat_play (drop (m + 1) (take upto (each f (below depth)))) after) e

      pub play_breaks : is_choice values (f m) ≡ false → is_flat_play (drop m (take upto (each f (below depth)))) rest ≡ false
      play_breaks e = parts ∙ ap (λ b. b && is_flat_play (drop (m + 1) (take upto (each f (below depth)))) after) e

-- no level is left
pub play_end : (f : ℕ → List ℕ) (depth upto m : ℕ) → upto ≤ depth → upto ≤ m → (rest : List ℤ) → is_flat_play (drop m (take upto (each f (below depth)))) rest ≡ eqb (length rest) 0
play_end f depth upto m within past rest =
    let L = each f (below depth) in
    let count : length L ≡ depth = length-map (below depth) f ∙ length_from 0 depth in
    let some : length (take upto L) ≡ upto = length-take-le upto L (omega arith) in
    ap (λ ls. is_flat_play ls rest) (drop_all m (take upto L) (omega arith)) ∙ left rest
  where
    left : (r : List ℤ) → is_choice r [] ≡ eqb (length r) 0
    left [] = refl
    left (x ∷ r) = sym (ne_eqb (length (x ∷ r)) 0 (λ e. omega arith))

-- a chain turned round: its first record comes last
module _ {A : Type 0} where
  onto-append : (π ρ : List A) → onto π ρ ≡ turned π ++ ρ
  onto-append [] ρ = refl
  onto-append (x ∷ π) ρ = onto-append π (x ∷ ρ) ∙ sym (append_assoc (turned π) (x ∷ []) ρ) ∙ ap (λ l. l ++ ρ) (sym (onto-append π (x ∷ [])))

  length-turned : (π : List A) → length (turned π) ≡ length π
  length-turned [] = refl
  length-turned (x ∷ π) = ap length (onto-append π (x ∷ [])) ∙ length-append (turned π) (x ∷ []) ∙ omega (arith, length-turned π)

  pub turned_front : (x d : A) (r : List A) (j : ℕ) → j < length r → get_or (turned (x ∷ r)) j d ≡ get_or (turned r) j d
  turned_front x d r j h = ap (λ l. get_or l j d) (onto-append r (x ∷ [])) ∙ get_or_append_left (turned r) (x ∷ []) d j (omega (arith, length-turned r))

  pub turned_last : (x d : A) (r : List A) → get_or (turned (x ∷ r)) (length r) d ≡ x
  turned_last x d r = ap (λ l. get_or l (length r) d) (onto-append r (x ∷ [])) ∙ get_or_push (turned r) x d (length r) (length-turned r)

-- the clauses C, of which those on the list l are left, so that x is the last of these
module _ (C l r : List (List ℤ)) (x : List ℤ) (is : l ≡ x ∷ r) (agree : (j : ℕ) → j < length l → get_or (turned l) j [] ≡ get_or C j []) where
  first : (j : ℕ) → j < suc (length r) → get_or (turned (x ∷ r)) j [] ≡ get_or C j []
  first j h = ap (λ k. get_or (turned k) j []) (sym is) ∙ agree j (omega (arith, ap length is))

  pub left_agree : (j : ℕ) → j < length r → get_or (turned r) j [] ≡ get_or C j []
  left_agree j h = sym (turned_front x [] r j h) ∙ first j (omega arith)

  pub last_is : get_or C (length r) [] ≡ x
  last_is = sym (first (length r) (omega arith)) ∙ turned_last x [] r

  module _ (play : List ℤ) (hit : List Bool) (i k : ℕ) (at : i ≡ length l) (size : length hit ≡ 512) (few : k ≤ 512) (within : i ≤ k)
      (marked : (j : ℕ) → i ≤ j → j < k → get_or hit j false ≡ hits C play j) where
    pub marked_more : (b : Bool) → b ≡ any (λ y. has y play) x → (j : ℕ) → i - 1 ≤ j → j < k → get_or (set hit (i - 1) b) j false ≡ hits C play j
    marked_more b e j low high =
        let count : i ≡ suc (length r) = at ∙ ap length is in
        ⊎_elim
        (λ above. let other : j ≢ i - 1 = λ same. omega arith in get_or-set_other hit (i - 1) j b false other ∙ marked j (omega arith) high)
        (λ here. let same : j ≡ i - 1 = omega arith in
        let place : length r ≡ j = omega arith in
        ap (λ m. get_or (set hit (i - 1) b) m false) same ∙ get_or-set_same hit (i - 1) b false (omega arith) ∙ e ∙ ap (any (λ y. has y play)) (sym last_is) ∙ ap (hits C play) place)
        (cases_lt (i - 1) j)
