-- What an appended record makes of the pool: every other chain stays, and the new one has the record in front. Assumes nothing.
use Rattle.std.proofs.Common.{◌≡◌, ℕ, ◌+◌, ◌<◌, ◌≤◌, Bool, true, false, T, leb, List, [], ◌∷◌, ◌++◌, length, get_or, take, drop, set, ℤ, pos, nat_abs, ◌≤ℤ◌, sym, refl, ap, ◌∙◌, subst, append_assoc, add-zero, arith, w32, to_z}
use lib.Signed.{le_z, le_z_yes}
use lib.Seq.{drop-append-add}
use borrow.Rule.Slice.PartMut.{put_mid}
use Rattle.std.specs.List.{AllByRecursion}
use Rattle.std.proofs.lemmas.List.{length-set, length-append, length-take-le, length-drop, take-append-drop, take-append-le, take_more_set, take-take, take_at, drop-set-lt, get_or-append-add}
use Rattle.std.proofs.lemmas.Int.{to_z_pos}
use Rattle.std.proofs.lemmas.Bool.{false≢true, le-leb}
use Rattle.std.proofs.lemmas.Slice.{take-put_mid, drop-put_mid}
use Rattle.pool.specs.Layout.{word_at, next_at, count_at, numbers_at, record_words, size_for, place_after}
use Rattle.pool.specs.Records.{records, Literal, Linked, Sound}
use Rattle.pool.specs.Append.{Room, written}
use Rattle.pool.proofs.Chains.{linked_step, records_step, linked_within}
use Rattle.pool.proofs.Kept.{sound_kept, records_kept}

sign : (n : ℕ) → T (le_z (pos 0) (pos n))
sign n = holds (leb 0 n) (le-leb 0 n (omega arith))
  where
    holds : (b : Bool) → b ≡ true → T b
    holds true e = tt
    holds false e = false≢true e

-- two words set, and the numbers copied behind them
pub written_is : (pool : List ℤ) (at k : ℕ) (x y : ℤ) (xs : List ℤ) → at + 2 + length xs ≤ length pool → k ≡ length xs
    → put_mid (at + 2) k (set (set pool at x) (at + 1) y) xs ≡ take at pool ++ (x ∷ y ∷ xs) ++ drop (at + (2 + length xs)) pool
written_is pool at k x y xs room is =
    let all = set (set pool at x) (at + 1) y in
    let long : length all ≡ length pool = length-set (set pool at x) (at + 1) y ∙ length-set pool at x in
    let long' : length (set pool at x) ≡ length pool = length-set pool at x in
    let m = at + (2 + length xs) in
    let two : at + 2 ≡ at + 1 + 1 = omega arith in
    let front : take (at + 2) all ≡ take at pool ++ (x ∷ []) ++ (y ∷ []) =
    ap (λ n. take n all) two ∙ take_more_set (set pool at x) (at + 1) y (omega arith)
    ∙ ap (λ l. l ++ (y ∷ [])) (take_more_set pool at x (omega arith)) in
    sym (take-append-drop m (put_mid (at + 2) k all xs))
    ∙ ap (λ l. l ++ drop m (put_mid (at + 2) k all xs))
    (take-put_mid (at + 2) k all xs m (omega arith) (omega arith) ∙ ap (λ l. l ++ xs) front
    ∙ append_assoc (take at pool ++ (x ∷ [])) (y ∷ []) xs ∙ append_assoc (take at pool) (x ∷ []) (y ∷ xs))
    ∙ ap (λ l. take at pool ++ (x ∷ y ∷ xs) ++ l)
    (drop-put_mid (at + 2) k all xs m (omega arith) (omega arith) (sym is) ∙ drop-set-lt m (set pool at x) (at + 1) y (omega arith) ∙ drop-set-lt m pool at x (omega arith))

-- the words that are written, as they are cast and copied
pub words_written : (pool : List ℤ) (used head p k : ℕ) (xs copied : List ℤ) → p ≡ place_after used → k ≡ length xs → Room (length pool) used head (length xs) → copied ≡ xs
    → put_mid (p + 2) k (set (set pool p (to_z w32 head)) (p + 1) (to_z w32 (length xs))) copied ≡ written pool used head xs
words_written pool used head p k xs copied at long room same =
    let below = room.below in
    let within = room.within in
    let indexed = room.indexed in
    ap (put_mid (p + 2) k (set (set pool p (to_z w32 head)) (p + 1) (to_z w32 (length xs)))) same
    ∙ ap (λ z. put_mid (p + 2) k (set (set pool p z) (p + 1) (to_z w32 (length xs))) xs) (to_z_pos w32 head (omega arith))
    ∙ ap (λ z. put_mid (p + 2) k (set (set pool p (pos head)) (p + 1) z) xs) (to_z_pos w32 (length xs) (omega arith))
    ∙ written_is pool p k (pos head) (pos (length xs)) xs (omega arith) long
    ∙ ap (λ n. take n pool ++ record_words head xs ++ drop (n + size_for (length xs)) pool) at

module _ (s : ℕ) (pool : List ℤ) (used head : ℕ) (xs : List ℤ) (room : Room (length pool) used head (length xs)) where
  front_long : length (take (place_after used) pool) ≡ place_after used
  front_long = let h = room.within in length-take-le (place_after used) pool (omega arith)

  -- the words in use before are as they were
  pub front_written : (n : ℕ) → n ≤ place_after used → take n (written pool used head xs) ≡ take n pool
  front_written n h =
      let long = front_long in
      let more : n ≤ length (take (place_after used) pool ++ record_words head xs) = simp length-append (omega arith) in
      take-append-le n (take (place_after used) pool ++ record_words head xs) (drop (place_after used + size_for (length xs)) pool) more
      ∙ take-append-le n (take (place_after used) pool) (record_words head xs) (omega arith)
      ∙ take-take n (place_after used) pool h

  pub length_written : length (written pool used head xs) ≡ length pool
  length_written =
      let h = room.within in
      let long = front_long in
      simp (length-append, length-drop) (omega arith)

  -- the words from the new record on
  from_record : written pool used head xs ≡ take (place_after used) pool ++ (record_words head xs ++ drop (place_after used + size_for (length xs)) pool)
  from_record = append_assoc (take (place_after used) pool) (record_words head xs) (drop (place_after used + size_for (length xs)) pool)

  next_word : word_at (written pool used head xs) (place_after used) ≡ pos head
  next_word =
      ap (λ l. get_or l (place_after used) (pos 0)) from_record
      ∙ ap (λ n. get_or (take (place_after used) pool ++ (record_words head xs ++ drop (place_after used + size_for (length xs)) pool)) n (pos 0)) (sym (add-zero (place_after used)) ∙ ap (λ n. n + 0) (sym front_long))
      ∙ get_or-append-add (take (place_after used) pool) (record_words head xs ++ drop (place_after used + size_for (length xs)) pool) 0 (pos 0)

  count_word : word_at (written pool used head xs) (place_after used + 1) ≡ pos (length xs)
  count_word =
      ap (λ l. get_or l (place_after used + 1) (pos 0)) from_record
      ∙ ap (λ n. get_or (take (place_after used) pool ++ (record_words head xs ++ drop (place_after used + size_for (length xs)) pool)) (n + 1) (pos 0)) (sym front_long)
      ∙ get_or-append-add (take (place_after used) pool) (record_words head xs ++ drop (place_after used + size_for (length xs)) pool) 1 (pos 0)

  numbers_written : numbers_at (written pool used head xs) (place_after used) ≡ xs
  numbers_written =
      ap (λ z. take (nat_abs z) (drop (place_after used + 2) (written pool used head xs))) count_word
      ∙ ap (λ l. take (length xs) (drop (place_after used + 2) l)) from_record
      ∙ ap (λ n. take (length xs) (drop (n + 2) (take (place_after used) pool ++ (record_words head xs ++ drop (place_after used + size_for (length xs)) pool)))) (sym front_long)
      ∙ ap (take (length xs)) (drop-append-add (take (place_after used) pool) (record_words head xs ++ drop (place_after used + size_for (length xs)) pool) 2)
      ∙ take_at xs (drop (place_after used + size_for (length xs)) pool) (length xs) refl

  -- every other chain stays as it was
  pub other_sound : (other : ℕ) → Sound s pool used other → Sound s (written pool used head xs) (place_after used + size_for (length xs)) other
  other_sound other sound =
      let long = length_written in
      let h = room.within in
      let kept = sound_kept s used pool (written pool used head xs) (front_written used (omega arith)) other (omega arith) sound in
      (omega arith, linked_within s (written pool used head xs) used (place_after used + size_for (length xs)) (omega arith) other other kept.1)

  pub other_records : (other : ℕ) → Sound s pool used other → records (written pool used head xs) other ≡ records pool other
  other_records other sound = records_kept s used pool (written pool used head xs) (front_written used (omega arith)) other sound

  -- the new chain is sound, and has the record in front of the old ones
  pub new_sound : Sound s pool used head → AllByRecursion (Literal s) xs → Sound s (written pool used head xs) (place_after used + size_for (length xs)) (place_after used)
  new_sound sound named =
      let after = written pool used head xs in
      let old = other_sound head sound in
      let rest : Linked (next_at after (place_after used)) s after (place_after used + size_for (length xs)) (next_at after (place_after used)) =
      subst (λ z. Linked (nat_abs z) s after (place_after used + size_for (length xs)) (nat_abs z)) (sym next_word) old.1 in
      let ends : place_after used + 2 + count_at after (place_after used) ≤ place_after used + size_for (length xs) =
      subst (λ z. place_after used + 2 + nat_abs z ≤ place_after used + size_for (length xs)) (sym count_word) (omega arith) in (
        old.0,
        (linked_step s after (place_after used + size_for (length xs)) (place_after used) (omega arith)).1 (
          record {
            lies = record {
              ends = ends;
              next_sign = subst (λ z. pos 0 ≤ℤ z) (sym next_word) (le_z_yes (sign head));
              count_sign = subst (λ z. pos 0 ≤ℤ z) (sym count_word) (le_z_yes (sign (length xs)));
            };
            falls = subst (λ z. nat_abs z < place_after used) (sym next_word) room.below;
            literals = subst (AllByRecursion (Literal s)) (sym numbers_written) named;
          },
          rest,
        ),
      )

  pub new_records : Sound s pool used head → AllByRecursion (Literal s) xs → records (written pool used head xs) (place_after used) ≡ xs ∷ records pool head
  new_records sound named =
      let after = written pool used head xs in
      records_step s after (place_after used + size_for (length xs)) (place_after used) (omega arith) (new_sound sound named).1
      ∙ ap (λ l. l ∷ records after (next_at after (place_after used))) numbers_written
      ∙ ap (λ z. xs ∷ records after (nat_abs z)) next_word
      ∙ ap (λ t. xs ∷ t) (other_records head sound)

  -- so for what a call has written, and the numbers that it gives back
  module _ (after : List ℤ) (p u : ℕ) (is : after ≡ written pool used head xs) (here : p ≡ place_after used) (ends : u ≡ place_after used + size_for (length xs)) where
    pub grows_from : Sound s pool used head → AllByRecursion (Literal s) xs → Sound s after u p × (records after p ≡ xs ∷ records pool head)
    grows_from sound named = rw (is, here, ends) (new_sound sound named, new_records sound named)

    pub keeps_from : (other : ℕ) → Sound s pool used other → Sound s after u other × (records after other ≡ records pool other)
    keeps_from other sound = rw (is, ends) (other_sound other sound, other_records other sound)
