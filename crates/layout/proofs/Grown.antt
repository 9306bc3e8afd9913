-- Records that are written one after another: their chain is sound and has them, the last in front, and every other chain stays.
use Rattle.std.proofs.Common.{◌≡◌, ℕ, List, [], ◌∷◌, length, ℤ, sym, refl, ap, ◌∙◌, subst, arith}
use Rattle.std.specs.List.{AllByRecursion}
use Rattle.formula.specs.Backward.{onto}
use Rattle.pool.specs.Append.{Room}
use Rattle.pool.specs.Records.{records, Literal, Sound}
use Rattle.pool.proofs.Written.{length_written, other_sound, other_records, new_sound, new_records}
use Rattle.layout.specs.Laying.{Laid, lay, laid, fresh, laid_chains, Enough, EnoughChains}
use Rattle.layout.proofs.Room.{enough_room, enough_next}
use Rattle.layout.proofs.Begun.{enough_first, enough_others}

-- the chain at a head is sound behind s
abbrev pub SoundIn : ℕ → Laid → ℕ → Type 0
SoundIn S s head = Sound S s.words s.used head

module _ (S : ℕ) where
  module _ (size : ℕ) (s : Laid) (xs : List ℤ) (r : List (List ℤ)) (long : length s.words ≡ size) (e : Enough size s (xs ∷ r)) where
    room : Room (length s.words) s.used s.head (length xs)
    room = subst (λ m. Room m s.used s.head (length xs)) (sym long) (enough_room size s xs r e)

    long_next : length (lay s xs).words ≡ size
    long_next = length_written S s.words s.used s.head xs room ∙ long

  pub laid_long : (size : ℕ) (s : Laid) (c : List (List ℤ)) → length s.words ≡ size → Enough size s c → length (laid s c).words ≡ size
  laid_long size s [] long e = long
  laid_long size s (xs ∷ c) long e = laid_long size (lay s xs) c (long_next size s xs c long e) (enough_next size s xs c e)

  pub laid_keeps : (size : ℕ) (s : Laid) (c : List (List ℤ)) (other : ℕ) → length s.words ≡ size → Enough size s c → SoundIn S s other
      → SoundIn S (laid s c) other × (records (laid s c).words other ≡ records s.words other)
  laid_keeps size s [] other long e sound = (sound, refl)
  laid_keeps size s (xs ∷ c) other long e sound =
      let r = room size s xs c long e in
      let more = laid_keeps size (lay s xs) c other (long_next size s xs c long e) (enough_next size s xs c e) (other_sound S s.words s.used s.head xs r other sound) in
      (more.0, more.1 ∙ other_records S s.words s.used s.head xs r other sound)

  pub laid_grows : (size : ℕ) (s : Laid) (c : List (List ℤ)) → length s.words ≡ size → Enough size s c → SoundIn S s s.head → AllByRecursion (AllByRecursion (Literal S)) c
      → SoundIn S (laid s c) (laid s c).head × (records (laid s c).words (laid s c).head ≡ onto c (records s.words s.head))
  laid_grows size s [] long e sound named = (sound, refl)
  laid_grows size s (xs ∷ c) long e sound named =
      let r = room size s xs c long e in
      let more = laid_grows size (lay s xs) c (long_next size s xs c long e) (enough_next size s xs c e) (new_sound S s.words s.used s.head xs r sound named.0) named.1 in
      (more.0, more.1 ∙ ap (onto c) (new_records S s.words s.used s.head xs r sound named.0))

  -- a chain that is begun is empty and sound
  pub fresh_sound : (size : ℕ) (s : Laid) (c : List (List ℤ)) → length s.words ≡ size → Enough size (fresh s) c → SoundIn S (fresh s) 0
  fresh_sound size s c long e = let w = e.within in (omega arith, refl)

  pub chains_keep : (size : ℕ) (s : Laid) (cs : List (List (List ℤ))) (other : ℕ) → length s.words ≡ size → EnoughChains size s cs → SoundIn S s other
      → SoundIn S (laid_chains s cs) other × (records (laid_chains s cs).words other ≡ records s.words other)
  chains_keep size s [] other long e sound = (sound, refl)
  chains_keep size s (c ∷ cs) other long e sound =
      let first = enough_first size s c cs e in
      let here = laid_keeps size (fresh s) c other long first sound in
      let more = chains_keep size (laid (fresh s) c) cs other (laid_long size (fresh s) c long first) (enough_others size s c cs e) here.0 in
      (more.0, more.1 ∙ here.1)

  pub chains_long : (size : ℕ) (s : Laid) (cs : List (List (List ℤ))) → length s.words ≡ size → EnoughChains size s cs → length (laid_chains s cs).words ≡ size
  chains_long size s [] long e = long
  chains_long size s (c ∷ cs) long e = chains_long size (laid (fresh s) c) cs (laid_long size (fresh s) c long (enough_first size s c cs e)) (enough_others size s c cs e)
