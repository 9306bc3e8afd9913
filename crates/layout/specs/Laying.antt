-- Records appended one after another, each to its chain, and chains one after another. Only the pool's own definitions know how a record lies.
use Rattle.std.specs.Prelude.{ℕ, ◌+◌, ◌^◌, ◌<◌, ◌≤◌, List, [], ◌∷◌, length, ℤ}
use Rattle.pool.specs.Layout.{size_for, place_after}
use Rattle.pool.specs.Append.{written}

-- a pool, its words in use, and the head of the chain that is being written
pub record Laid : Type 0 where
  pub words : List ℤ
  pub used : ℕ
  pub head : ℕ

-- one record more; several, the first one first, so that the last one heads the chain
abbrev pub lay : Laid → List ℤ → Laid
lay s xs = record { words = written s.words s.used s.head xs; used = place_after s.used + size_for (length xs); head = place_after s.used }

abbrev pub laid : Laid → List (List ℤ) → Laid
laid s [] = s
laid s (xs ∷ r) = laid (lay s xs) r

-- a new chain is begun
abbrev pub fresh : Laid → Laid
fresh s = record { words = s.words; used = s.used; head = 0 }

-- chains one after another
abbrev pub laid_chains : Laid → List (List (List ℤ)) → Laid
laid_chains s [] = s
laid_chains s (c ∷ cs) = laid_chains (laid (fresh s) c) cs

-- the words that records take, and those of chains
abbrev pub words_for : List (List ℤ) → ℕ
words_for [] = 0
words_for (xs ∷ r) = size_for (length xs) + words_for r

abbrev pub words_for_chains : List (List (List ℤ)) → ℕ
words_for_chains [] = 0
words_for_chains (c ∷ cs) = words_for c + words_for_chains cs

-- records have room in a pool of so many words, behind those in use
pub record Enough (size : ℕ) (s : Laid) (rs : List (List ℤ)) : Type 0 where
  pub some : 0 < s.used
  pub below : s.head < s.used
  pub within : s.used + words_for rs ≤ size
  pub indexed : size < 2 ^ 31

-- chains have room
pub record EnoughChains (size : ℕ) (s : Laid) (cs : List (List (List ℤ))) : Type 0 where
  pub some : 0 < s.used
  pub within : s.used + words_for_chains cs ≤ size
  pub indexed : size < 2 ^ 31
