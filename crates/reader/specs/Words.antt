-- A text as a list of words with their places, and the tokens that they are.
use Rattle.std.specs.Prelude.{◌≡◌, ℕ, suc, ◌<◌, ◌≤◌, cond, ◌&&◌, List, [], ◌∷◌, length, drop, ℤ, Some, None, Option, ◌==◌, slice_index, slice_range}
use Rattle.reader.specs.declared.words.Token.{Token}
use Rattle.reader.specs.declared.words.Token.TheVariants.{Letter, Number, Other, End}
use Rattle.reader.specs.Bytes.{blank, lower, number_of}

-- a word is its bytes and the place of the first
pub record Word : Type 0 where
  pub bytes : List ℕ
  pub place : ℕ

-- the first word gains a byte in front
abbrev pub onto : ℕ → ℕ → List Word → List Word
onto b n [] = []
onto b n (w ∷ ws) = record { bytes = b ∷ w.bytes; place = n } ∷ ws

-- b, at n, joins the word that begins after it, where one does
abbrev pub joins : ℕ → ℕ → List ℕ → List Word → List Word
joins b n [] ws = record { bytes = b ∷ []; place = n } ∷ ws
joins b n (c ∷ cs) ws = cond (blank c) (record { bytes = b ∷ []; place = n } ∷ ws) (onto b n ws)

-- the words of bytes that begin at the place n
abbrev pub words : ℕ → List ℕ → List Word
words n [] = []
words n (b ∷ bs) = cond (blank b) (words (suc n) bs) (joins b n bs (words (suc n) bs))

-- what a token says, with no reference in it
pub data Said : Type 0 where
  letter : ℕ → List ℕ → ℕ → Said
  number : ℤ → List ℕ → ℕ → Said
  other : List ℕ → ℕ → Said
  end : ℕ → Said

abbrev pub said : Token → Said
said (Letter b w n) = letter b w.now n
said (Number z w n) = number z w.now n
said (Other w n) = other w.now n
said (End n) = end n

-- where a token stands
abbrev pub place_of : Said → ℕ
place_of (letter b w at) = at
place_of (number z w at) = at
place_of (other w at) = at
place_of (end at) = at

abbrev pub by_number : Option ℤ → Word → Said
by_number (Some z) w = number z w.bytes w.place
by_number None w = other w.bytes w.place

abbrev pub said_of : Word → Said
said_of w = cond (length w.bytes == 1 && lower (slice_index w.bytes 0)) (letter (slice_index w.bytes 0) w.bytes w.place) (by_number (number_of w.bytes) w)

-- the first of the words that are left, or the end of a text of n bytes
abbrev pub first : ℕ → List Word → Said
first n [] = end n
first n (w ∷ ws) = said_of w

abbrev pub rest : List Word → List Word
rest [] = []
rest (w ∷ ws) = ws

-- the words that are left of a text from a place on
abbrev pub left_at : List ℕ → ℕ → List Word
left_at t a = words a (drop a t)

-- the token's bytes are the part of the text from its place to where the reader stands after
abbrev pub PartOf : List ℕ → ℕ → Token → Type 0
PartOf t after (Letter b w n) = (w.now ≡ slice_range t n after) × (n < after) × (after ≤ length t)
PartOf t after (Number z w n) = (w.now ≡ slice_range t n after) × (n < after) × (after ≤ length t)
PartOf t after (Other w n) = (w.now ≡ slice_range t n after) × (n < after) × (after ≤ length t)
PartOf t after (End n) = (n ≡ length t) × (after ≡ n)
