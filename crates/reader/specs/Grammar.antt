-- The texts that write a formula, as a relation: how a text lays out words, how words spell blocks and clauses, and what these must meet.
use Rattle.std.specs.Prelude.{◌≡◌, ℕ, ◌<◌, ◌≤◌, not, T, List, [], ◌∷◌, ◌++◌, length, ℤ, pos, Some, codes, ◌==◌, ◌≢◌, unsigned_abs}
use Rattle.formula.specs.declared.side.Side.{Side}
use Rattle.formula.specs.declared.side.Side.TheVariants.{Ours, Device}
use Rattle.formula.specs.Lists.{all, keep, each, elem, from, All}
use Rattle.formula.specs.Game.{Qbf, Clauses}
use Rattle.formula.specs.Proper.{literals_of}
use Rattle.reader.specs.Bytes.{blank, in_word, number_of}

-- How a text lays out words.

-- a word: at least one byte, none of them blank
abbrev pub IsWord : List ℕ → Type 0
IsWord w = (0 < length w) × T (all in_word w)

-- the bytes are at their end, or a blank is next
abbrev pub Apart : List ℕ → Type 0
Apart [] = Unit {0}
Apart (b ∷ bs) = T (blank b)

-- the bytes t are the words ws with blanks between them, and any blanks before and after
abbrev pub Spaced : List (List ℕ) → List ℕ → Type 0
Spaced [] t = T (all blank t)
Spaced (w ∷ ws) t = (gap rest : List ℕ) × T (all blank gap) × IsWord w × (t ≡ gap ++ (w ++ rest)) × Apart rest × Spaced ws rest

-- lines before the first word: comments, which begin with c and end with their line feed, and blank lines
pub data Preamble : List ℕ → Type 0 where
  none : Preamble []
  comment : (line rest : List ℕ) → T (all (λ b. not (b == 10)) line) → Preamble rest → Preamble (99 ∷ (line ++ (10 ∷ rest)))
  blank_line : (line rest : List ℕ) → T (all blank line) → Preamble rest → Preamble (line ++ (10 ∷ rest))

-- the text t has these words
abbrev pub Says : List (List ℕ) → List ℕ → Type 0
Says ws t = (front body : List ℕ) × (t ≡ front ++ body) × Preamble front × Spaced ws body

-- How words spell a formula.

-- the word w writes the number z
abbrev pub Numeral : List ℕ → ℤ → Type 0
Numeral w z = number_of w ≡ Some z

-- the words begin with the numbers zs, none of them 0, and then 0; `rest` are the words after that
abbrev pub Listed : List ℤ → List (List ℕ) → List (List ℕ) → Type 0
Listed zs [] rest = ⊥
Listed [] (w ∷ ws) rest = Numeral w (pos 0) × (ws ≡ rest)
Listed (z ∷ zs) (w ∷ ws) rest = Numeral w z × (0 < unsigned_abs z) × Listed zs ws rest

-- a block: a side and variables, in the order in which they are written
pub record Block : Type 0 where
  pub side : Side
  pub variables : List ℕ

abbrev pub letter_of : Side → List ℕ
letter_of Ours = codes "e"
letter_of Device = codes "a"

abbrev pub Blocks : List Block → List (List ℕ) → List (List ℕ) → Type 0
Blocks [] ws rest = ws ≡ rest
Blocks (b ∷ bs) [] rest = ⊥
Blocks (b ∷ bs) (w ∷ ws) rest = (w ≡ letter_of b.side) × ((mid : List (List ℕ)) × Listed (each pos b.variables) ws mid × Blocks bs mid rest)

abbrev pub ClauseWords : Clauses → List (List ℕ) → Type 0
ClauseWords [] ws = ws ≡ []
ClauseWords (c ∷ cs) ws = (mid : List (List ℕ)) × Listed c ws mid × ClauseWords cs mid

-- what a text says, before it is looked at
pub record Source : Type 0 where
  pub variables : ℕ
  pub blocks : List Block
  pub clauses : Clauses

-- the header p cnf VARIABLES CLAUSES, the blocks, the clauses, and nothing more
pub record Spells (s : Source) (ws : List (List ℕ)) : Type 0 where
  pub variables_word : List ℕ
  pub clauses_word : List ℕ
  pub body : List (List ℕ)
  pub middle : List (List ℕ)
  pub header : ws ≡ codes "p" ∷ codes "cnf" ∷ variables_word ∷ clauses_word ∷ body
  pub variables : Numeral variables_word (pos s.variables)
  pub clauses : Numeral clauses_word (pos (length s.clauses))
  pub blocks : Blocks s.blocks body middle
  pub rest : ClauseWords s.clauses middle

-- What blocks and clauses must meet.

-- the variables of all blocks
abbrev pub all_variables : List Block → List ℕ
all_variables [] = []
all_variables (b ∷ bs) = b.variables ++ all_variables bs

abbrev pub Distinct : List ℕ → Type 0
Distinct [] = Unit {0}
Distinct (v ∷ vs) = T (not (elem v vs)) × Distinct vs

abbrev pub Alternate : List Block → Type 0
Alternate [] = Unit {0}
Alternate (b ∷ []) = Unit {0}
Alternate (b ∷ c ∷ bs) = (b.side ≢ c.side) × Alternate (c ∷ bs)

abbrev pub LastBlockOurs : List Block → Type 0
LastBlockOurs [] = Unit {0}
LastBlockOurs (b ∷ []) = b.side ≡ Ours
LastBlockOurs (b ∷ c ∷ bs) = LastBlockOurs (c ∷ bs)

pub record Accepted (s : Source) : Type 0 where
  pub few_variables : s.variables ≤ 256
  pub few_clauses : length s.clauses ≤ 512
  pub few_blocks : length s.blocks ≤ 32
  pub few_literals : literals_of s.clauses ≤ 4096
  pub none_empty : All (λ (b : Block). 0 < length b.variables) s.blocks
  pub alternate : Alternate s.blocks
  pub last_ours : LastBlockOurs s.blocks
  pub declared : All (λ v. (0 < v) × (v ≤ s.variables)) (all_variables s.blocks)
  pub bound_once : Distinct (all_variables s.blocks)
  pub all_bound : All (λ c. All (λ l. T (elem (unsigned_abs l) (all_variables s.blocks))) c) s.clauses

-- the formula: the variables of each block ascending
abbrev pub ascending : ℕ → List ℕ → List ℕ
ascending n vs = keep (λ v. elem v vs) (from 1 n)

abbrev pub first_of : List Block → Side
first_of [] = Ours
first_of (b ∷ bs) = b.side

abbrev pub formula_of : Source → Qbf
formula_of s = record {
  variables = s.variables;
  first = first_of s.blocks;
  levels = each (λ (b : Block). ascending s.variables b.variables) s.blocks;
  clauses = s.clauses;
}

-- t writes the formula q: at most 65,536 bytes, whose words spell what is accepted and comes to q
abbrev pub Writes : List ℕ → Qbf → Type 0
Writes t q = (length t ≤ 65536) × ((ws : List (List ℕ)) × (s : Source) × Says ws t × Spells s ws × Accepted s × (q ≡ formula_of s))
