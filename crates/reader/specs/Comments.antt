-- Comments: before the first word, a line whose first byte is c. A line ends with its line feed.
use Rattle.std.specs.Prelude.{ℕ, suc, cond, List, [], ◌∷◌, Some, None, Option, ◌==◌}
use Rattle.reader.specs.declared.comments.Lead.{Lead}
use Rattle.reader.specs.declared.comments.Lead.TheVariants.{Line, Blanks, Comment}
use Rattle.reader.specs.Bytes.{blank}
use Rattle.reader.specs.Words.{Word, words}

-- after a blank that is no comment's
abbrev pub past_blank : ℕ → Option Lead
past_blank b = cond (b == 10) (Some Line) (cond (blank b) (Some Blanks) None)

-- where the byte after b stands, if b is still before the first word: at the start of a line, after blanks of a line, in a comment
abbrev pub past : Lead → ℕ → Option Lead
past Comment b = cond (b == 10) (Some Line) (Some Comment)
past Line b = cond (b == 99) (Some Comment) (past_blank b)
past Blanks b = past_blank b

abbrev pub go_on : Option Lead → (Lead → List Word) → List Word → List Word
go_on (Some m) on there = on m
go_on None on there = there

-- the words of bytes that begin at the place n, where m says how that place stands
abbrev pub words_from : Lead → ℕ → List ℕ → List Word
words_from m n [] = []
words_from m n (b ∷ bs) = go_on (past m b) (λ m'. words_from m' (suc n) bs) (words n (b ∷ bs))

-- the words of a text, comments left out
abbrev pub text_words : List ℕ → List Word
text_words t = words_from Line 0 t
