-- What a text reads as: the formula, or the first fault in reading order; of two faults at one word the one with the smaller number.
use Rattle.std.specs.Prelude.{ℕ, zero, suc, Bool, false, cond, ◌&&◌, List, [], ◌∷◌, length, ℤ, pos, negsuc, Some, None, Ok, Err, Option, Result, ◌==◌, nat_lt, slice_index, unsigned_abs}
use Rattle.formula.specs.declared.side.Side.{Side}
use Rattle.formula.specs.declared.side.Side.TheVariants.{Ours, Device}
use Rattle.formula.specs.declared.faults.BindFault.{BindFault}
use Rattle.formula.specs.declared.faults.BindFault.TheVariants.{NoVariable, BoundTwice}
use Rattle.formula.specs.declared.faults.LiteralFault.{LiteralFault}
use Rattle.formula.specs.declared.faults.LiteralFault.TheVariants.{OutOfRange, Unbound, TooMany}
use Rattle.formula.specs.Game.{Qbf}
use Rattle.formula.specs.Sides.{same_side}
use Rattle.formula.specs.Built.{Built, blank, empty_level, last_side, may_start, started, binding, adding, closed, may_finish}
use Rattle.formula.specs.Model.{qbf_of}
use Rattle.reader.specs.declared.faults.WordFault.TheVariants.{TooLong, NoNumber}
use Rattle.reader.specs.declared.faults.TextFault.{TextFault}
use Rattle.reader.specs.declared.faults.TextFault.TheVariants.{Word, NoHeader, BadCount, BadBlock, LastBlockDevice, WordAfterEnd, TooManyLiterals}
use Rattle.reader.specs.declared.faults.TextFault.TheVariants.{OutOfRange as OutOfRangeAt, BoundTwice as BoundTwiceAt, Unbound as UnboundAt}
use Rattle.reader.specs.Words.{Word as TextWord, Said, letter, number, other, end, said_of, place_of, first, rest}
use Rattle.reader.specs.Comments.{text_words}

-- where reading stands after the header: before a block or the first clause, in a block, or with so many clauses still to come
pub data Place : Type 0 where
  between : Place
  in_block : Place
  clauses : ℕ → Place

abbrev pub and_then : {A B E : Type 0} → Result A E → (A → Result B E) → Result B E
and_then (Ok a) f = f a
and_then (Err e) f = Err e

-- a number is due
abbrev pub due : Said → Result ℤ TextFault
due (number z w at) = Ok z
due (letter b w at) = Err (Word (NoNumber at))
due (other w at) = Err (Word (NoNumber at))
due (end at) = Err (Word (NoNumber at))

-- the side of the block that a token begins
abbrev pub by_small_letter : ℕ → Option Side
by_small_letter b = cond (b == 97) (Some Device) (cond (b == 101) (Some Ours) None)

abbrev pub block_side : Said → Option Side
block_side (letter b w at) = by_small_letter b
block_side (number z w at) = None
block_side (other w at) = None
block_side (end at) = None

-- a variable of a block
abbrev pub bound_at : ℕ → Result Built BindFault → Result (Place × Built) TextFault
bound_at at (Ok b) = Ok (in_block, b)
bound_at at (Err NoVariable) = Err (OutOfRangeAt at)
bound_at at (Err BoundTwice) = Err (BoundTwiceAt at)

abbrev pub variable_step : ℤ → ℕ → Built → Result (Place × Built) TextFault
variable_step (pos v) at b = bound_at at (binding v b)
variable_step (negsuc v) at b = Err (OutOfRangeAt at)

-- a number of a block: 0 ends it
abbrev pub block_step : ℤ → ℕ → Built → Result (Place × Built) TextFault
block_step z at b = cond (unsigned_abs z == 0) (cond (empty_level b) (Err (BadBlock at)) (Ok (between, b))) (variable_step z at b)

-- a literal of a clause
abbrev pub added_at : ℕ → ℕ → Result Built LiteralFault → Result (Place × Built) TextFault
added_at c at (Ok b) = Ok (clauses c, b)
added_at c at (Err OutOfRange) = Err (OutOfRangeAt at)
added_at c at (Err Unbound) = Err (UnboundAt at)
added_at c at (Err TooMany) = Err (TooManyLiterals at)

-- a number of a clause: 0 ends it
abbrev pub clause_step : ℕ → ℤ → ℕ → Built → Result (Place × Built) TextFault
clause_step c z at b = cond (unsigned_abs z == 0) (Ok (clauses c, closed b)) (added_at (suc c) at (adding z b))

abbrev pub clauses_step : ℕ → Built → Said → Result (Place × Built) TextFault
clauses_step zero b s = Err (WordAfterEnd (place_of s))
clauses_step (suc c) b s = and_then (due s) (λ z. clause_step c z (place_of s) b)

-- the word after a last block of the device: a literal is due there, if there are clauses
abbrev pub after_device : ℕ → Built → Said → Result (Place × Built) TextFault
after_device zero b s = Err (LastBlockDevice (place_of s))
after_device (suc k) b s = and_then (due s) (λ z. cond (nat_lt b.variables (unsigned_abs z)) (Err (OutOfRangeAt (place_of s))) (Err (LastBlockDevice (place_of s))))

abbrev pub of_device : Option Side → Bool
of_device None = false
of_device (Some σ) = same_side σ Device

-- a word before a block or the first of k clauses
abbrev pub between_step : ℕ → Built → Said → Option Side → Result (Place × Built) TextFault
between_step k b s (Some σ) = cond (may_start σ b) (Ok (in_block, started σ b)) (Err (BadBlock (place_of s)))
between_step k b s None = cond (of_device (last_side b)) (after_device k b s) (clauses_step k b s)

abbrev pub step : ℕ → Place → Built → Said → Result (Place × Built) TextFault
step k between b s = between_step k b s (block_side s)
step k in_block b s = and_then (due s) (λ z. block_step z (place_of s) b)
step k (clauses c) b s = clauses_step c b s

-- the text ends at `at`, with no clause to come or with some
abbrev pub at_end_of : ℕ → Built → ℕ → Result Qbf TextFault
at_end_of zero b at = cond (may_finish b) (Ok (qbf_of b)) (Err (LastBlockDevice at))
at_end_of (suc c) b at = Err (Word (NoNumber at))

abbrev pub at_end : ℕ → Place → Built → ℕ → Result Qbf TextFault
at_end k between b at = at_end_of k b at
at_end k in_block b at = Err (Word (NoNumber at))
at_end k (clauses c) b at = at_end_of c b at

-- the words after the header, of a text of n bytes whose header announces k clauses
abbrev pub reading : ℕ → ℕ → Place → Built → List TextWord → Result Qbf TextFault
reading k n p b [] = at_end k p b n
reading k n p b (w ∷ ws) = and_then (step k p b (said_of w)) (λ next. reading k n next.0 next.1 ws)

-- the header: the words p, cnf, the number of variables, the number of clauses
abbrev pub p_due : Said → Result (Unit {0}) TextFault
p_due (letter b w at) = cond (b == 112) (Ok tt) (Err (NoHeader at))
p_due (number z w at) = Err (NoHeader at)
p_due (other w at) = Err (NoHeader at)
p_due (end at) = Err (NoHeader at)

-- three bytes: c, n, f
abbrev pub is_cnf : List ℕ → Bool
is_cnf w = length w == 3 && slice_index w 0 == 99 && slice_index w 1 == 110 && slice_index w 2 == 102

abbrev pub cnf_due : Said → Result (Unit {0}) TextFault
cnf_due (letter b w at) = Err (NoHeader at)
cnf_due (number z w at) = Err (NoHeader at)
cnf_due (other w at) = cond (is_cnf w) (Ok tt) (Err (NoHeader at))
cnf_due (end at) = Err (NoHeader at)

-- a count is at least 0 and at most its limit
abbrev pub counted : ℕ → ℕ → ℤ → Result ℕ TextFault
counted limit at (pos v) = cond (nat_lt limit v) (Err (BadCount at)) (Ok v)
counted limit at (negsuc v) = Err (BadCount at)

abbrev pub count_due : ℕ → Said → Result ℕ TextFault
count_due limit s = and_then (due s) (counted limit (place_of s))

-- the words of a text of n bytes
abbrev pub headed : ℕ → List TextWord → Result Qbf TextFault
headed n ws =
    and_then (p_due (first n ws)) (λ _.
    and_then (cnf_due (first n (rest ws))) (λ _.
    and_then (count_due 256 (first n (rest (rest ws)))) (λ v.
    and_then (count_due 512 (first n (rest (rest (rest ws))))) (λ k.
    reading k n between (blank v) (rest (rest (rest (rest ws))))))))

-- a text of more than 65,536 bytes is refused before anything else
abbrev pub reads : List ℕ → Result Qbf TextFault
reads t = cond (nat_lt 65536 (length t)) (Err (Word TooLong)) (headed (length t) (text_words t))
