-- Reading goes by the next token and the words after it.
use Rattle.std.proofs.Common.{◌≡◌, ℕ, ◌<◌, Bool, true, false, cond, ◌&&◌, eqb, List, [], ◌∷◌, length, get_or, ℤ, Some, None, Ok, Err, ok_or, MatchOption, Option, Result, sym, refl, ap, ◌∙◌, arith}
use Rattle.formula.specs.Game.{Qbf}
use Rattle.formula.specs.Built.{Built}
use Rattle.reader.specs.declared.faults.TextFault.{TextFault}
use Rattle.reader.specs.Bytes.{lower, number_of}
use Rattle.reader.specs.Words.{Word, Said, letter, number, other, end, by_number, first, rest}
use Rattle.std.proofs.lemmas.Bool.{cond-true, cond-false}
use Rattle.formula.specs.declared.parts.Parts.{Parts}
use Rattle.formula.specs.declared.formula.Formula.{Formula}
use Rattle.formula.specs.Built.{built, may_finish}
use Rattle.formula.specs.Model.{qbf}
use Rattle.reader.specs.declared.faults.TextFault.TheVariants.{LastBlockDevice}
use Rattle.reader.specs.Left.{formula_in}
use Rattle.reader.specs.Text.{Place, and_then, step, at_end, reading}

-- what reading comes to at a token, with the words after it
abbrev pub by_token : ℕ → ℕ → Place → Built → Said → List Word → Result Qbf TextFault
by_token k n p b (end at) ws = at_end k p b at
by_token k n p b (letter c w at) ws = and_then (step k p b (letter c w at)) (λ next. reading k n next.0 next.1 ws)
by_token k n p b (number z w at) ws = and_then (step k p b (number z w at)) (λ next. reading k n next.0 next.1 ws)
by_token k n p b (other w at) ws = and_then (step k p b (other w at)) (λ next. reading k n next.0 next.1 ws)

module _ (k n : ℕ) (p : Place) (b : Built) (ws : List Word) where
  by_number_lem : (w : Word) (o : Option ℤ) → and_then (step k p b (by_number o w)) (λ next. reading k n next.0 next.1 ws) ≡ by_token k n p b (by_number o w) ws
  by_number_lem w (Some z) = refl
  by_number_lem w None = refl

  by_word : (w : Word) (t : Bool) → let s : Said = cond t (letter (get_or w.bytes 0 0) w.bytes w.place) (by_number (number_of w.bytes) w) in and_then (step k p b s) (λ next. reading k n next.0 next.1 ws) ≡ by_token k n p b s ws
  by_word w true = refl
  by_word w false = by_number_lem w (number_of w.bytes)

pub reading_token : (k n : ℕ) (p : Place) (b : Built) (ws : List Word) → reading k n p b ws ≡ by_token k n p b (first n ws) (rest ws)
reading_token k n p b [] = refl
reading_token k n p b (w ∷ ws) = by_word k n p b ws w (eqb (length w.bytes) 1 && lower (get_or w.bytes 0 0))

-- a token that is not the end takes a word
abbrev is_end : Said → Bool
is_end (letter b w n) = false
is_end (number z w n) = false
is_end (other w n) = false
is_end (end n) = true

pub fewer : (n : ℕ) (ws : List Word) → is_end (first n ws) ≡ false → length (rest ws) < length ws
fewer n [] e = let z : ◌≡◌ {A = ℕ} 0 1 = cc in absurd (omega arith)
fewer n (w ∷ ws) e = omega arith

-- the same with the token that was met
pub reading_at : (k n : ℕ) (p : Place) (b : Built) (ws ws' : List Word) (s : Said) → s ≡ first n ws → ws' ≡ rest ws → reading k n p b ws ≡ by_token k n p b s ws'
reading_at k n p b ws ws' s e f = reading_token k n p b ws ∙ ap (λ t. by_token k n p b t (rest ws)) (sym e) ∙ ap (by_token k n p b s) (sym f)

-- the end of a text after its last clause, by what the builder of the formula answers
pub finished : (p : Parts) (r : Option Formula) (at : ℕ) → MatchOption r (may_finish (built p) ≡ false) (λ f. (may_finish (built p) ≡ true) × (f.parts ≡ p)) → cond (may_finish (built p)) (Ok (qbf p)) (Err (LastBlockDevice at)) ≡ formula_in (ok_or r (LastBlockDevice at))
finished p None at not_yet = cond-false _ _ _ not_yet
finished p (Some f) at (done, same) = cond-true _ _ _ done ∙ ap (λ q. Ok (qbf q)) (sym same)
