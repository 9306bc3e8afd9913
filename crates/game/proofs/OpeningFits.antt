-- What open makes of a text that reads well, by the length of the pool.
use Rattle.std.proofs.Common.{◌≡◌, ℕ, ◌<◌, ◌≤◌, Ok, Err, Result, sym, ap, ◌∙◌, arith}
use Rattle.std.proofs.lemmas.Bool.{cond-true, cond-false, lt-ltb, le-ltb}
use Rattle.formula.specs.Game.{Qbf}
use Rattle.reader.specs.declared.faults.TextFault.{TextFault}
use Rattle.game.specs.declared.faults.GameFault.TheVariants.{PoolTooShort}
use Rattle.layout.specs.Opening.{words_needed}
use Rattle.game.specs.Opens.{fitting, opening}

module _ (size : ℕ) (q : Qbf) (read : Result Qbf TextFault) (few : size ≤ 1048576) (is : Ok q ≡ read) where
  read_well : opening size read ≡ fitting size (Ok q)
  read_well = cond-false _ _ _ (le-ltb 1048576 size few) ∙ ap (fitting size) (sym is)

  pub too_short : size < words_needed q → opening size read ≡ Err PoolTooShort
  too_short h = read_well ∙ cond-true _ _ _ (lt-ltb size (words_needed q) h)

  pub long_enough : words_needed q ≤ size → opening size read ≡ Ok q
  long_enough h = read_well ∙ cond-false _ _ _ (le-ltb size (words_needed q) h)

pub never_both : {A E : Type 0} (r : Result A E) (e : E) (a : A) → r ≡ Err e → r ≡ Ok a → ⊥
never_both r e a p o = let z : ◌≡◌ {A = ℕ} 0 1 = cc in omega arith

pub same_ok : {A E : Type 0} (r : Result A E) (a b : A) → r ≡ Ok a → r ≡ Ok b → a ≡ b
same_ok r a b p o = cc
