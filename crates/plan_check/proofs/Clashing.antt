-- An unsatisfiable chain clashes, in the engine's words; and check's questions are proper.
use Rattle.std.proofs.Common.{ℕ, zero, suc, ◌+◌, ◌*◌, ◌<◌, ◌≤◌, Bool, List, ◌∷◌, ℤ, pos, neg_ℤ, sym, ◌∙◌, arith}
use Rattle.std.specs.List.{AllByRecursion}
use Rattle.std.proofs.lemmas.Bool.{cond_both}
use Rattle.formula.specs.Lists.{keep, from}
use Rattle.formula.specs.declared.side.Side.{Side}
use Rattle.formula.specs.declared.side.Side.TheVariants.{Ours, Device}
use Rattle.pool.specs.Records.{Literal}
use Rattle.strategy.specs.Signals.{signal}
use Rattle.strategy.specs.Records.{Unsatisfiable, assumptions}
use Rattle.engine.specs.Meaning.{Clash}
use Rattle.soundness.proofs.Rows.{test_true}
use Rattle.game.proofs.Replies.{chain_is, each_is}

pub unsatisfiable_clash : (rs : List (List ℤ)) (xs : List ℤ) → Unsatisfiable rs xs → Clash rs xs
unsatisfiable_clash rs xs u α m = u α (test_true _ (sym (chain_is α rs) ∙ m.0)) (test_true _ (sym (each_is α xs) ∙ m.1))

-- what a question assumes are literals of the game's signals
signal_literal : (n k i : ℕ) (σ : Side) → i < k → Literal (n + 2 * k) (neg_ℤ (pos (signal n k σ i)))
signal_literal n k i Ours h = (omega arith, omega arith)
signal_literal n k i Device h = (omega arith, omega arith)

pub assumed_literals : (n k : ℕ) (σ : Side) (p : ℕ → Bool) (i j : ℕ) → i + j ≤ k → AllByRecursion (Literal (n + 2 * k)) (assumptions n k σ (keep p (from i j)))
assumed_literals n k σ p i zero h = tt
assumed_literals n k σ p i (suc j) h =
    cond_both (p i) (i ∷ keep p (from (suc i) j)) (keep p (from (suc i) j)) (λ l. AllByRecursion (Literal (n + 2 * k)) (assumptions n k σ l))
    (λ _. (signal_literal n k i σ (omega arith), assumed_literals n k σ p (suc i) j (omega arith))) (λ _. assumed_literals n k σ p (suc i) j (omega arith))
