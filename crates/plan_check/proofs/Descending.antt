-- What check asks of the levels, one level after another.
use Rattle.std.proofs.Common.{◌≡◌, ℕ, ◌↔◌, List, [], ◌∷◌, sym, subst}
use Rattle.formula.specs.Game.{Clauses, other}
use Rattle.formula.specs.declared.side.Side.{Side}
use Rattle.strategy.specs.Check.{LevelRecords, LevelCheck, LevelChecks}

-- W says that this holds of the levels that are left, the first of side σ
module _ (C : Clauses) (n : ℕ) (w σ : Side) (W : Type 0) (left : List LevelRecords) (so_far : W ↔ LevelChecks C n w σ left) where
  module _ (l : LevelRecords) (after : List LevelRecords) (is : left ≡ l ∷ after) where
    pub level_fails : (LevelCheck C n w σ l after → ⊥) → W → ⊥
    level_fails ne h = ne (subst (LevelChecks C n w σ) is (so_far.0 h)).0

    pub level_next : (τ : Side) → τ ≡ other σ → LevelCheck C n w σ l after → W ↔ LevelChecks C n w τ after
    level_next τ e holds = (
      (λ h. subst (λ ρ. LevelChecks C n w ρ after) (sym e) (subst (LevelChecks C n w σ) is (so_far.0 h)).1),
      (λ r. so_far.1 (subst (LevelChecks C n w σ) (sym is) (holds, subst (λ ρ. LevelChecks C n w ρ after) e r))),
    )

  pub levels_done : left ≡ [] → W
  levels_done e = so_far.1 (subst (LevelChecks C n w σ) (sym e) tt)
