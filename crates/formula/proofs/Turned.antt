-- Plays with the newest level first against plays from level 1 on: lists turned round, and who wins them.
use Rattle.std.proofs.Common.{◌≡◌, ℕ, Bool, true, false, cond, ◌||◌, List, [], ◌∷◌, ◌++◌, length, sym, refl, ap, ◌∙◌, subst}
use mathlib.Core.List.{nil≢cons}
use Rattle.formula.specs.Lists.{below}
use Rattle.formula.specs.Game.{Clauses, Play, PlayOf, hits, hit, every_hit, winner}
use Rattle.formula.specs.Backward.{onto, turned, For, Won, level_after}
use Rattle.formula.specs.declared.side.Side.{Side}
use Rattle.formula.specs.declared.side.Side.TheVariants.{Ours, Device}
use Rattle.formula.proofs.Tests.{or_false, or_swap}
use Rattle.formula.proofs.Members.{all_same, tail}

module _ {A : Type 0} where
  turned-onto : (π ρ : List A) → turned (onto π ρ) ≡ onto ρ π
  turned-onto [] ρ = refl
  turned-onto (x ∷ π) ρ = turned-onto π (x ∷ ρ)

  pub turned-turned : (π : List A) → turned (turned π) ≡ π
  turned-turned π = turned-onto π []

  -- equal lists have equal heads and tails
  abbrev head_or : A → List A → A
  head_or d [] = d
  head_or d (x ∷ l) = x

  pub same_head : (x y : A) (l m : List A) → x ∷ l ≡ y ∷ m → x ≡ y
  same_head x y l m e = ap (head_or x) e

  pub same_tail : (x y : A) (l m : List A) → x ∷ l ≡ y ∷ m → l ≡ m
  same_tail x y l m e = ap tail e

  pub no_split : (b : List A) (x : A) (a : List A) → [] ≡ b ++ (x ∷ a) → ⊥
  no_split [] x a e = nil≢cons e
  no_split (y ∷ b) x a e = nil≢cons e

-- who wins does not depend on the order of the levels
hit-onto : (C : Clauses) (π ρ : Play) (i : ℕ) → hit C (onto π ρ) i ≡ hit C π i || hit C ρ i
hit-onto C [] ρ i = refl
hit-onto C (x ∷ π) ρ i = hit-onto C π (x ∷ ρ) i ∙ or_swap (hit C π i) (hits C x i) (hit C ρ i)

pub hit-turned : (C : Clauses) (π : Play) (i : ℕ) → hit C (turned π) i ≡ hit C π i
hit-turned C π i = hit-onto C π [] i ∙ or_false (hit C π i)

pub every_hit_turned : (C : Clauses) (π : Play) → every_hit C (turned π) ≡ every_hit C π
every_hit_turned C π = all_same (hit C (turned π)) (hit C π) (below (length C)) (hit-turned C π)

for_winner : (w : Side) (b : Bool) → For w b → cond b Ours Device ≡ w
for_winner Ours true h = refl
for_winner Ours false h = absurd h
for_winner Device true h = absurd h
for_winner Device false h = refl

abbrev IsOurs : Side → Type 0
IsOurs Ours = Unit {0}
IsOurs Device = ⊥

pub ours_not_device : Ours ≡ Device → ⊥
ours_not_device e = subst IsOurs e tt

winner_for : (w : Side) (b : Bool) → cond b Ours Device ≡ w → For w b
winner_for Ours true e = tt
winner_for Ours false e = absurd (ours_not_device (sym e))
winner_for Device true e = absurd (ours_not_device e)
winner_for Device false e = tt

pub won_winner : (C : Clauses) (w : Side) (π : Play) → Won C w π → winner C (turned π) ≡ w
won_winner C w π h = for_winner w (every_hit C (turned π)) (subst (For w) (sym (every_hit_turned C π)) h)

pub winner_won : (C : Clauses) (w : Side) (π : Play) → winner C (turned π) ≡ w → Won C w π
winner_won C w π e = subst (For w) (every_hit_turned C π) (winner_for w (every_hit C (turned π)) e)

-- the level after a play of the levels before it
pub level_after_lem : (before : List (List ℕ)) (level : List ℕ) (after : List (List ℕ)) (π : Play) → PlayOf before π
    → level_after (before ++ (level ∷ after)) π ≡ level
level_after_lem [] level after [] h = refl
level_after_lem [] level after (x ∷ π) h = absurd h
level_after_lem (vs ∷ before) level after [] h = absurd h
level_after_lem (vs ∷ before) level after (x ∷ π) h = level_after_lem before level after π h.1
