use Rattle.std.proofs.Common.{◌≡◌, ℕ, ◌+◌, ◌<◌, ◌≤◌, Bool, true, false, not, ◌&&◌, ◌⊎◌, get_or, ℤ, pos, nat_abs, sym, ap, ◌∙◌, inl, inr, ⊎_elim, refl, arith, w32}
use mathlib.Core.Bool.{beq}
use lib.Signed.{lt_z}
use Rattle.std.proofs.lemmas.Int.{to_z-of_z}
use Rattle.formula.specs.Game.{has}
use Rattle.layout.specs.declared.game.Level.{Level}
use Rattle.layout.specs.Viewed.{values_in}
use Rattle.rules.proofs.Truths.{agrees, has_outside, has_inside, agrees_up, agrees_down}
use Rattle.rules.proofs.hits.is_true.Goals as goal

-- a literal of one of the variables 1 to n
among : (n : ℕ) (l : Level) (x : ℤ) (v : ℕ) → v ≡ nat_abs x → 1 ≤ v → v ≤ n → has x (values_in n l) ≡ get_or l.variables v false && agrees x (get_or l.values v false)
among n l x v is low high =
    has_inside (λ u. get_or l.values u false) (λ u. get_or l.variables u false) x 1 n (omega arith) (omega arith) (omega arith)
    ∙ ap (λ u. get_or l.variables u false && agrees x (get_or l.values u false)) (sym is)

pub returns-then-v-lt1 : goal.returns-then-v-lt1
returns-then-v-lt1 c =
    let l = c.args.level.now in
    let is : c.magnitude-v.result ≡ nat_abs c.args.literal = c.magnitude-v.ensures ∙ ap nat_abs (to_z-of_z w32 c.args.literal c.ranges.literal) in
    let out : (nat_abs c.args.literal < 1) ⊎ (1 + c.args.variables ≤ nat_abs c.args.literal) = ⊎_elim (λ a. inl (omega arith)) (λ a. inr (omega (arith, a.1))) c.then-v-lt1.either in
    sym (has_outside (λ u. get_or l.values u false) (λ u. get_or l.variables u false) c.args.literal 1 c.args.variables (omega arith) out)

-- a literal that is no 0 agrees with a value as its sign does
agrees_by : (x : ℤ) (b up : Bool) → 1 ≤ nat_abs x → lt_z (pos 0) x ≡ up → beq b up ≡ agrees x b
agrees_by x b true low e = same_true b ∙ sym (agrees_up x b e)
  where
    same_true : (b : Bool) → beq b true ≡ b
    same_true true = refl
    same_true false = refl
agrees_by x b false low e = same_false b ∙ sym (agrees_down x b low e)
  where
    same_false : (b : Bool) → beq b false ≡ not b
    same_false true = refl
    same_false false = refl

pub returns-then-level-v : goal.returns-then-level-v
returns-then-level-v c =
    let l = c.args.level.now in
    let x = c.args.literal in
    let v = c.magnitude-v.result in
    let b = get_or l.values c.magnitude-v.result false in
    let is : c.magnitude-v.result ≡ nat_abs x = c.magnitude-v.ensures ∙ ap nat_abs (to_z-of_z w32 x c.ranges.literal) in
    ap (λ (z : ℤ). beq b (lt_z (pos 0) z)) (to_z-of_z w32 x c.ranges.literal) ∙ agrees_by x b _ (omega (arith, c.if-v-lt1.false)) refl
    ∙ sym (among c.args.variables l x v is c.if-v-lt1.false c.if-v-variables.false ∙ ap (λ t. t && agrees x b) c.if-level-v.true)

pub returns-else-level-v : goal.returns-else-level-v
returns-else-level-v c =
    let l = c.args.level.now in
    let x = c.args.literal in
    let v = c.magnitude-v.result in
    let is : c.magnitude-v.result ≡ nat_abs x = c.magnitude-v.ensures ∙ ap nat_abs (to_z-of_z w32 x c.ranges.literal) in
    c.if-level-v.false
    ∙ sym (among c.args.variables l x v is c.if-v-lt1.false c.if-v-variables.false ∙ ap (λ t. t && agrees x (get_or l.values v false)) c.if-level-v.false)
