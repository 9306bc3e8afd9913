use Rattle.std.proofs.Common.{ℕ, ◌+◌, ◌-◌, Bool, false, [], ◌∷◌, ◌++◌, get_or, sym, ap, ◌∙◌, append_assoc, arith, w32, SFits, rules}
use Rattle.std.proofs.lemmas.Int.{to_z-of_z}
use Rattle.formula.specs.Lists.{keep, from}
use Rattle.formula.proofs.Ranges.{keep_here, keep_past}
use Rattle.strategy.specs.Records.{values_of}
use Rattle.rules.specs.Values.{literal_of}
use Rattle.rules.proofs.values.put_values.Goals as goal

pub loop-v-preserved-then-not-level-v : goal.loop-v-preserved-then-not-level-v
loop-v-preserved-then-not-level-v c =
    let α : ℕ → Bool = λ u. get_or c.args.level.now.values u false in
    let p : ℕ → Bool = λ u. get_or c.args.level.now.variables u false in (
      ap (λ l. c.loop-v.numbers.items ++ values_of α l) (sym (keep_past p c.loop-v.v c.args.variables (omega arith) c.if-not-level-v.true)) ∙ c.loop-v.invariant.0,
      omega (arith, c.loop-v.invariant.1),
    )

pub loop-v-preserved : goal.loop-v-preserved
loop-v-preserved c =
    let α : ℕ → Bool = λ u. get_or c.args.level.now.values u false in
    let p : ℕ → Bool = λ u. get_or c.args.level.now.variables u false in
    let v = c.loop-v.v in
    let fits : SFits w32 c.literal_of.result = search rules in
    let rest = values_of α (keep p (from (v + 1) (c.args.variables + 1 - (v + 1)))) in (
      ap (λ l. l ++ rest) (c.push.ensures.items ∙ ap (λ x. c.loop-v.numbers.items ++ x ∷ []) (to_z-of_z w32 c.literal_of.result fits ∙ c.literal_of.ensures))
          ∙ append_assoc c.loop-v.numbers.items (literal_of v (α v) ∷ []) rest
          ∙ ap (λ l. c.loop-v.numbers.items ++ values_of α l) (sym (keep_here p v c.args.variables (omega arith) c.if-not-level-v.false)) ∙ c.loop-v.invariant.0,
      omega (arith, c.loop-v.invariant.1, c.push.ensures.len),
    )
