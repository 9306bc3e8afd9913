use Rattle.std.proofs.Common.{◌≡◌, ◌≤◌, ◌<◌, ◌≤ℤ◌, ◌+◌, length, take, drop, pos, get_or, nat_abs, subst, sym, ap, ◌∙◌, rules, arith, w32, SFits}
use Rattle.std.specs.List.{AllByRecursion}
use Rattle.std.specs.Int.{FitsUnsignedBits}
use Rattle.std.proofs.lemmas.Int.{to_z-of_z}
use Rattle.pool.specs.Layout.{word_at, count_at, numbers_at, next_at}
use Rattle.pool.specs.Records.{Literal}
use Rattle.pool.proofs.Cut.{sign, room_in, word_in, numbers_in}
use Rattle.pool.proofs.soundness.is_whole.Goals as goal

pub returns : goal.returns
returns c =
    let pool = c.args.pool.now in
    let p = c.args.p in
    let words = c.in-Some-len2-up.field-0.now in
    let two = c.in-Some-len2-up.len_at_least in
    let cut = c.in-Some-len2-up.ensures.lookup.0 in
    let fits : SFits w32 (get_or words 0 (pos 0)) = search rules in
    let fits' : SFits w32 (get_or words 1 (pos 0)) = search rules in
    let next : FitsUnsignedBits 64 (get_or words 0 (pos 0)) × (nat_abs (get_or words 0 (pos 0)) < p) = search rules in
    let count : FitsUnsignedBits 64 (get_or words 1 (pos 0)) × (c.in-Ok.count ≡ nat_abs (get_or words 1 (pos 0))) = simp to_z-of_z at c.in-Ok.ensures in
    let first : get_or words 0 (pos 0) ≡ word_at pool p = word_in pool c.args.used p words cut.2 cut.3 two 0 (omega arith) ∙ ap (word_at pool) (omega arith) in
    let second : get_or words 1 (pos 0) ≡ word_at pool (p + 1) = word_in pool c.args.used p words cut.2 cut.3 two 1 (omega arith) in
    let size : c.in-Ok.count ≡ count_at pool p = count.1 ∙ ap nat_abs second in
    let held = c.in-Some.ensures.lookup.0 in
    let room : c.in-Ok.count + 2 ≤ length words = room_in words two c.in-Ok.count held.1 in
    let same : c.in-Some.numbers.now ≡ numbers_at pool p = held.2 ∙ numbers_in pool c.args.used p words cut.2 cut.3 two c.in-Ok.count room ∙ ap (λ n. take n (drop (p + 2) pool)) size in
    let falls : next_at pool p < p = subst (λ z. nat_abs z < p) first next.1 in (
      (λ e. record {
        lies = record { ends = omega arith; next_sign = subst (λ z. pos 0 ≤ℤ z) first (sign _ next.0); count_sign = subst (λ z. pos 0 ≤ℤ z) second (sign _ count.0) };
        falls = falls;
        literals = subst (AllByRecursion (Literal c.args.s)) same (c.are_literals.ensures.0 e);
      }),
      (λ w. c.are_literals.ensures.1 (subst (AllByRecursion (Literal c.args.s)) (sym same) w.literals)),
    )
