use Rattle.std.proofs.Common.{◌≡◌, ◌+◌, ◌-◌, ◌≤◌, ◌++◌, length, take, drop, sym, ap, ◌∙◌, add-one, arith}
use borrow.Rule.Slice.PartMut.{post_of}
use Rattle.std.proofs.lemmas.List.{length-take, length-drop, length-append, take_at, take_rest}
use Rattle.std.proofs.lemmas.Slice.{take-put_mid}
use Rattle.trimmer.proofs.Without.{without_is}
use Rattle.trimmer.proofs.trim.leave_out.Goals as goal

pub returns : goal.returns
returns c =
    let named = c.args.named.now in
    let i = c.args.i in
    let n = length named in
    let front = c.copy_from_slice.new.self in
    let back = c.copy_from_slice-2.new.self in
    let rest = post_of 0 i c.args.trial.now in
    let front-is : front ≡ take i named = c.copy_from_slice.ensures.after in
    let front-len : length front ≡ i = ap length front-is ∙ simp length-take (omega arith) in
    let back-is : back ≡ drop (i + 1) named = c.copy_from_slice-2.ensures.after ∙ take_rest named (i + 1) in
    let back_len : length back ≡ n - 1 - i = ap length back-is ∙ simp length-drop (omega arith) in
    let room : i ≤ length (front ++ rest) = simp length-append (omega arith) in
    take-put_mid i (n - 1 - i) (front ++ rest) back (n - 1) (omega arith) room
    ∙ ap (λ l. l ++ back) (take_at front rest i front-len ∙ front-is)
    ∙ ap (λ l. take i named ++ l) (back-is ∙ ap (λ k. drop k named) (add-one i))
    ∙ sym (without_is named i)
