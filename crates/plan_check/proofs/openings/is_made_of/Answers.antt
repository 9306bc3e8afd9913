use Rattle.std.proofs.Common.{◌≡◌, ◌++◌, ℤ, Some, None, Bool, nat_abs, sym, refl, ap, ◌∙◌, rules}
use Rattle.std.proofs.lemmas.Bool.{false≢true}
use Rattle.std.proofs.lemmas.Bool.Decides.{Decides-like, Decides-int_eq}
use Rattle.std.proofs.lemmas.Iterator.{YieldsList-from_slice}
use Rattle.std.proofs.lemmas.Iterator.Consumers.{YieldsList-from_filter}
use Rattle.std.proofs.lemmas.List.{append_cancel_right}
use Rattle.std.proofs.lemmas.Slice.Eq.{strip_suffix_is}
use Rattle.formula.specs.Lists.{elem, keep}
use Rattle.layout.specs.Shown.{variables_at}
use Rattle.plan_check.proofs.Compared.{yields_at, eq_told}
use Rattle.plan_check.proofs.openings.is_made_of.Goals as goal

pub returns-in_default : goal.returns-in_default
returns-in_default c =
    let none = strip_suffix_is Decides-int_eq c.args.numbers.now c.args.tail.now None c.in_default.ensures.cases in
    (λ t. absurd (false≢true t), λ h. absurd (none _ h))

pub returns : goal.returns
returns c =
    let p : ℤ → Bool = λ l. elem (nat_abs l) (variables_at c.args.game.now c.args.m) in
    let front = c.in-Some.front.now in
    let tail = c.args.tail.now in
    let is : c.args.numbers.now ≡ front ++ tail = strip_suffix_is Decides-int_eq c.args.numbers.now tail (Some c.in-Some.front) c.in-Some.ensures.cases in
    Decides-like c.eq.result (λ h. is ∙ ap (λ l. l ++ tail) h) (λ h. append_cancel_right front (keep p c.args.clause.now) tail (sym is ∙ h))
    (eq_told _ (λ o it. it ≡ o) c.filter.result c.eq.result c.eq.ensures.ran (YieldsList-from_slice front (search rules))
    (λ it b. yields_at b (YieldsList-from_filter _ p (YieldsList-from_slice c.args.clause.now (search rules)) refl (λ x r q k. search rules)))
    (λ x y. Decides-int_eq x.now y.now))
