-- What `eq` of two iterators says of the lists that they give.
use Rattle.std.proofs.Common.{◌≡◌, Bool, true, false, List, [], ◌∷◌, length, Some, None, Option, Decides, sym, refl, ap, ◌∙◌, subst, arith}
use Rattle.std.specs.Option.{MatchOption, IfSome}
use Rattle.std.specs.List.{AllZip}
use Rattle.std.specs.Iterator.{AlwaysYields, YieldsThen, ComparesItemsByEq}
use Rattle.std.proofs.lemmas.Iterator.{YieldsList}
use Rattle.std.proofs.lemmas.Bool.{false≢true}
use Rattle.std.proofs.lemmas.Bool.Decides.{Decides-like, not_from_Decides}
use Rattle.formula.proofs.Turned.{same_head, same_tail}

no : {A : Type 0} (r : Bool) (x y : A) → r ≡ false → (x ≡ y → ⊥) → Decides r (x ≡ y)
no r x y e ne = ((λ t. absurd (false≢true (sym e ∙ t))), (λ h. absurd (ne h)))

some_item : {A : Type 0} (x : A) (xs : List A) → [] ≡ x ∷ xs → ⊥
some_item x xs h = let n = ap length h in omega (arith, n)

-- items that are equal by `eq` have equal values, and no others
module _ {S T A B : Type 0} (steps : S → Option A → S → Type 0) (others : T → Option A → T → Type 0) (v : A → B) (eq : A → A → Bool)
    (same : (x y : A) → eq x y ≡ true → v x ≡ v y) (differ : (x y : A) → eq x y ≡ false → v x ≡ v y → ⊥) (r : Bool) where
  pub lists_told : (s : S) (t : T) (u : S) (w : T) (ls ms : List B) (xs ys : List A) (o p : Option A) → AlwaysYields steps v s ls → AlwaysYields others v t ms
      → YieldsThen steps s xs o u → YieldsThen others t ys p w → AllZip (λ x y. eq x y ≡ true) xs ys
      → MatchOption o (MatchOption p (r ≡ true) (λ _. r ≡ false)) (λ x. (r ≡ false) × IfSome p (λ y. eq x y ≡ false)) → Decides r (ls ≡ ms)
  lists_told s t u w ls ms [] (y ∷ ys) o p a b c d z e = absurd z
  lists_told s t u w ls ms (x ∷ xs) [] o p a b c d z e = absurd z
  lists_told s t u w [] ms (x ∷ xs) (y ∷ ys) o p a b c d z e = absurd (a x c.1.0 c.1.1)
  lists_told s t u w (l ∷ ls) [] (x ∷ xs) (y ∷ ys) o p a b c d z e = absurd (b y d.1.0 d.1.1)
  lists_told s t u w (l ∷ ls) (m ∷ ms) (x ∷ xs) (y ∷ ys) o p a b c d z e =
      let here = a.1 x c.1.0 c.1.1 in
      let there = b.1 y d.1.0 d.1.1 in
      let first : l ≡ m = sym here.0 ∙ same x y z.0 ∙ there.0 in
      Decides-like r (λ h. ap (λ k. l ∷ k) h ∙ ap (λ k. k ∷ ms) first) (same_tail l m ls ms)
      (lists_told c.1.0 d.1.0 u w ls ms xs ys o p here.1 there.1 (c.0, c.1.2, c.2) (d.0, d.1.2, d.2) z.1 e)
  lists_told s t u w (l ∷ ls) ms [] [] None p a b c d z e = absurd (a.0 u (subst (λ k. steps k None u) (sym c.1) c.2))
  lists_told s t u w [] ms [] [] (Some x) p a b c d z e = absurd (a x u (subst (λ k. steps k (Some x) u) (sym c.1) c.2))
  lists_told s t u w [] [] [] [] None None a b c d z e = ((λ _. refl), (λ _. e))
  lists_told s t u w [] (m ∷ ms) [] [] None None a b c d z e = absurd (b.0 w (subst (λ k. others k None w) (sym d.1) d.2))
  lists_told s t u w [] [] [] [] None (Some y) a b c d z e = absurd (b y w (subst (λ k. others k (Some y) w) (sym d.1) d.2))
  lists_told s t u w [] (m ∷ ms) [] [] None (Some y) a b c d z e = no r [] (m ∷ ms) e (some_item m ms)
  lists_told s t u w (l ∷ ls) [] [] [] (Some x) p a b c d z e = no r (l ∷ ls) [] e.0 (λ h. some_item l ls (sym h))
  lists_told s t u w (l ∷ ls) (m ∷ ms) [] [] (Some x) None a b c d z e = absurd (b.0 w (subst (λ k. others k None w) (sym d.1) d.2))
  lists_told s t u w (l ∷ ls) (m ∷ ms) [] [] (Some x) (Some y) a b c d z e =
      let here = a.1 x u (subst (λ k. steps k (Some x) u) (sym c.1) c.2) in
      let there = b.1 y w (subst (λ k. others k (Some y) w) (sym d.1) d.2) in
      no r (l ∷ ls) (m ∷ ms) e.0 (λ h. differ x y e.1 (here.0 ∙ same_head l m ls ms h ∙ sym there.0))

module _ {S T U A B : Type 0} {steps : S → Option A → S → Type 0} {others : T → Option A → T → Type 0} {v : A → B} {s : S} {ls ms : List B} (eq : A → A → Bool) (becomes : U → T → Type 0) (other : U) (r : Bool) where
  pub eq_told : ComparesItemsByEq steps becomes others s other eq r → YieldsList steps v s ls → ((it : T) → becomes other it → YieldsList others v it ms)
      → ((x y : A) → Decides (eq x y) (v x ≡ v y)) → Decides r (ls ≡ ms)
  eq_told ran ours theirs same =
      lists_told steps others v eq (λ x y. (same x y).0) (λ x y e. not_from_Decides (eq x y) (same x y) e) r s ran.0 ran.5 ran.6 ls ms ran.1 ran.2 ran.3 ran.4
      ours.runs (theirs ran.0 ran.7).runs ran.8 ran.9 ran.10 ran.11

pub yields_at : {S A B : Type 0} {steps : S → Option A → S → Type 0} {v : A → B} {s t : S} {l : List B} → s ≡ t → YieldsList steps v t l → YieldsList steps v s l
yields_at {steps = steps} {v = v} {l = l} e road = subst (λ k. YieldsList steps v k l) (sym e) road
