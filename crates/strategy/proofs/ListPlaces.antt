-- Places of a list that is one list turned round in front of another: reading and writing about the place where they meet.
use Rattle.std.proofs.Common.{◌≡◌, ℕ, suc, ◌+◌, List, [], ◌∷◌, length, get_or, set, ap, ◌∙◌, arith}
use Rattle.formula.specs.Backward.{onto}

module _ {A : Type 0} where
  set-onto : (b f : List A) (i : ℕ) (v : A) → set (onto b f) (length b + i) v ≡ onto b (set f i v)
  set-onto [] f i v = ap (λ j. set f j v) (omega arith)
  set-onto (x ∷ b) f i v = ap (λ j. set (onto b (x ∷ f)) j v) (omega arith) ∙ set-onto b (x ∷ f) (suc i) v

  get_onto : (b f : List A) (i : ℕ) (d : A) → get_or (onto b f) (length b + i) d ≡ get_or f i d
  get_onto [] f i d = ap (λ j. get_or f j d) (omega arith)
  get_onto (x ∷ b) f i d = ap (λ j. get_or (onto b (x ∷ f)) j d) (omega arith) ∙ get_onto b (x ∷ f) (suc i) d

  pub length-onto : (b f : List A) → length (onto b f) ≡ length b + length f
  length-onto [] f = omega arith
  length-onto (x ∷ b) f = omega (arith, length-onto b (x ∷ f))

  pub get_here : (b : List A) (x : A) (f : List A) (d : A) → get_or (onto b (x ∷ f)) (length b) d ≡ x
  get_here b x f d = ap (λ j. get_or (onto b (x ∷ f)) j d) (omega arith) ∙ get_onto b (x ∷ f) 0 d

  pub get_one : (b : List A) (x y : A) (f : List A) (d : A) → get_or (onto b (x ∷ y ∷ f)) (suc (length b)) d ≡ y
  get_one b x y f d = ap (λ j. get_or (onto b (x ∷ y ∷ f)) j d) (omega arith) ∙ get_onto b (x ∷ y ∷ f) 1 d

  pub get_two : (b : List A) (x y z : A) (f : List A) (d : A) → get_or (onto b (x ∷ y ∷ z ∷ f)) (suc (suc (length b))) d ≡ z
  get_two b x y z f d = ap (λ j. get_or (onto b (x ∷ y ∷ z ∷ f)) j d) (omega arith) ∙ get_onto b (x ∷ y ∷ z ∷ f) 2 d

  set_here : (b : List A) (x v : A) (f : List A) → set (onto b (x ∷ f)) (length b) v ≡ onto b (v ∷ f)
  set_here b x v f = ap (λ j. set (onto b (x ∷ f)) j v) (omega arith) ∙ set-onto b (x ∷ f) 0 v

  set_one : (b : List A) (x y v : A) (f : List A) → set (onto b (x ∷ y ∷ f)) (suc (length b)) v ≡ onto b (x ∷ v ∷ f)
  set_one b x y v f = ap (λ j. set (onto b (x ∷ y ∷ f)) j v) (omega arith) ∙ set-onto b (x ∷ y ∷ f) 1 v

  -- both places, in either order
  pub set_up : (b : List A) (x y v w : A) (f : List A) → set (set (onto b (x ∷ y ∷ f)) (length b) v) (suc (length b)) w ≡ onto b (v ∷ w ∷ f)
  set_up b x y v w f = ap (λ l. set l (suc (length b)) w) (set_here b x v (y ∷ f)) ∙ set_one b v y w f

  pub set_down : (b : List A) (x y v w : A) (f : List A) → set (set (onto b (x ∷ y ∷ f)) (suc (length b)) w) (length b) v ≡ onto b (v ∷ w ∷ f)
  set_down b x y v w f = ap (λ l. set l (length b) v) (set_one b x y w f) ∙ set_here b x v (w ∷ f)
