-- Where there is room for records, there is room for the first, and behind it for the rest.
use Rattle.std.proofs.Common.{◌≡◌, ℕ, zero, suc, ◌+◌, ◌<◌, List, [], ◌∷◌, ◌++◌, length, get_or, drop, ℤ, sym, refl, ap, ◌∙◌, subst, zero-add, add-one, arith}
use Rattle.std.proofs.lemmas.List.{drop_more}
use Rattle.formula.specs.Lists.{from, below}
use Rattle.formula.specs.Game.{Qbf}
use Rattle.formula.specs.Model.{clause_at}
use Rattle.pool.specs.Append.{Room}
use Rattle.formula.proofs.Ranges.{length_from}
use Rattle.strategy.specs.Records.{gather}
use Rattle.layout.specs.Laying.{Laid, lay, laid, words_for, Enough}

pub enough_room : (size : ℕ) (s : Laid) (xs : List ℤ) (r : List (List ℤ)) → Enough size s (xs ∷ r) → Room size s.used s.head (length xs)
enough_room size s xs r e =
    let a = e.some in
    let b = e.below in
    let c = e.within in
    let d = e.indexed in
    record { below = omega arith; within = omega arith; indexed = omega arith }

pub enough_next : (size : ℕ) (s : Laid) (xs : List ℤ) (r : List (List ℤ)) → Enough size s (xs ∷ r) → Enough size (lay s xs) r
enough_next size s xs r e =
    let a = e.some in
    let b = e.below in
    let c = e.within in
    record { some = omega arith; below = omega arith; within = omega arith; indexed = e.indexed }

-- the first of the records that are left is written
module _ (size : ℕ) (s : Laid) (xs : List ℤ) (rest rs : List (List ℤ)) (is : rs ≡ xs ∷ rest) where
  pub room_for : (here : ℕ) → here ≡ size → Enough size s rs → Room here s.used s.head (length xs)
  room_for here same e = subst (λ m. Room m s.used s.head (length xs)) (sym same) (enough_room size s xs rest (subst (Enough size s) is e))

  pub room_after : (t : Laid) → t ≡ lay s xs → Enough size s rs → Enough size t rest
  room_after t to e = subst (λ u. Enough size u rest) (sym to) (enough_next size s xs rest (subst (Enough size s) is e))

  pub laid_after : (t : Laid) → t ≡ lay s xs → laid t rest ≡ laid s rs
  laid_after t to = ap (λ u. laid u rest) to ∙ sym (ap (laid s) is)

-- so from one place of a list to the next
pub at_place : (rs : List (List ℤ)) (i : ℕ) (xs : List ℤ) → i < length rs → xs ≡ get_or rs i [] → drop i rs ≡ xs ∷ drop (i + 1) rs
at_place rs i xs here is = drop_more rs i [] here ∙ ap (λ l. l ∷ drop (i + 1) rs) (sym is)

pub clause_next : (q : Qbf) (i : ℕ) → clause_at q (i + 1) ≡ get_or q.clauses i []
clause_next q i = ap (clause_at q) (add-one i)

-- records in two parts
pub laid_append : (s : Laid) (a b : List (List ℤ)) → laid s (a ++ b) ≡ laid (laid s a) b
laid_append s [] b = refl
laid_append s (xs ∷ a) b = laid_append (lay s xs) a b

pub words_append : (a b : List (List ℤ)) → words_for (a ++ b) ≡ words_for a + words_for b
words_append [] b = omega arith
words_append (xs ∷ a) b = let h = words_append a b in omega arith

pub enough_front : (size : ℕ) (s : Laid) (a b : List (List ℤ)) → Enough size s (a ++ b) → Enough size s a
enough_front size s a b e = let w = e.within in let h = words_append a b in record { some = e.some; below = e.below; within = omega arith; indexed = e.indexed }

pub enough_rest : (size : ℕ) (s : Laid) (a b : List (List ℤ)) → Enough size s (a ++ b) → Enough size (laid s a) b
enough_rest size s [] b e = e
enough_rest size s (xs ∷ a) b e = enough_rest size (lay s xs) a b (enough_next size s xs (a ++ b) e)

-- the records of the clauses from a place on
pub gather_place : (f : ℕ → List (List ℤ)) (k i : ℕ) → i < k → gather f (drop i (below k)) ≡ f i ++ gather f (drop (i + 1) (below k))
gather_place f k i h =
    ap (gather f) (drop_more (below k) i 0 (subst (λ m. i < m) (sym (length_from 0 k)) h))
    ∙ ap (λ v. f v ++ gather f (drop (i + 1) (below k))) (get_d_from 0 k i h ∙ zero-add i)
  where
    get_d_from : (a n j : ℕ) → j < n → get_or (from a n) j 0 ≡ a + j
    get_d_from a zero j h = absurd (omega arith)
    get_d_from a (suc n) zero h = omega arith
    get_d_from a (suc n) (suc j) h = get_d_from (suc a) n j (omega arith) ∙ omega arith
