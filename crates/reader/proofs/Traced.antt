-- What is read as a formula is spelled by its words, block by block and clause by clause, and taken.
use Rattle.std.proofs.Common.{◌≡◌, ℕ, zero, suc, ◌<◌, Bool, true, false, cond, ◌||◌, eqb, ltb, leb, ◌⊎◌, List, [], ◌∷◌, length, get_or, ℤ, pos, negsuc, nat_abs, Some, None, Ok, Err, Option, Result, sym, refl, ap, ◌∙◌, subst, inl, inr, ⊎_elim, arith}
use Rattle.std.proofs.lemmas.Bool.{cond-true, cond-false, cond_both, cases_eq, ne_eqb, eq-eqb}
use Rattle.formula.specs.declared.side.Side.{Side}
use Rattle.formula.specs.declared.side.Side.TheVariants.{Ours, Device}
use Rattle.formula.specs.Lists.{each}
use Rattle.formula.specs.Game.{Qbf, Clauses}
use Rattle.formula.specs.Built.{Built, may_start, started, binding, bind_to, adding, add_to, closed, empty_level, last_side, may_finish}
use Rattle.formula.specs.Model.{qbf_of}
use Rattle.reader.specs.declared.faults.TextFault.{TextFault}
use Rattle.reader.specs.declared.faults.WordFault.TheVariants.{NoNumber}
use Rattle.reader.specs.declared.faults.TextFault.TheVariants.{Word as Fault}
use Rattle.reader.specs.declared.faults.TextFault.TheVariants.{BadBlock, LastBlockDevice, TooManyLiterals}
use Rattle.reader.specs.declared.faults.TextFault.TheVariants.{OutOfRange as OutOfRangeAt, BoundTwice as BoundTwiceAt, Unbound as UnboundAt}
use Rattle.formula.specs.declared.faults.BindFault.{BindFault}
use Rattle.formula.specs.declared.faults.BindFault.TheVariants.{NoVariable, BoundTwice}
use Rattle.formula.specs.declared.faults.LiteralFault.{LiteralFault}
use Rattle.formula.specs.declared.faults.LiteralFault.TheVariants.{OutOfRange, Unbound, TooMany}
use Rattle.reader.specs.Words.{Word, Said, letter, number, other, end, said_of, place_of}
use Rattle.reader.specs.Text.{Place, between, in_block, clauses, and_then, block_side, by_small_letter, bound_at, added_at, variable_step, block_step, clause_step, clauses_step, after_device, of_device, between_step, step, at_end_of, reading}
use Rattle.reader.specs.Grammar.{Numeral, Listed, Block, letter_of, Blocks, ClauseWords}
use Rattle.reader.specs.Taking.{Binds, TakesBlocks, TakesClauses}
use Rattle.reader.proofs.Spacing.{bytes_of}
use Rattle.reader.proofs.WordKinds.{Kind, kind, a_letter, a_number, another}

-- no fault is a formula
pub no_fault : {A E : Type 0} (e : E) (a : A) → Err e ≡ Ok a → ⊥
no_fault e a h = let z : ◌≡◌ {A = ℕ} 0 1 = cc in omega arith

-- the clauses that the words spell, c of them, taken from b on, give q
abbrev pub Tail : ℕ → List (List ℕ) → Built → Qbf → Type 0
Tail c ws b q = (cs : Clauses) × (b' : Built) × (length cs ≡ c) × ClauseWords cs ws × TakesClauses cs b b' × (may_finish b' ≡ true) × (q ≡ qbf_of b')

-- the blocks, and then k clauses
abbrev pub Whole : ℕ → List (List ℕ) → Built → Qbf → Type 0
Whole k ws b q = (ls : List Block) × (after : List (List ℕ)) × (b' : Built) × Blocks ls ws after × TakesBlocks ls b b' × Tail k after b' q

-- the rest of a block, and what follows it
abbrev InBlock : ℕ → List (List ℕ) → Built → Qbf → Type 0
InBlock k ws b q = (vs : List ℕ) × (after : List (List ℕ)) × (b' : Built) × Listed (each pos vs) ws after × Binds vs b b' × (empty_level b' ≡ false) × Whole k after b' q

abbrev Traced : ℕ → Place → List (List ℕ) → Built → Qbf → Type 0
Traced k between = Whole k
Traced k in_block = InBlock k
Traced k (clauses c) = Tail c

-- a word and what follows
abbrev Then : ℕ → ℕ → List Word → Qbf → Result (Place × Built) TextFault → Type 0
Then k n ws q r = and_then r (λ next. reading k n next.0 next.1 ws) ≡ Ok q

-- what follows is traced
abbrev On : ℕ → ℕ → List Word → Qbf → Type 0
On k n ws q = (p : Place) (b : Built) → reading k n p b ws ≡ Ok q → Traced k p (bytes_of ws) b q

-- the text ends
ended : (c n : ℕ) (b : Built) (q : Qbf) → at_end_of c b n ≡ Ok q → Tail c [] b q
ended zero n b q e = by_test (may_finish b) refl e
  where
    by_test : (t : Bool) → may_finish b ≡ t → cond t (Ok (qbf_of b)) (Err (LastBlockDevice n)) ≡ Ok q → Tail 0 [] b q
    by_test true m h = let s : qbf_of b ≡ q = cc in ([], b, refl, refl, refl, m, sym s)
    by_test false m h = absurd (no_fault (LastBlockDevice n) q h)
ended (suc c) n b q e = absurd (no_fault _ q e)

-- a step that is a fault comes to no formula
faulty : (k n : ℕ) (ws : List Word) (q : Qbf) (r : Result (Place × Built) TextFault) (e : TextFault) → r ≡ Err e → Then k n ws q r → ⊥
faulty k n ws q r e h t = no_fault e q (ap (λ x. and_then x (λ next. reading k n next.0 next.1 ws)) (sym h) ∙ t)

-- a step that goes on
onward : (k n : ℕ) (ws : List Word) (q : Qbf) (r : Result (Place × Built) TextFault) (p : Place) (b : Built) → r ≡ Ok (p, b) → Then k n ws q r → reading k n p b ws ≡ Ok q
onward k n ws q r p b h t = ap (λ x. and_then x (λ next. reading k n next.0 next.1 ws)) (sym h) ∙ t

nothing : (z : ℤ) → nat_abs z ≡ 0 → z ≡ pos 0
nothing (pos v) e = ap pos e
nothing (negsuc v) e = absurd (omega arith)

-- one of three faults, or none of them
three : {A E : Type 0} (x y z : Bool) (d e f : E) (a : A) → let r : Result A E = cond x (Err d) (cond y (Err e) (cond z (Err f) (Ok a))) in (r ≡ Ok a) ⊎ ((g : E) × (r ≡ Err g))
three true y z d e f a = inr (d, refl)
three false true z d e f a = inr (e, refl)
three false false true d e f a = inr (f, refl)
three false false false d e f a = inl refl

-- a literal is taken, or refused; and so is a variable
adding_cases : (z : ℤ) (b : Built) → (adding z b ≡ Ok (add_to z b)) ⊎ ((e : LiteralFault) × (adding z b ≡ Err e))
adding_cases z b = three (ltb b.variables (nat_abs z)) (eqb (get_or b.bound (nat_abs z) 0) 0) (leb 4096 b.literals) OutOfRange Unbound TooMany (add_to z b)

binding_cases : (v : ℕ) (b : Built) → (binding v b ≡ Ok (bind_to v b)) ⊎ ((e : BindFault) × (binding v b ≡ Err e))
binding_cases v b = three (eqb b.levels 0 || eqb v 0 || ltb b.variables v) (ltb 0 (get_or b.bound v 0)) false NoVariable BoundTwice BoundTwice (bind_to v b)

added_fault : (c at : ℕ) (e : LiteralFault) → (f : TextFault) × (added_at c at (Err e) ≡ Err f)
added_fault c at OutOfRange = (OutOfRangeAt at, refl)
added_fault c at Unbound = (UnboundAt at, refl)
added_fault c at TooMany = (TooManyLiterals at, refl)

bound_fault : (at : ℕ) (e : BindFault) → (f : TextFault) × (bound_at at (Err e) ≡ Err f)
bound_fault at NoVariable = (OutOfRangeAt at, refl)
bound_fault at BoundTwice = (BoundTwiceAt at, refl)

-- nothing is read after a last block of the device
after_device_lem : (k : ℕ) (b : Built) (s : Said) → (e : TextFault) × (after_device k b s ≡ Err e)
after_device_lem zero b s = (LastBlockDevice (place_of s), refl)
after_device_lem (suc k) b (letter x w at) = (Fault (NoNumber at), refl)
after_device_lem (suc k) b (other w at) = (Fault (NoNumber at), refl)
after_device_lem (suc k) b (end at) = (Fault (NoNumber at), refl)
after_device_lem (suc k) b (number z w at) =
    cond_both (ltb b.variables (nat_abs z)) (Err (OutOfRangeAt at)) (Err (LastBlockDevice at)) (λ (r : Result (Place × Built) TextFault). (e : TextFault) × (r ≡ Err e))
    (λ _. (OutOfRangeAt at, refl)) (λ _. (LastBlockDevice at, refl))

module _ (k n : ℕ) (w : Word) (ws : List Word) (q : Qbf) (on : On k n ws q) where
  one_literal : (c : ℕ) (b : Built) (z : ℤ) → Numeral w.bytes z → 0 < nat_abs z → adding z b ≡ Ok (add_to z b) → Tail (suc c) (bytes_of ws) (add_to z b) q → Tail (suc c) (w.bytes ∷ bytes_of ws) b q
  one_literal c b z e h t ([], b', len, spelled, taken, may, is) = absurd (omega arith)
  one_literal c b z e h t (l ∷ cs, b', len, (mid, listed, more), (built, adds, rest), may, is) =
      ((z ∷ l) ∷ cs, b', len, (mid, (e, h, listed), more), (built, (t, adds), rest), may, is)

  clause_word : (c : ℕ) (b : Built) (z : ℤ) → Numeral w.bytes z → Then k n ws q (clause_step c z w.place b) → Tail (suc c) (w.bytes ∷ bytes_of ws) b q
  clause_word c b z e t =
      ⊎_elim
      (λ h. let step : clause_step c z w.place b ≡ Ok (clauses c, closed b) = cond-true _ _ _ (eq-eqb (nat_abs z) 0 h) in
      let rest = on (clauses c) (closed b) (onward k n ws q (clause_step c z w.place b) (clauses c) (closed b) step t) in
      ([] ∷ rest.0, rest.1, ap suc rest.2, (bytes_of ws, (subst (Numeral w.bytes) (nothing z h) e, refl), rest.3), (b, refl, rest.4), rest.5, rest.6))
      (λ h. let step : clause_step c z w.place b ≡ added_at (suc c) w.place (adding z b) = cond-false _ _ _ (ne_eqb (nat_abs z) 0 h) in
      ⊎_elim
      (λ ok. let go : clause_step c z w.place b ≡ Ok (clauses (suc c), add_to z b) = step ∙ ap (added_at (suc c) w.place) ok in
      one_literal c b z e (omega arith) ok (on (clauses (suc c)) (add_to z b) (onward k n ws q (clause_step c z w.place b) (clauses (suc c)) (add_to z b) go t)))
      (λ bad. let f = added_fault (suc c) w.place bad.0 in absurd (faulty k n ws q (clause_step c z w.place b) f.0 (step ∙ ap (added_at (suc c) w.place) bad.1 ∙ f.1) t))
      (adding_cases z b))
      (cases_eq (nat_abs z) 0)

  clauses_word : (c : ℕ) (b : Built) → Kind w → Then k n ws q (clauses_step c b (said_of w)) → Tail c (w.bytes ∷ bytes_of ws) b q
  clauses_word zero b _ t = absurd (no_fault _ q t)
  clauses_word (suc c) b (a_letter x e s) t = absurd (faulty k n ws q (clauses_step (suc c) b (said_of w)) _ (ap (clauses_step (suc c) b) s) t)
  clauses_word (suc c) b (another s) t = absurd (faulty k n ws q (clauses_step (suc c) b (said_of w)) _ (ap (clauses_step (suc c) b) s) t)
  clauses_word (suc c) b (a_number z e s) t = clause_word c b z e (ap (λ r. and_then (clauses_step (suc c) b r) (λ next. reading k n next.0 next.1 ws)) (sym s) ∙ t)

  block_word : (b : Built) (z : ℤ) → Numeral w.bytes z → 0 < nat_abs z → Then k n ws q (variable_step z w.place b) → InBlock k (w.bytes ∷ bytes_of ws) b q
  block_word b (negsuc v) e h t = absurd (no_fault _ q t)
  block_word b (pos v) e h t =
      ⊎_elim
      (λ ok. let rest = on in_block (bind_to v b) (onward k n ws q (variable_step (pos v) w.place b) in_block (bind_to v b) (ap (bound_at w.place) ok) t) in
      (v ∷ rest.0, rest.1, rest.2, (e, h, rest.3), (ok, rest.4), rest.5, rest.6))
      (λ bad. let f = bound_fault w.place bad.0 in absurd (faulty k n ws q (variable_step (pos v) w.place b) f.0 (ap (bound_at w.place) bad.1 ∙ f.1) t))
      (binding_cases v b)

  block_zero : (b : Built) (x : Bool) → empty_level b ≡ x → Numeral w.bytes (pos 0) → Then k n ws q (cond x (Err (BadBlock w.place)) (Ok (between, b))) → InBlock k (w.bytes ∷ bytes_of ws) b q
  block_zero b true m e t = absurd (no_fault _ q t)
  block_zero b false m e t = ([], bytes_of ws, b, (e, refl), refl, m, on between b t)

  block_words : (b : Built) → Kind w → Then k n ws q (step k in_block b (said_of w)) → InBlock k (w.bytes ∷ bytes_of ws) b q
  block_words b (a_letter x e s) t = absurd (faulty k n ws q (step k in_block b (said_of w)) _ (ap (step k in_block b) s) t)
  block_words b (another s) t = absurd (faulty k n ws q (step k in_block b (said_of w)) _ (ap (step k in_block b) s) t)
  block_words b (a_number z e s) t =
      let u : Then k n ws q (block_step z w.place b) = ap (λ r. and_then (step k in_block b r) (λ next. reading k n next.0 next.1 ws)) (sym s) ∙ t in
      ⊎_elim
      (λ h. block_zero b (empty_level b) refl (subst (Numeral w.bytes) (nothing z h) e) (ap (λ r. and_then r (λ next. reading k n next.0 next.1 ws)) (sym (cond-true _ _ _ (eq-eqb (nat_abs z) 0 h))) ∙ u))
      (λ h. block_word b z e (omega arith) (ap (λ r. and_then r (λ next. reading k n next.0 next.1 ws)) (sym (cond-false _ _ _ (ne_eqb (nat_abs z) 0 h))) ∙ u))
      (cases_eq (nat_abs z) 0)

  -- a word that begins no block
  clause_begins : (b : Built) → Kind w → (x : Bool) → Then k n ws q (cond x (after_device k b (said_of w)) (clauses_step k b (said_of w))) → Whole k (w.bytes ∷ bytes_of ws) b q
  clause_begins b h true t = let f = after_device_lem k b (said_of w) in absurd (faulty k n ws q (after_device k b (said_of w)) f.0 f.1 t)
  clause_begins b h false t = ([], w.bytes ∷ bytes_of ws, b, refl, refl, clauses_word k b h t)

  -- a letter that begins one
  block_begins : (b : Built) (σ : Side) → w.bytes ≡ letter_of σ → (x : Bool) → may_start σ b ≡ x → Then k n ws q (cond x (Ok (in_block, started σ b)) (Err (BadBlock (place_of (said_of w))))) → Whole k (w.bytes ∷ bytes_of ws) b q
  block_begins b σ e true m t =
      let rest = on in_block (started σ b) t in
      let whole = rest.6 in
      (record { side = σ; variables = rest.0 } ∷ whole.0, whole.1, whole.2, (e, (rest.1, rest.3, whole.3)), (m, (rest.2, rest.4, rest.5, whole.4)), whole.5)
  block_begins b σ e false m t = absurd (no_fault _ q t)

  -- where the token begins a block of σ, and where none
  by_side : (b : Built) (o : Option Side) → block_side (said_of w) ≡ o → Then k n ws q (step k between b (said_of w)) → Then k n ws q (between_step k b (said_of w) o)
  by_side b o e t = ap (λ x. and_then (between_step k b (said_of w) x) (λ next. reading k n next.0 next.1 ws)) (sym e) ∙ t

  letter_cases : (b : Built) (x : ℕ) → w.bytes ≡ x ∷ [] → said_of w ≡ letter x w.bytes w.place → Then k n ws q (step k between b (said_of w)) → Whole k (w.bytes ∷ bytes_of ws) b q
  letter_cases b x e s t =
      let side : block_side (said_of w) ≡ by_small_letter x = ap block_side s in
      ⊎_elim
      (λ a. block_begins b Device (e ∙ ap (λ y. y ∷ []) a) (may_start Device b) refl (by_side b (Some Device) (side ∙ cond-true _ _ _ (eq-eqb x 97 a)) t))
      (λ not_a. ⊎_elim
      (λ c. block_begins b Ours (e ∙ ap (λ y. y ∷ []) c) (may_start Ours b) refl (by_side b (Some Ours) (side ∙ cond-false _ _ _ (ne_eqb x 97 not_a) ∙ cond-true _ _ _ (eq-eqb x 101 c)) t))
      (λ not-e. clause_begins b (a_letter x e s) (of_device (last_side b)) (by_side b None (side ∙ cond-false _ _ _ (ne_eqb x 97 not_a) ∙ cond-false _ _ _ (ne_eqb x 101 not-e)) t))
      (cases_eq x 101))
      (cases_eq x 97)

  between_words : (b : Built) → Kind w → Then k n ws q (step k between b (said_of w)) → Whole k (w.bytes ∷ bytes_of ws) b q
  between_words b (a_letter x e s) t = letter_cases b x e s t
  between_words b (a_number z e s) t = clause_begins b (a_number z e s) (of_device (last_side b)) (by_side b None (ap block_side s) t)
  between_words b (another s) t = clause_begins b (another s) (of_device (last_side b)) (by_side b None (ap block_side s) t)

  traced_word : (p : Place) (b : Built) → Then k n ws q (step k p b (said_of w)) → Traced k p (w.bytes ∷ bytes_of ws) b q
  traced_word between b t = between_words b (kind w) t
  traced_word in_block b t = block_words b (kind w) t
  traced_word (clauses c) b t = clauses_word c b (kind w) t

pub traced : (k n : ℕ) (ws : List Word) (q : Qbf) (p : Place) (b : Built) → reading k n p b ws ≡ Ok q → Traced k p (bytes_of ws) b q
traced k n [] q between b t = ([], [], b, refl, refl, ended k n b q t)
traced k n [] q in_block b t = absurd (no_fault _ q t)
traced k n [] q (clauses c) b t = ended c n b q t
traced k n (w ∷ ws) q p b t = traced_word k n w ws q (λ p b. traced k n ws q p b) p b t
