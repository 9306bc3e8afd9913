-- Blocks are taken one after another exactly when they alternate, none is empty, there are at most 32, and their variables are free.
use Rattle.std.proofs.Common.{◌≡◌, ℕ, suc, ◌+◌, ◌%◌, ◌<◌, ◌≤◌, Bool, true, false, cond, not, ◌&&◌, ◌||◌, eqb, ltb, ◌⊎◌, List, [], ◌∷◌, length, get_or, Some, None, Option, sym, refl, ap, ◌∙◌, subst, ap₂, inl, inr, ⊎_elim, add-zero, add-one, arith}
use Rattle.std.proofs.lemmas.Bool.{cond-true, cond-false, cases_eq, eqb-true, eqb-false, ltb-true, lt-ltb, ne_eqb, eq-eqb, and_parts, and_from, or_cases, or_left, or_right, not-true, not_from_false, both_ways}
use Rattle.formula.specs.declared.side.Side.{Side}
use Rattle.formula.specs.declared.side.Side.TheVariants.{Ours, Device}
use Rattle.formula.specs.Lists.{elem, keep, from, All}
use Rattle.formula.specs.Game.{other}
use Rattle.formula.specs.Sides.{side_at, same_side}
use Rattle.formula.specs.Found.{variables_of}
use Rattle.formula.specs.Built.{Built, started, may_start, empty_level, last_side}
use Rattle.formula.proofs.Looked.{elem_kept}
use Rattle.reader.specs.Grammar.{Block, all_variables, ascending}
use Rattle.reader.specs.Taking.{TakesBlocks}
use Rattle.reader.proofs.Bindings.{Free, set_all, length_set_all, free_split, free_join, binds_to, binds_free, free_binds}
use Rattle.reader.proofs.Leveling.{set_all_le, bound_to, level_is}

-- sides
same_self : (σ : Side) → same_side σ σ ≡ true
same_self Ours = refl
same_self Device = refl

differ_other : (σ τ : Side) → same_side σ τ ≡ false → σ ≡ other τ
differ_other Ours Ours e = let z : ◌≡◌ {A = ℕ} 0 1 = cc in absurd (omega arith)
differ_other Ours Device e = refl
differ_other Device Ours e = refl
differ_other Device Device e = let z : ◌≡◌ {A = ℕ} 0 1 = cc in absurd (omega arith)

differ : (σ τ : Side) → (τ ≡ σ → ⊥) → same_side σ τ ≡ false
differ Ours Ours n = absurd (n refl)
differ Ours Device n = refl
differ Device Ours n = refl
differ Device Device n = absurd (n refl)

other_twice : (σ : Side) → other (other σ) ≡ σ
other_twice Ours = refl
other_twice Device = refl

-- sides alternate by the parity of the level
side_next : (σ : Side) (m : ℕ) → side_at σ (m + 1) ≡ other (side_at σ m)
side_next σ m =
    ⊎_elim
    (λ odd. cond-false _ _ _ (ne_eqb ((m + 1) % 2) 1 (λ e. omega arith)) ∙ sym (ap other (cond-true _ _ _ (eq-eqb (m % 2) 1 odd))))
    (λ even. let e : (m + 1) % 2 ≡ 1 = omega arith in cond-true _ _ _ (eq-eqb ((m + 1) % 2) 1 e) ∙ sym (ap other (cond-false _ _ _ (ne_eqb (m % 2) 1 even)) ∙ other_twice σ))
    (cases_eq (m % 2) 1)

-- blocks after a block of the side in o, if any
abbrev pub After : Option Side → List Block → Type 0
After o [] = Unit {0}
After None (l ∷ ls) = After (Some l.side) ls
After (Some σ) (l ∷ ls) = (σ ≡ l.side → ⊥) × After (Some l.side) ls

abbrev pub last_after : Option Side → List Block → Option Side
last_after o [] = o
last_after o (l ∷ ls) = last_after (Some l.side) ls

abbrev pub first_after : Side → List Block → Side
first_after σ [] = σ
first_after σ (l ∷ ls) = l.side

-- whether the variables of a block leave its level empty
nothing_kept : (l : List ℕ) → keep (λ v. elem v []) l ≡ []
nothing_kept [] = refl
nothing_kept (x ∷ l) = nothing_kept l

some_there : (v : ℕ) (l : List ℕ) → elem v l ≡ true → 0 < length l
some_there v [] e = let z : ◌≡◌ {A = ℕ} 0 1 = cc in absurd (omega arith)
some_there v (x ∷ l) e = omega arith

filled : (n : ℕ) (bd : List ℕ) (vs : List ℕ) → Free n bd vs → 0 < length vs → 0 < length (ascending n vs)
filled n bd [] f h = absurd (omega arith)
filled n bd (v ∷ vs) (ok, new, more) h =
    some_there v (ascending n (v ∷ vs)) (elem_kept (λ u. elem u (v ∷ vs)) 1 n v (omega (arith, ok.0)) (omega (arith, ok.1)) ∙ ap (λ b. b || elem v vs) (eq-eqb v v refl))

module _ (l : Block) (b : Built) (room : b.variables < length b.bound) (low : (v : ℕ) → get_or b.bound v 0 ≤ b.levels) where
  -- the block taken
  abbrev pub taken : Built
  taken = binds_to l.variables (started l.side b)

  pub taken_room : taken.variables < length taken.bound
  taken_room = omega (arith, room, length_set_all l.variables (b.levels + 1) b.bound)

  pub taken_low : (v : ℕ) → get_or taken.bound v 0 ≤ taken.levels
  taken_low v = set_all_le l.variables (b.levels + 1) b.bound v (b.levels + 1) (omega (arith, low v)) (omega arith)

  own_level : Free b.variables b.bound l.variables → variables_of b.variables taken.bound taken.levels ≡ ascending b.variables l.variables
  own_level f = ap (λ m. variables_of b.variables (set_all l.variables m b.bound) m) (add-one b.levels) ∙ level_is b.variables b.levels l [] b.bound room low f tt

  pub taken_filled : Free b.variables b.bound l.variables → 0 < length l.variables → empty_level taken ≡ false
  taken_filled f h = ap (λ (vs : List ℕ). eqb (length vs) 0) (own_level f) ∙ ne_eqb (length (ascending b.variables l.variables)) 0 (λ e. omega (arith, filled b.variables b.bound l.variables f h))

  pub filled_taken : Free b.variables b.bound l.variables → empty_level taken ≡ false → 0 < length l.variables
  filled_taken f e = by_list l.variables refl
    where
      by_list : (vs : List ℕ) → l.variables ≡ vs → 0 < length l.variables
      by_list [] s =
          let none : ascending b.variables l.variables ≡ [] = ap (ascending b.variables) s ∙ nothing_kept (from 1 b.variables) in
          absurd (eqb-false (length (variables_of b.variables taken.bound taken.levels)) 0 e (ap length (own_level f ∙ none)))
      by_list (v ∷ vs) s = let k : length l.variables ≡ suc (length vs) = ap length s in omega arith

-- a start after nothing, and after a level
start_cases : (σ : Side) (b : Built) → may_start σ b ≡ true → (b.levels ≡ 0) ⊎ ((b.levels < 32) × (same_side σ (side_at b.first b.levels) ≡ false))
start_cases σ b e =
    ⊎_elim (λ z. inl (eqb-true b.levels 0 z))
    (λ h. let p = and_parts (ltb b.levels 32 && not (same_side σ (side_at b.first b.levels))) (not (empty_level b)) h in
    let q = and_parts (ltb b.levels 32) (not (same_side σ (side_at b.first b.levels))) p.0 in
    inr (ltb-true b.levels 32 q.0, not-true (same_side σ (side_at b.first b.levels)) q.1))
    (or_cases (eqb b.levels 0) (ltb b.levels 32 && not (same_side σ (side_at b.first b.levels)) && not (empty_level b)) e)

-- the side of the level that is started
started_side : (σ : Side) (b : Built) → (b.levels ≡ 0) ⊎ (same_side σ (side_at b.first b.levels) ≡ false) → last_side (started σ b) ≡ Some σ
started_side σ b h = cond-false _ _ _ (ne_eqb (b.levels + 1) 0 (λ e. omega arith)) ∙ ap Some (⊎_elim none some h)
  where
    none : b.levels ≡ 0 → side_at (cond (eqb b.levels 0) σ b.first) (b.levels + 1) ≡ σ
    none z = ap₂ (λ x m. side_at (cond (eqb m 0) x b.first) (m + 1)) {x = σ} refl z

    old_first : same_side σ (side_at b.first b.levels) ≡ false → (b.levels ≡ 0 → ⊥) → side_at (cond (eqb b.levels 0) σ b.first) (b.levels + 1) ≡ σ
    old_first d nz = ap (λ x. side_at x (b.levels + 1)) (cond-false _ _ _ (ne_eqb b.levels 0 nz)) ∙ side_next b.first b.levels ∙ sym (differ_other σ (side_at b.first b.levels) d)

    some : same_side σ (side_at b.first b.levels) ≡ false → side_at (cond (eqb b.levels 0) σ b.first) (b.levels + 1) ≡ σ
    some d = ⊎_elim none (old_first d) (cases_eq b.levels 0)

-- what taking blocks comes to
pub record Took (ls : List Block) (b b' : Built) : Type 0 where
  pub variables : b'.variables ≡ b.variables
  pub levels : b'.levels ≡ b.levels + length ls
  pub bound : b'.bound ≡ bound_to b.levels ls b.bound
  pub clauses : b'.clauses ≡ b.clauses
  pub pending : b'.pending ≡ b.pending
  pub literals : b'.literals ≡ b.literals
  pub first : b'.first ≡ cond (eqb b.levels 0) (first_after b.first ls) b.first
  pub last : last_side b' ≡ last_after (last_side b) ls
  pub few : b.levels ≤ 32 → b'.levels ≤ 32
  pub filled : 0 < length ls → empty_level b' ≡ false
  pub free : Free b.variables b.bound (all_variables ls)
  pub none_empty : All (λ (l : Block). 0 < length l.variables) ls
  pub after : After (last_side b) ls

same_first : (t : Bool) (σ : Side) → cond t σ σ ≡ σ
same_first true σ = refl
same_first false σ = refl

took_none : (b b' : Built) → b ≡ b' → Took [] b b'
took_none b b' e = subst (Took [] b) e record {
  variables = refl;
  levels = sym (add-zero b.levels);
  bound = refl;
  clauses = refl;
  pending = refl;
  literals = refl;
  first = sym (same_first (eqb b.levels 0) b.first);
  last = refl;
  few = λ h. h;
  filled = λ h. absurd (omega arith);
  free = tt;
  none_empty = tt;
  after = tt;
}

-- the order of sides, by the side before
after_here : (b : Built) (l : Block) (ls : List Block) → (b.levels ≡ 0) ⊎ (same_side l.side (side_at b.first b.levels) ≡ false) → After (Some l.side) ls → After (last_side b) (l ∷ ls)
after_here b l ls h more =
    ⊎_elim
    (λ z. subst (λ o. After o (l ∷ ls)) (sym (cond-true _ _ _ (eq-eqb b.levels 0 z))) more)
    (λ nz. subst (λ o. After o (l ∷ ls)) (sym (cond-false _ _ _ (ne_eqb b.levels 0 nz)))
    ((λ e. ⊎_elim nz (λ d. both_ways _ d (ap (λ τ. same_side l.side τ) e ∙ same_self l.side)) h), more))
    (cases_eq b.levels 0)

-- the first side stays once there is a level
first_here : (b : Built) (σ : Side) (ls : List Block) → cond (eqb (b.levels + 1) 0) (first_after (cond (eqb b.levels 0) σ b.first) ls) (cond (eqb b.levels 0) σ b.first) ≡ cond (eqb b.levels 0) σ b.first
first_here b σ ls = cond-false _ _ _ (ne_eqb (b.levels + 1) 0 (λ e. omega arith))

pub took : (ls : List Block) (b b' : Built) → b.variables < length b.bound → ((v : ℕ) → get_or b.bound v 0 ≤ b.levels) → TakesBlocks ls b b' → Took ls b b'
took [] b b' room low e = took_none b b' e
took (l ∷ ls) b b' room low (may, (mid, binds, some, rest)) =
    let s = start_cases l.side b may in
    let side : (b.levels ≡ 0) ⊎ (same_side l.side (side_at b.first b.levels) ≡ false) = ⊎_elim inl (λ p. inr p.1) s in
    let f = binds_free l.variables (started l.side b) mid (omega arith) room binds in
    let more : TakesBlocks ls (taken l b room low) b' = subst (λ m. TakesBlocks ls m b') (sym f.1) rest in
    let full : empty_level (taken l b room low) ≡ false = ap empty_level f.1 ∙ some in
    let t = took ls (taken l b room low) b' (taken_room l b room low) (taken_low l b room low) more in
    let last : last_side (taken l b room low) ≡ Some l.side = started_side l.side b side in
    record {
      variables = t.variables;
      levels = t.levels ∙ omega arith;
      bound = t.bound ∙ ap (λ m. bound_to m ls (set_all l.variables m b.bound)) (add-one b.levels);
      clauses = t.clauses;
      pending = t.pending;
      literals = t.literals;
      first = t.first ∙ first_here b l.side ls;
      last = t.last ∙ ap (λ o. last_after o ls) last;
      few = λ h. t.few (⊎_elim (λ z. omega arith) (λ p. omega (arith, p.0)) s);
      filled = λ _. filled_last l ls (taken l b room low) b' more full t.filled;
      free = free_join b.variables (b.levels + 1) (omega arith) b.bound l.variables (all_variables ls) room f.0 t.free;
      none_empty = (filled_taken l b room low f.0 full, t.none_empty);
      after = after_here b l ls side (subst (λ o. After o ls) last t.after);
    }
  where
    filled_last : (l : Block) (ls : List Block) (m b' : Built) → TakesBlocks ls m b' → empty_level m ≡ false → (0 < length ls → empty_level b' ≡ false) → empty_level b' ≡ false
    filled_last l [] m b' e full g = ap empty_level (sym e) ∙ full
    filled_last l (k ∷ ls) m b' e full g = g (omega arith)

-- and when blocks may be taken
may_start_lem : (σ : Side) (b : Built) → b.levels < 32 → (0 < b.levels → empty_level b ≡ false) → (b.levels ≡ 0) ⊎ (same_side σ (side_at b.first b.levels) ≡ false) → may_start σ b ≡ true
may_start_lem σ b few full h =
    ⊎_elim (λ z. or_left (eqb b.levels 0) _ (eq-eqb b.levels 0 z))
    (λ nz. or_right (eqb b.levels 0) _ (and_from _ _ (and_from _ _ (lt-ltb b.levels 32 few) (not_from_false _ (⊎_elim (λ z. absurd (nz z)) (λ d. d) h))) (not_from_false _ (full (omega arith)))))
    (cases_eq b.levels 0)

before_start : (b : Built) (l : Block) (ls : List Block) → After (last_side b) (l ∷ ls) → ((b.levels ≡ 0) ⊎ (same_side l.side (side_at b.first b.levels) ≡ false)) × After (Some l.side) ls
before_start b l ls a =
    ⊎_elim
    (λ z. (inl z, subst (λ o. After o (l ∷ ls)) (cond-true _ _ _ (eq-eqb b.levels 0 z)) a))
    (λ nz. let p : (side_at b.first b.levels ≡ l.side → ⊥) × After (Some l.side) ls = subst (λ o. After o (l ∷ ls)) (cond-false _ _ _ (ne_eqb b.levels 0 nz)) a in
    (inr (differ l.side (side_at b.first b.levels) p.0), p.1))
    (cases_eq b.levels 0)

pub takes : (ls : List Block) (b : Built) → b.variables < length b.bound → ((v : ℕ) → get_or b.bound v 0 ≤ b.levels) → b.levels + length ls ≤ 32 → (0 < b.levels → empty_level b ≡ false)
    → Free b.variables b.bound (all_variables ls) → All (λ (l : Block). 0 < length l.variables) ls → After (last_side b) ls → (b' : Built) × TakesBlocks ls b b'
takes [] b room low few full f some a = (b, refl)
takes (l ∷ ls) b room low few full f some a =
    let p = before_start b l ls a in
    let s = free_split b.variables (b.levels + 1) (omega arith) b.bound l.variables (all_variables ls) room f in
    let m = taken l b room low in
    let full' : empty_level m ≡ false = taken_filled l b room low s.0 some.0 in
    let rest = takes ls m (taken_room l b room low) (taken_low l b room low) (omega arith) (λ _. full') s.1 some.1 (subst (λ o. After o ls) (sym (started_side l.side b p.0)) p.1) in
    (rest.0, (may_start_lem l.side b (omega arith) full p.0, (m, free_binds l.variables (started l.side b) (omega arith) s.0, full', rest.1)))
