-- A branch: a signal that is open is given either value. Assumes nothing.
use Rattle.std.proofs.Common.{◌≡◌, ℕ, suc, ◌+◌, ◌-◌, ◌<◌, ◌≤◌, Bool, true, false, not, ◌⊎◌, List, length, get_or, take, set, ℤ, pos, nat_abs, Some, sym, refl, ap, ◌∙◌, subst, ⊎_elim, arith}
use lib.Seq.{take-set-lt}
use Rattle.std.specs.List.{AllByRecursion}
use Rattle.std.proofs.lemmas.List.{length-set, set-set, set-get_or, get_or-set_same, get_or-set_other, take-take, take-set-le}
use Rattle.std.proofs.lemmas.Bool.{cases_eq, cases_order, both_ways}
use Rattle.engine.specs.Truth.{literal, chain}
use Rattle.propagation.specs.Rows.{at, Agrees, AgreesOn, Blocked, back}
use Rattle.branching.specs.Search.{sign, positive, NotBefore}
use Rattle.propagation.specs.Steps.{Silent, Ready, Noted, Grown, Traced, Stuck}
use Rattle.branching.specs.Search.{From, Chosen, Met}
use Rattle.propagation.proofs.Growing.{zero_from_abs, agrees_set, agrees_unset, opens_pos, noted_assign, noted_trail}
use Rattle.propagation.proofs.Blocks.{blocked_unmarked}
use Rattle.propagation.proofs.Heard.{silent_stays}
use Rattle.branching.proofs.Order.{reads, agrees_reads, value_from_word, silent_before}
use Rattle.propagation.proofs.Growth.{grown_trail, traced_from}

-- where the search stands at a branch: the row has grown, and the signal after i is open
pub record Fork (s : ℕ) (cs : List (List ℤ)) (row₀ : List ℤ) (trail₀ : List ℕ) (mark : ℕ) (marks₀ : List Bool) (row : List ℤ) (trail : List ℕ) (top i : ℕ) : Type 0 where
  pub ready : Ready s row₀ trail₀ mark marks₀
  pub grown : Grown cs row₀ trail₀ mark row trail top
  pub within : i < length row
  pub unset : nat_abs (at row i) ≡ 0
  pub behind : AllByRecursion (From row i) cs
  pub heard : AllByRecursion (Silent row i) cs → ⊥
  pub long : length row ≡ length row₀
  pub wide : length trail ≡ length trail₀

pub fork_from : {s : ℕ} {cs : List (List ℤ)} {row₀ : List ℤ} {trail₀ : List ℕ} {mark : ℕ} {marks₀ : List Bool} {row : List ℤ} {trail : List ℕ} {top i : ℕ}
    → Ready s row₀ trail₀ mark marks₀ → Grown cs row₀ trail₀ mark row trail top → Chosen cs row (Some i) → length row ≡ length row₀ → length trail ≡ length trail₀
    → Fork s cs row₀ trail₀ mark marks₀ row trail top i
fork_from ready grown chosen long wide = record { ready = ready; grown = grown; within = chosen.0; unset = chosen.1; behind = chosen.2; heard = chosen.3; long = long; wide = wide }

module _ {s : ℕ} {cs : List (List ℤ)} {row₀ : List ℤ} {trail₀ : List ℕ} {mark : ℕ} {marks₀ : List Bool} {row : List ℤ} {trail : List ℕ} {top i : ℕ}
    (fork : Fork s cs row₀ trail₀ mark marks₀ row trail top i) where
  pub branch_below : top < length row
  branch_below =
      let some = opens_pos row i fork.within fork.unset in
      let counted = fork.grown.noted.counted in
      omega arith

  pub branch_room : top < length trail
  branch_room =
      let below = branch_below in
      let room = fork.ready.room in
      omega arith

  branch_noted : (b : Bool) → Noted row₀ trail₀ mark (set row i (sign b i)) (set trail top i) (top + 1)
  branch_noted true =
      let is : suc i - 1 ≡ i = omega arith in
      subst (λ j. Noted row₀ trail₀ mark (set row j (sign true i)) (set trail top j) (top + 1)) is
      (noted_assign row₀ trail₀ mark row trail top (sign true i) fork.grown.noted (omega arith, fork.within) (ap (λ j. nat_abs (at row j)) is ∙ fork.unset) branch_room)
  branch_noted false =
      let is : suc i - 1 ≡ i = omega arith in
      subst (λ j. Noted row₀ trail₀ mark (set row j (sign false i)) (set trail top j) (top + 1)) is
      (noted_assign row₀ trail₀ mark row trail top (sign false i) fork.grown.noted (omega arith, fork.within) (ap (λ j. nat_abs (at row j)) is ∙ fork.unset) branch_room)

  pub reopened : (b : Bool) → set (set row i (sign b i)) i (pos 0) ≡ row
  reopened b = set-set row i (sign b i) (pos 0) ∙ ap (set row i) (sym (zero_from_abs (at row i) fork.unset)) ∙ set-get_or row i (pos 0)

  -- what a try of a branch that failed leaves: the row, that it is as before the branch once i is open again, the trail's front, the marks
  abbrev pub Tried : Bool → List ℤ → List ℕ → List Bool → Type 0
  Tried v row' trail' marks' =
      (row' ≡ set row i (sign v i)) × (set row' i (pos 0) ≡ row) × (take (top + 1) trail' ≡ take (top + 1) (set trail top i)) × Blocked cs marks' (set row i (sign v i))

  pub tried_from : (v : Bool) {row₁ row' : List ℤ} {trail₁ trail' : List ℕ} {marks' : List Bool} → row₁ ≡ set row i (sign v i) → take (top + 1) trail₁ ≡ take (top + 1) (set trail top i)
      → Stuck cs row₁ trail₁ (top + 1) row' trail' marks' → Tried v row' trail' marks'
  tried_from v {marks' = marks'} is front stuck =
      let same = stuck.same ∙ is in
      (same, ap (λ l. set l i (pos 0)) same ∙ reopened v, stuck.kept ∙ front, subst (Blocked cs marks') is stuck.blocked)

  -- the other branch, behind one that failed
  pub other_row : {row' row₂ : List ℤ} → row' ≡ set row i (sign false i) → row₂ ≡ set row' i (sign true i) → row₂ ≡ set row i (sign true i)
  other_row same is = is ∙ ap (λ l. set l i (sign true i)) same ∙ set-set row i (sign false i) (sign true i)

  module _ (trail' : List ℕ) (e : take (top + 1) trail' ≡ take (top + 1) (set trail top i)) (wide' : length trail' ≡ length trail₀) where
    pub branch_ready : (b : Bool) (marks' : List Bool) → length row ≤ length marks' → Ready s (set row i (sign b i)) trail' (top + 1) marks'
    branch_ready b marks' space =
        let noted = noted_trail row₀ trail₀ mark (set row i (sign b i)) (set trail top i) trail' (top + 1) (branch_noted b) e in
        let size : length (set row i (sign b i)) ≡ length row = length-set row i (sign b i) in
        let room = fork.ready.room in
        let signalled = fork.ready.signalled in
        record {
          signalled = omega arith;
          shaped = noted.shaped;
          counted = noted.counted;
          room = omega arith;
          space = omega arith;
        }

    grown' : Grown cs row₀ trail₀ mark row trail' top
    grown' =
        grown_trail cs row₀ trail₀ mark row trail trail' top fork.grown
        (sym (take-take top (top + 1) trail' (omega arith)) ∙ ap (take top) e ∙ take-take top (top + 1) (set trail top i) (omega arith) ∙ take-set-le top trail top i (omega arith))

    pub branch_traced : (marks : List Bool) → length row ≤ length marks → Blocked cs marks row → Traced s cs row trail' mark top marks
    branch_traced marks space blocked =
        let room = branch_room in
        let signalled = fork.ready.signalled in
        traced_from s cs row₀ trail₀ mark row trail' top marks (omega arith) space (omega arith) grown' blocked

    pub branch_stuck : (row' : List ℤ) (marks : List Bool) → row' ≡ back (top - mark) trail' mark row → Blocked cs marks row' → Stuck cs row₀ trail₀ mark row' trail' marks
    branch_stuck row' marks is blocked =
        let same = is ∙ grown'.noted.undone in
        record { same = same; kept = grown'.noted.kept; blocked = subst (Blocked cs marks) same blocked }

  either : (a : ℕ → Bool) (v : Bool) → a (suc i) ≡ v → literal a (sign v i) ≡ true
  either a true e = e
  either a false e = ap not e

  -- the words that the row had stay in the branch
  branch_stays : (v : Bool) (k : ℕ) → k < length row → (nat_abs (at row k) ≡ 0 → ⊥) → at (set row i (sign v i)) k ≡ at row k
  branch_stays v k h shut = get_or-set_other row i k (sign v i) (pos 0) (λ (same : k ≡ i). shut (ap (λ j. nat_abs (at row j)) same ∙ fork.unset))

  -- a signal that is open and named by no record without a true number is false in the end
  branch_quiet : (v : Bool) (row' : List ℤ) → Met cs (set row i (sign v i)) row' → (j : ℕ) → j < length row → nat_abs (at row j) ≡ 0 → AllByRecursion (Silent row j) cs → at row' j ≡ sign false j
  branch_quiet v row' met j h open' silent =
      let size = length-set row i (sign v i) in
      let apart : j ≡ i → ⊥ = λ same. fork.heard (subst (λ k. AllByRecursion (Silent row k) cs) same silent) in
      met.quiet j (omega arith) (ap nat_abs (get_or-set_other row i j (sign v i) (pos 0) apart) ∙ open') (silent_stays row (set row i (sign v i)) size (branch_stays v) j cs silent)

  -- the value of the branch's signal in the end
  branch_value : (v : Bool) (row' : List ℤ) → Met cs (set row i (sign v i)) row' → positive (at row' i) ≡ v
  branch_value v row' met =
      let size = length-set row i (sign v i) in
      let inside : i < length (set row i (sign v i)) = subst (λ n. i < n) (sym size) fork.within in
      let word : at (set row i (sign v i)) i ≡ sign v i = get_or-set_same row i (sign v i) (pos 0) fork.within in
      let place : suc i - 1 ≡ i = omega arith in
      let full : nat_abs (at (set row i (sign v i)) i) ≡ i + 1 = ap nat_abs word ∙ sign_size v in
      ap (λ j. positive (at row' j)) (sym place) ∙ value_from_word (reads row') (at (set row i (sign v i)) i) i full (met.extends (reads row') (agrees_reads row') i inside full) ∙ ap positive word ∙ sign_value v
    where
      sign_size : (v : Bool) → nat_abs (sign v i) ≡ i + 1
      sign_size true = omega arith
      sign_size false = omega arith

      sign_value : (v : Bool) → positive (sign v i) ≡ v
      sign_value true = refl
      sign_value false = refl

  -- no assignment with the signal true comes before one with it false
  branch_later : (row' : List ℤ) → Met cs (set row i (sign false i)) row' → (b : ℕ → Bool) → Agrees row b → b (suc i) ≡ true → NotBefore row' b
  branch_later row' met b agrees is k h same no' yes' =
      let size = length-set row i (sign false i) in
      let long' = met.long in
      let low = branch_value false row' met in
      ⊎_elim
      (λ (here : k ≡ i). both_ways (positive (at row' k)) (ap (λ j. positive (at row' j)) here ∙ low) yes')
      (λ (apart : (k < i) ⊎ (i < k)).
      ⊎_elim
      (λ (before : k < i).
      let inside : k < length row = omega arith in
      ⊎_elim
      (λ (none : nat_abs (at row k) ≡ 0). both_ways (positive (at row' k)) (ap positive (branch_quiet false row' met k inside none (silent_before row i k cs before none fork.behind))) yes')
      (λ (full : nat_abs (at row k) ≡ k + 1).
      let mine = value_from_word b (at row k) k full (agrees k inside full) in
      let place : suc k - 1 ≡ k = omega arith in
      let theirs : positive (at row' k) ≡ positive (at row k) =
      sym (ap (λ j. positive (at row' j)) place)
      ∙ value_from_word (reads row') (at row k) k full (agrees_unset row (reads row') i (sign false i) fork.unset (met.extends (reads row') (agrees_reads row')) k inside full) in
      both_ways (positive (at row' k)) (theirs ∙ sym mine ∙ no') yes')
      (fork.grown.noted.shaped k inside))
      (λ (after : i < k). both_ways (b (suc i)) (same i after ∙ low) is)
      apart)
      (cases_order k i)

  agrees_try : (v : Bool) (b : ℕ → Bool) → Agrees row b → b (suc i) ≡ v → Agrees (set row i (sign v i)) b
  agrees_try v b agrees is = agrees_set row b i (sign v i) fork.within (either b v is) agrees

  branch_met : (v : Bool) (row' : List ℤ) → Met cs (set row i (sign v i)) row' → ((b : ℕ → Bool) → chain b cs ≡ true → Agrees row b → NotBefore row' b) → Met cs row₀ row'
  branch_met v row' met first =
      let size = length-set row i (sign v i) in
      let long' = met.long in
      record {
        shaped = met.shaped;
        complete = met.complete;
        extends = λ a agrees. fork.grown.extends a (agrees_unset row a i (sign v i) fork.unset (met.extends a agrees));
        meets = met.meets;
        long = omega arith;
        quiet = λ j h open' silent.
            let still = fork.grown.steady j h open' silent in
            branch_quiet v row' met j (omega arith) still (silent_stays row₀ row fork.long fork.grown.stays j cs silent);
        first = λ b meets agrees. first b meets (fork.grown.follows b meets agrees);
      }

  -- the first try succeeded
  pub branch_met_false : (row' : List ℤ) → Met cs (set row i (sign false i)) row' → Met cs row₀ row'
  branch_met_false row' met = branch_met false row' met (λ b meets agrees. by b meets agrees (b (suc i)) refl)
    where
      by : (b : ℕ → Bool) → chain b cs ≡ true → Agrees row b → (v : Bool) → b (suc i) ≡ v → NotBefore row' b
      by b meets agrees true is = branch_later row' met b agrees is
      by b meets agrees false is = met.first b meets (agrees_try false b agrees is)

  -- the first try failed, and the second succeeded
  pub branch_met_true : (marks : List Bool) (row' : List ℤ) → Blocked cs marks (set row i (sign false i)) → Met cs (set row i (sign true i)) row' → Met cs row₀ row'
  branch_met_true marks row' blocked met = branch_met true row' met (λ b meets agrees. by b meets agrees (b (suc i)) refl)
    where
      by : (b : ℕ → Bool) → chain b cs ≡ true → Agrees row b → (v : Bool) → b (suc i) ≡ v → NotBefore row' b
      by b meets agrees true is = met.first b meets (agrees_try true b agrees is)
      by b meets agrees false is = absurd (blocked b meets (λ k h m e. agrees_try false b agrees is k h e))

  -- the first try failed for a reason that has nothing to do with the signal
  pub branch_skip : (marks : List Bool) → Blocked cs marks (set row i (sign false i)) → get_or marks i false ≡ false → Blocked cs marks row
  branch_skip marks blocked clear = subst (Blocked cs marks) (reopened false) (blocked_unmarked cs marks (set row i (sign false i)) i clear blocked)

  agrees_branch : (marks marks' : List Bool) (a : ℕ → Bool) (v : Bool) → a (suc i) ≡ v → ((k : ℕ) → k < length row → get_or marks k false ≡ true → get_or marks' k false ≡ true) → AgreesOn marks' row a → AgreesOn marks (set row i (sign v i)) a
  agrees_branch marks marks' a v is grows agrees k hk m e =
      let inside : k < length row = subst (λ n. k < n) (length-set row i (sign v i)) hk in
      ⊎_elim
      (λ (same : k ≡ i). ap (λ j. literal a (at (set row i (sign v i)) j)) same ∙ ap (literal a) (get_or-set_same row i (sign v i) (pos 0) fork.within) ∙ either a v is)
      (λ (other : k ≡ i → ⊥).
      let word : at (set row i (sign v i)) k ≡ at row k = get_or-set_other row i k (sign v i) (pos 0) other in
      ap (literal a) word ∙ agrees k inside (grows k inside m) (sym (ap nat_abs word) ∙ e))
      (cases_eq k i)

  -- both tries failed
  pub branch_both : (first second marks : List Bool) → Blocked cs first (set row i (sign false i)) → Blocked cs second (set row i (sign true i))
      → ((k : ℕ) → k < length row → get_or first k false ≡ true → get_or marks k false ≡ true) → ((k : ℕ) → k < length row → get_or second k false ≡ true → get_or marks k false ≡ true) → Blocked cs marks row
  branch_both first second marks blocked₁ blocked₂ grows₁ grows₂ a meets agrees = by (a (suc i)) refl
    where
      by : (v : Bool) → a (suc i) ≡ v → ⊥
      by true is = blocked₂ a meets (agrees_branch second marks a true is grows₂ agrees)
      by false is = blocked₁ a meets (agrees_branch first marks a false is grows₁ agrees)

-- the same place of the trail is noted again
pub front_again : (top i : ℕ) (trail' trail : List ℕ) → take (top + 1) trail' ≡ take (top + 1) (set trail top i) → take (top + 1) (set trail' top i) ≡ take (top + 1) (set trail top i)
front_again top i trail' trail e =
    let h : top < top + 1 = omega arith in
    take-set-lt (top + 1) trail' top i h ∙ ap (λ l. set l top i) e ∙ sym (take-set-lt (top + 1) (set trail top i) top i h) ∙ ap (take (top + 1)) (set-set trail top i i)
