use Rattle.std.proofs.Common.{◌≡◌, ℕ, ◌-◌, ◌<◌, ◌≤◌, Bool, true, List, length, set, ℤ, nat_abs, sym, ap, ◌∙◌, subst, inl, inr, ⊎_elim, arith, w32, SFits, rules}
use Rattle.std.specs.List.{AllByRecursion}
use Rattle.std.proofs.lemmas.List.{length-set}
use Rattle.std.proofs.lemmas.Int.{to_z-of_z}
use Rattle.pool.specs.Records.{Literal}
use Rattle.pool.specs.Chains.{records_of}
use Rattle.engine.specs.Truth.{clause, chain}
use Rattle.engine.proofs.Truths.{chain_parts}
use Rattle.propagation.specs.Steps.{Alive, Silent, Weighed}
use Rattle.propagation.proofs.Growing.{opens_pos}
use Rattle.propagation.proofs.Growth.{grown_forced, blocked_fails, traced_from}
use Rattle.propagation.proofs.units.propagate.Goals as goal

pub explain-requires : goal.explain-requires
explain-requires c =
    let cs = records_of c.args.chain in
    let row = c.records.values in
    let xs = c.in-Some.numbers.now in
    let grown = c.records.invariant.0 _ _ c.rounds.invariant in
    let counted = grown.noted.counted in
    let same = c.records.invariant.2 in
    let signalled = c.requires.signalled in
    let room = c.requires.room in
    let space = c.requires.space in
    let literals : AllByRecursion (Literal (length row)) xs = subst (λ n. AllByRecursion (Literal n) xs) same c.in-Some.ensures.literals in
    let member : (a : ℕ → Bool) → chain a cs ≡ true → clause a xs ≡ true =
    λ a meets. (chain_parts a (records_of c.records.rest) xs (records_of c.next.new.self) c.in-Some.ensures.records (c.records.invariant.3 a meets)).0 in
    let blocked = blocked_fails cs c.mark_signals.new.marks row xs grown.noted.shaped literals c.mark_signals.ensures.marked c.in-Fails.ensures member in
    let wide : length row ≤ length c.mark_signals.new.marks = search rules in
    traced_from c.args.chain.signals cs c.args.values.now c.args.trail.now c.args.mark row c.records.trail c.records.top c.mark_signals.new.marks (omega arith) wide (omega arith) grown blocked

pub assign-requires : goal.assign-requires
assign-requires c =
    let fits : SFits w32 c.in-Forces.x = search rules in
    let forced = c.in-Forces.ensures in
    let low = forced.named.0 in
    let high = forced.named.1 in
    let noted = (c.records.invariant.0 _ _ c.rounds.invariant).noted in
    let counted = noted.counted in
    let some = opens_pos c.records.values (nat_abs c.in-Forces.x - 1) (omega arith) forced.unset in
    let room = c.requires.room in
    simp to_z-of_z ((low, high), omega arith)

pub records-preserved-in-Forces : goal.records-preserved-in-Forces
records-preserved-in-Forces c =
    let cs = records_of c.args.chain in
    let row = c.records.values in
    let trail = c.records.trail in
    let xs = c.in-Some.numbers.now in
    let x = c.in-Forces.x in
    let fits : SFits w32 c.in-Forces.x = search rules in
    let forced = c.in-Forces.ensures in
    let low = forced.named.0 in
    let high = forced.named.1 in
    let row' : c.assign.new.values ≡ set row (nat_abs x - 1) x = simp to_z-of_z at c.assign.ensures.row in
    let trail' : c.assign.new.trail ≡ set trail c.records.top (nat_abs x - 1) = simp to_z-of_z at c.assign.ensures.place in
    let counted = (c.records.invariant.0 _ _ c.rounds.invariant).noted.counted in
    let some = opens_pos row (nat_abs x - 1) (omega arith) forced.unset in
    let room = c.requires.room in
    let later = c.records.invariant.1 in
    let space : c.records.top < length trail = omega arith in
    let same = c.records.invariant.2 in
    let same' = c.in-Some.ensures.same.0 in
    let long : length c.assign.new.values ≡ length row = ap length row' ∙ length-set row (nat_abs x - 1) x in
    let literals : AllByRecursion (Literal (length row)) xs = subst (λ n. AllByRecursion (Literal n) xs) same c.in-Some.ensures.literals in
    let silent = λ (r : List ℤ) (j : ℕ) (all : AllByRecursion (Silent r j) cs). subst (AllByRecursion (Silent r j)) c.in-Some.ensures.records (c.records.invariant.5 r j all) in
    let parts = λ (a : ℕ → Bool). chain_parts a (records_of c.records.rest) xs (records_of c.next.new.self) c.in-Some.ensures.records in (
      (λ row₀ trail₀ g.
          rw (row', trail')
          (grown_forced cs row₀ trail₀ c.args.mark row trail c.records.top x xs (c.records.invariant.0 row₀ trail₀ g) forced literals (λ a meets. (parts a (c.records.invariant.3 a meets)).0) (λ j all. (silent row₀ j all).0) space)),
      omega arith,
      same' ∙ same ∙ sym long,
      (λ a meets. (parts a (c.records.invariant.3 a meets)).1),
      (λ e. absurd (omega arith)),
      (λ r j all. (silent r j all).1),
    )

pub records-preserved : goal.records-preserved
records-preserved c =
    let row = c.records.values in
    let xs = c.in-Some.numbers.now in
    let is = c.in-Some.ensures.records in
    let silent = λ (r : List ℤ) (j : ℕ) (all : AllByRecursion (Silent r j) (records_of c.args.chain)). subst (AllByRecursion (Silent r j)) is (c.records.invariant.5 r j all) in
    let alive : Alive row xs = ⊎_elim (λ is. inl (subst (Weighed row xs) is c.weigh.ensures)) (λ is. inr (subst (Weighed row xs) is c.weigh.ensures)) c.in-Holds.is in (
      c.records.invariant.0,
      c.records.invariant.1,
      c.in-Some.ensures.same.0 ∙ c.records.invariant.2,
      (λ a meets. (chain_parts a (records_of c.records.rest) xs (records_of c.next.new.self) is (c.records.invariant.3 a meets)).1),
      (λ e all. c.records.invariant.4 e (subst (AllByRecursion (Alive row)) (sym is) (alive, all))),
      (λ r j all. (silent r j all).1),
    )
