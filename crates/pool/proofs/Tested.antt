-- The tests of soundness say what soundness does. Assumes nothing.
use Rattle.std.proofs.Common.{◌≡◌, ℕ, zero, suc, ◌+◌, Bool, true, false, ◌&&◌, T, ltb, leb, List, [], ◌∷◌, length, ℤ, pos, nat_abs, refl, arith}
use lib.Signed.{le_z, le_z_yes}
use Rattle.std.specs.List.{All, AllByRecursion}
use Rattle.std.proofs.lemmas.List.Elements.{All-from_recursion}
use Rattle.std.proofs.lemmas.Bool.{false≢true, and_parts, and_from, leb-true, le-leb, ltb-true, lt-ltb, eqb-true, eq-eqb}
use Rattle.pool.specs.declared.chain.Chain.{Chain}
use Rattle.pool.specs.Chains.{records_of}
use Rattle.pool.specs.Layout.{word_at, next_at, count_at, numbers_at, Lies}
use Rattle.pool.specs.Records.{records, Literal, Whole, Linked}
use Rattle.pool.proofs.Chains.{whole_at, rest_at, records_step, records_literals}
use Rattle.pool.specs.Tests.{are_literals, is_whole, is_linked}

test_from_sign : (b : Bool) → T b → b ≡ true
test_from_sign true t = refl
test_from_sign false t = elim t [ ]

sign_from_test : (b : Bool) → b ≡ true → T b
sign_from_test true e = tt
sign_from_test false e = false≢true e

literals_from_test : (s : ℕ) (xs : List ℤ) → are_literals s xs ≡ true → AllByRecursion (Literal s) xs
literals_from_test s [] e = tt
literals_from_test s (x ∷ xs) e =
    let both = and_parts (ltb 0 (nat_abs x) && leb (nat_abs x) s) (are_literals s xs) e in
    let here = and_parts (ltb 0 (nat_abs x)) (leb (nat_abs x) s) both.0 in
    ((ltb-true 0 (nat_abs x) here.0, leb-true (nat_abs x) s here.1), literals_from_test s xs both.1)

test_from_literals : (s : ℕ) (xs : List ℤ) → AllByRecursion (Literal s) xs → are_literals s xs ≡ true
test_from_literals s [] h = refl
test_from_literals s (x ∷ xs) h =
    and_from _ _ (and_from _ _ (lt-ltb 0 (nat_abs x) h.0.0) (le-leb (nat_abs x) s h.0.1)) (test_from_literals s xs h.1)

module _ (s : ℕ) (pool : List ℤ) (used : ℕ) where
  whole_from_test : (p : ℕ) → is_whole s pool used p ≡ true → Whole s pool used p
  whole_from_test p e =
      let both = and_parts _ _ e in
      let place = and_parts _ _ both.0 in
      let signs = and_parts _ _ place.1 in
      let more = and_parts _ _ both.1 in
      record {
        lies = record {
          ends = leb-true (p + 2 + count_at pool p) used place.0;
          next_sign = le_z_yes (sign_from_test (le_z (pos 0) (word_at pool p)) signs.0);
          count_sign = le_z_yes (sign_from_test (le_z (pos 0) (word_at pool (p + 1))) signs.1);
        };
        falls = ltb-true (next_at pool p) p more.0;
        literals = literals_from_test s (numbers_at pool p) more.1;
      }

  test_from_whole : (p : ℕ) → Whole s pool used p → is_whole s pool used p ≡ true
  test_from_whole p w =
      and_from _ _
      (and_from _ _ (le-leb _ _ w.lies.ends) (and_from _ _ (test_from_sign _ w.lies.next_sign.le) (test_from_sign _ w.lies.count_sign.le)))
      (and_from _ _ (lt-ltb _ _ w.falls) (test_from_literals s (numbers_at pool p) w.literals))

  pub linked_from_test : (f p : ℕ) → is_linked f s pool used p ≡ true → Linked f s pool used p
  linked_from_test zero p e = eqb-true p 0 e
  linked_from_test (suc f) zero e = tt
  linked_from_test (suc f) (suc q) e =
      let both = and_parts _ _ e in
      (whole_from_test (suc q) both.0, linked_from_test f (next_at pool (suc q)) both.1)

  pub test_from_linked : (f p : ℕ) → Linked f s pool used p → is_linked f s pool used p ≡ true
  test_from_linked zero p l = eq-eqb p 0 l
  test_from_linked (suc f) zero l = refl
  test_from_linked (suc f) (suc q) l =
      and_from _ _ (test_from_whole (suc q) l.0) (test_from_linked f (next_at pool (suc q)) l.1)

-- what reading the record at p of a chain that passed the test gives
pub record Read (s : ℕ) (pool : List ℤ) (p : ℕ) : Type 0 where
  pub lies : Lies pool p (length pool)
  pub linked : is_linked (next_at pool p) s pool (length pool) (next_at pool p) ≡ true
  pub steps : records pool p ≡ numbers_at pool p ∷ records pool (next_at pool p)
  pub literals : AllByRecursion (Literal s) (numbers_at pool p)

pub read_from_test : (s : ℕ) (pool : List ℤ) (p : ℕ) → (p ≡ 0 → ⊥) → is_linked p s pool (length pool) p ≡ true → Read s pool p
read_from_test s pool p some e =
    let used = length pool in
    let linked = linked_from_test s pool used p p e in
    record {
      lies = (whole_at s pool used p some linked).lies;
      linked = test_from_linked s pool used (next_at pool p) (next_at pool p) (rest_at s pool used p some linked);
      steps = records_step s pool used p (omega arith) linked;
      literals = (whole_at s pool used p some linked).literals;
    }

-- each record of a chain names signals
pub literals_of : (c : Chain) → All (AllByRecursion (Literal c.signals)) (records_of c)
literals_of c =
    All-from_recursion (AllByRecursion (Literal c.signals)) (records_of c)
    (records_literals c.signals c.words.now (length c.words.now) c.at c.at (linked_from_test c.signals c.words.now (length c.words.now) c.at c.at c.sound))
