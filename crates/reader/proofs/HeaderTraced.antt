-- What is read as a formula begins with a header.
use Rattle.std.proofs.Common.{◌≡◌, ℕ, ◌≤◌, Bool, true, false, cond, ◌&&◌, eqb, ltb, List, [], ◌∷◌, length, ℤ, pos, negsuc, Ok, Err, codes, Result, sym, refl, ap, ◌∙◌, subst, arith}
use Rattle.std.proofs.lemmas.Bool.{and_parts, eqb-true}
use Rattle.std.proofs.lemmas.Bool.Decides.{nat_tests}
use Rattle.formula.specs.Game.{Qbf}
use Rattle.formula.specs.Built.{blank}
use Rattle.reader.specs.declared.faults.TextFault.TheVariants.{NoHeader, BadCount}
use Rattle.reader.specs.Words.{Word, said_of}
use Rattle.reader.specs.Text.{between, and_then, reading, p_due, is_cnf, cnf_due, counted, count_due, headed}
use Rattle.reader.specs.Grammar.{Numeral}
use Rattle.reader.proofs.Spacing.{bytes_of}
use Rattle.reader.proofs.WordKinds.{Kind, kind, a_letter, a_number, another}
use Rattle.reader.proofs.Traced.{no_fault}

both_went : {A B E : Type 0} (r : Result A E) (f : A → Result B E) (b : B) → and_then r f ≡ Ok b → (a : A) × (r ≡ Ok a) × (f a ≡ Ok b)
both_went (Ok a) f b h = (a, refl, h)
both_went (Err e) f b h = absurd (no_fault e b h)

passed : {A E : Type 0} (t : Bool) (a : A) (e : E) (b : A) → cond t (Ok a) (Err e) ≡ Ok b → t ≡ true
passed true a e b h = refl
passed false a e b h = absurd (no_fault e b h)

p_word : (w : Word) → Kind w → p_due (said_of w) ≡ Ok tt → w.bytes ≡ codes "p"
p_word w (a_letter x e s) h = e ∙ ap (λ y. y ∷ []) (eqb-true x 112 (passed (eqb x 112) tt (NoHeader w.place) tt (ap p_due (sym s) ∙ h)))
p_word w (a_number z e s) h = absurd (no_fault _ tt (ap p_due (sym s) ∙ h))
p_word w (another s) h = absurd (no_fault _ tt (ap p_due (sym s) ∙ h))

three_bytes : (w : List ℕ) → is_cnf w ≡ true → w ≡ codes "cnf"
three_bytes [] h = let z : ◌≡◌ {A = ℕ} 0 1 = cc in absurd (omega arith)
three_bytes (a ∷ []) h = let z : ◌≡◌ {A = ℕ} 0 1 = cc in absurd (omega arith)
three_bytes (a ∷ b ∷ []) h = let z : ◌≡◌ {A = ℕ} 0 1 = cc in absurd (omega arith)
three_bytes (a ∷ b ∷ c ∷ []) h =
    let p = and_parts (eqb a 99 && eqb b 110) (eqb c 102) h in
    let q = and_parts (eqb a 99) (eqb b 110) p.0 in
    let x : a ≡ 99 = eqb-true a 99 q.0 in
    let y : b ≡ 110 = eqb-true b 110 q.1 in
    let z : c ≡ 102 = eqb-true c 102 p.1 in
    cc
three_bytes (a ∷ b ∷ c ∷ d ∷ w) h =
    let long = (and_parts _ _ (and_parts _ _ (and_parts _ _ h).0).0).0 in
    let z : length (a ∷ b ∷ c ∷ d ∷ w) ≡ 3 = eqb-true (length (a ∷ b ∷ c ∷ d ∷ w)) 3 long in
    absurd (omega arith)

cnf_word : (w : Word) → Kind w → cnf_due (said_of w) ≡ Ok tt → w.bytes ≡ codes "cnf"
cnf_word w (a_letter x e s) h = absurd (no_fault _ tt (ap cnf_due (sym s) ∙ h))
cnf_word w (a_number z e s) h = absurd (no_fault _ tt (ap cnf_due (sym s) ∙ h))
cnf_word w (another s) h = three_bytes w.bytes (passed (is_cnf w.bytes) tt (NoHeader w.place) tt (ap cnf_due (sym s) ∙ h))

counted_value : (limit at : ℕ) (z : ℤ) (v : ℕ) → counted limit at z ≡ Ok v → (z ≡ pos v) × (v ≤ limit)
counted_value limit at (negsuc u) v h = absurd (no_fault _ v h)
counted_value limit at (pos u) v h = by_test (ltb limit u) refl h
  where
    by_test : (t : Bool) → ltb limit u ≡ t → cond t (Err (BadCount at)) (Ok u) ≡ Ok v → (pos u ≡ pos v) × (v ≤ limit)
    by_test true m k = absurd (no_fault _ v k)
    by_test false m k = let s : u ≡ v = cc in (ap pos s, grind (arith, nat_tests))

count_word : (limit : ℕ) (w : Word) (v : ℕ) → Kind w → count_due limit (said_of w) ≡ Ok v → Numeral w.bytes (pos v) × (v ≤ limit)
count_word limit w v (a_letter x e s) h = absurd (no_fault _ v (ap (count_due limit) (sym s) ∙ h))
count_word limit w v (another s) h = absurd (no_fault _ v (ap (count_due limit) (sym s) ∙ h))
count_word limit w v (a_number z e s) h =
    let p = counted_value limit w.place z v (ap (count_due limit) (sym s) ∙ h) in
    (subst (Numeral w.bytes) p.0 e, p.1)

-- the parts of a header, and the words after it
pub record Headed (n : ℕ) (q : Qbf) (ws : List Word) : Type 0 where
  pub wn : List ℕ
  pub wk : List ℕ
  pub left : List Word
  pub v : ℕ
  pub k : ℕ
  pub is : bytes_of ws ≡ codes "p" ∷ codes "cnf" ∷ wn ∷ wk ∷ bytes_of left
  pub variables : Numeral wn (pos v)
  pub clauses : Numeral wk (pos k)
  pub few_variables : v ≤ 256
  pub few_clauses : k ≤ 512
  pub reads : reading k n between (blank v) left ≡ Ok q

pub header_traced : (n : ℕ) (q : Qbf) (ws : List Word) → headed n ws ≡ Ok q → Headed n q ws
header_traced n q [] h = absurd (no_fault _ q h)
header_traced n q (a ∷ []) h = let x = both_went (p_due (said_of a)) _ q h in absurd (no_fault _ q x.2)
header_traced n q (a ∷ b ∷ []) h =
    let x = both_went (p_due (said_of a)) _ q h in
    let y = both_went (cnf_due (said_of b)) _ q x.2 in
    absurd (no_fault _ q y.2)
header_traced n q (a ∷ b ∷ c ∷ []) h =
    let x = both_went (p_due (said_of a)) _ q h in
    let y = both_went (cnf_due (said_of b)) _ q x.2 in
    let z = both_went (count_due 256 (said_of c)) _ q y.2 in
    absurd (no_fault _ q z.2)
header_traced n q (a ∷ b ∷ c ∷ d ∷ ws) h =
    let x = both_went (p_due (said_of a)) _ q h in
    let y = both_went (cnf_due (said_of b)) _ q x.2 in
    let z = both_went (count_due 256 (said_of c)) _ q y.2 in
    let u = both_went (count_due 512 (said_of d)) _ q z.2 in
    let nv = count_word 256 c z.0 (kind c) z.1 in
    let nk = count_word 512 d u.0 (kind d) u.1 in
    let p : a.bytes ≡ codes "p" = p_word a (kind a) x.1 in
    let f : b.bytes ≡ codes "cnf" = cnf_word b (kind b) y.1 in
    record {
      wn = c.bytes;
      wk = d.bytes;
      left = ws;
      v = z.0;
      k = u.0;
      is = ap (λ e. e ∷ b.bytes ∷ c.bytes ∷ d.bytes ∷ bytes_of ws) p ∙ ap (λ e. codes "p" ∷ e ∷ c.bytes ∷ d.bytes ∷ bytes_of ws) f;
      variables = nv.0;
      clauses = nk.0;
      few_variables = nv.1;
      few_clauses = nk.1;
      reads = u.2;
    }
