-- A formula is read exactly when the text writes it.
use Rattle.std.proofs.Common.{◌≡◌, ℕ, suc, ◌+◌, ◌<◌, ◌≤◌, Bool, true, false, cond, not, ◌&&◌, T, eqb, ◌↔◌, List, [], ◌∷◌, ◌++◌, length, get_or, pos, nat_abs, Some, None, Ok, Err, sym, refl, ap, ◌∙◌, subst, ⊎_elim, arith}
use Rattle.std.proofs.lemmas.Bool.{cond-true, cond-false, cases_lt, eqb-true, eq-eqb, ne_eqb, le-ltb, lt-ltb, and_parts, and_from, or_cases, or_left, or_right, not_from_false}
use Rattle.formula.specs.declared.side.Side.{Side}
use Rattle.formula.specs.declared.side.Side.TheVariants.{Ours, Device}
use Rattle.formula.specs.Lists.{elem, each, from, All}
use Rattle.formula.specs.Game.{Qbf, Clauses}
use Rattle.formula.specs.Sides.{side_at, same_side}
use Rattle.formula.specs.Found.{variables_of}
use Rattle.formula.specs.Built.{Built, blank, empty_level, last_side, ends_well, may_finish}
use Rattle.formula.specs.Model.{qbf_of}
use Rattle.formula.proofs.Tests.{is_true, dec}
use Rattle.formula.proofs.Tests.{or_cases as either}
use Rattle.formula.proofs.Members.{all_map}
use Rattle.formula.proofs.Zeros.{zeros_at, zeros_le}
use Rattle.reader.specs.Grammar.{Block, Source, Accepted, all_variables, Alternate, LastBlockOurs, first_of, formula_of, ascending}
use Rattle.reader.specs.declared.comments.Lead.{Lead}
use Rattle.reader.specs.declared.comments.Lead.TheVariants.{Line, Blanks, Comment}
use Rattle.reader.specs.Comments.{past, words_from, text_words}
use Rattle.reader.specs.Words.{Word, words}
use Rattle.reader.specs.Text.{between, of_device, headed, reads}
use Rattle.reader.specs.Grammar.{Says, Spaced, Spells, Writes, Blocks, ClauseWords, Numeral}
use Rattle.reader.specs.declared.faults.WordFault.TheVariants.{TooLong}
use Rattle.reader.specs.declared.faults.TextFault.TheVariants.{Word as Fault}
use Rattle.reader.specs.Taking.{TakesBlocks, TakesClauses}
use Rattle.reader.proofs.Spacing.{bytes_of, words_of_spaced, spaced_words}
use Rattle.reader.proofs.Preambles.{Early, through_preamble, to_word, preamble_found}
use Rattle.reader.proofs.Spelled.{reads_blocks, reads_clauses}
use Rattle.reader.proofs.Headers.{enters_clauses, reads_header}
use Rattle.reader.proofs.Traced.{no_fault, traced, Whole, Tail}
use Rattle.reader.proofs.HeaderTraced.{Headed, header_traced}
use Rattle.reader.proofs.Bindings.{free_distinct, distinct_free}
use Rattle.reader.proofs.Leveling.{bound_to, not_bound, is_bound, levels_are}
use Rattle.reader.proofs.BlocksTaken.{After, last_after, first_after, Took, took, takes}
use Rattle.reader.proofs.ClausesTaken.{OfBound, clauses_to, clauses_taken, takes_clauses}

-- an empty start
blank_room : (v : ℕ) → v ≤ 256 → (blank v).variables < length (blank v).bound
blank_room v h = omega arith

-- sides in order
alternate_after : (σ : Side) (l : Block) (ls : List Block) → l.side ≡ σ → After (Some σ) ls → Alternate (l ∷ ls)
alternate_after σ l [] e a = tt
alternate_after σ l (k ∷ ls) e (d, a) = ((λ s. d (sym e ∙ s)), alternate_after k.side k ls refl a)

pub after_alternate : (ls : List Block) → After None ls → Alternate ls
after_alternate [] a = tt
after_alternate (l ∷ ls) a = alternate_after l.side l ls refl a

after_one : (l : Block) (ls : List Block) → Alternate (l ∷ ls) → After (Some l.side) ls
after_one l [] a = tt
after_one l (k ∷ ls) (d, a) = (d, after_one k ls a)

pub alternate_is_after : (ls : List Block) → Alternate ls → After None ls
alternate_is_after [] a = tt
alternate_is_after (l ∷ ls) a = after_one l ls a

last_ours : (l : Block) (ls : List Block) → last_after (Some l.side) ls ≡ Some Ours → LastBlockOurs (l ∷ ls)
last_ours l [] e = cc
last_ours l (k ∷ ls) e = last_ours k ls e

ours_last : (l : Block) (ls : List Block) → LastBlockOurs (l ∷ ls) → last_after (Some l.side) ls ≡ Some Ours
ours_last l [] e = ap Some e
ours_last l (k ∷ ls) e = ours_last k ls e

first_is : (ls : List Block) → first_after Ours ls ≡ first_of ls
first_is [] = refl
first_is (l ∷ ls) = refl

-- the formula that is built is the one that is written
module _ (v : ℕ) (few : v ≤ 256) (ls : List Block) (b : Built) (t : Took ls (blank v) b) where
  pub built_is : (cs : Clauses) → qbf_of (clauses_to cs b) ≡ formula_of (record { variables = v; blocks = ls; clauses = cs })
  built_is cs =
      let L : length ls ≡ b.levels = sym (t.levels ∙ omega arith) in
      ap (λ x. make x b.first (each (variables_of x b.bound) (from 1 b.levels)) (b.clauses ++ cs)) t.variables
      ∙ ap (λ x. make v x (each (variables_of v b.bound) (from 1 b.levels)) (b.clauses ++ cs)) (t.first ∙ first_is ls)
      ∙ ap (λ x. make v (first_of ls) (each (variables_of v x) (from 1 b.levels)) (b.clauses ++ cs)) t.bound
      ∙ ap (λ x. make v (first_of ls) (each (variables_of v (bound_to 0 ls (blank v).bound)) (from 1 x)) (b.clauses ++ cs)) (sym L)
      ∙ ap (λ x. make v (first_of ls) x (b.clauses ++ cs)) (levels_are v 0 ls (blank v).bound (blank_room v few) (λ u. zeros_le 257 u 0) t.free)
      ∙ ap (λ x. make v (first_of ls) (each (λ (l : Block). ascending v l.variables) ls) (x ++ cs)) t.clauses
    where
      make : ℕ → Side → List (List ℕ) → Clauses → Qbf
      make n σ ls cs = record { variables = n; first = σ; levels = ls; clauses = cs }

  -- the variables that are bound are those of the blocks
  bound_elem : (u : ℕ) → u ≤ v → 0 < get_or b.bound u 0 → T (elem u (all_variables ls))
  bound_elem u h some =
      ⊎_elim (λ e. e)
      (λ n. let z : get_or b.bound u 0 ≡ 0 = ap (λ x. get_or x u 0) t.bound ∙ not_bound 0 ls (blank v).bound u (omega (arith, blank_room v few)) n ∙ zeros_at 257 u in absurd (omega arith))
      (dec (elem u (all_variables ls)))

  elem_bound : (u : ℕ) → u ≤ v → T (elem u (all_variables ls)) → 0 < get_or b.bound u 0
  elem_bound u h e = let s : get_or b.bound u 0 ≡ get_or (bound_to 0 ls (blank v).bound) u 0 = ap (λ x. get_or x u 0) t.bound in omega (arith, is_bound 0 ls (blank v).bound u (omega (arith, blank_room v few)) e)

  pub literals_bound : (cs : Clauses) → All (λ c. All (OfBound b) c) cs → All (λ c. All (λ l. T (elem (nat_abs l) (all_variables ls))) c) cs
  literals_bound cs a =
      all_map (λ c. All (OfBound b) c) (λ c. All (λ l. T (elem (nat_abs l) (all_variables ls))) c) cs
      (λ c. all_map (OfBound b) (λ l. T (elem (nat_abs l) (all_variables ls))) c (λ l o. bound_elem (nat_abs l) (omega (arith, o.0, t.variables)) o.1)) a

  pub bound_literals : (cs : Clauses) → All (λ u. (0 < u) × (u ≤ v)) (all_variables ls) → All (λ c. All (λ l. T (elem (nat_abs l) (all_variables ls))) c) cs → All (λ c. All (OfBound b) c) cs
  bound_literals cs declared a =
      all_map (λ c. All (λ l. T (elem (nat_abs l) (all_variables ls))) c) (λ c. All (OfBound b) c) cs
      (λ c. all_map (λ l. T (elem (nat_abs l) (all_variables ls))) (OfBound b) c (λ l e. let d = member (all_variables ls) (nat_abs l) declared e in (omega (arith, d.1, t.variables), elem_bound (nat_abs l) d.1 e))) a
    where
      member : (us : List ℕ) (u : ℕ) → All (λ u. (0 < u) × (u ≤ v)) us → T (elem u us) → (0 < u) × (u ≤ v)
      member [] u h e = absurd e
      member (x ∷ us) u h e = ⊎_elim (λ s. subst (λ y. (0 < y) × (y ≤ v)) (sym (eqb-true u x (is_true (eqb u x) s))) h.0) (λ s. member us u h.1 s) (either (eqb u x) (elem u us) e)

  last_side_lem : last_side b ≡ last_after None ls
  last_side_lem = t.last

  -- the end is well exactly when the last block is ours
  pub ends_ours : (l : Block) (ks : List Block) → ls ≡ l ∷ ks → ends_well b ≡ true → LastBlockOurs ls
  ends_ours l ks e w =
      let long : length ls ≡ suc (length ks) = ap length e in
      let some : b.levels ≡ suc (length ks) = omega (arith, t.levels) in
      let nz : b.levels ≡ 0 → ⊥ = λ z. omega arith in
      let p : (same_side (side_at b.first b.levels) Ours && not (empty_level b)) ≡ true = ⊎_elim (λ z. absurd (nz (eqb-true b.levels 0 z))) (λ h. h) (or_cases (eqb b.levels 0) _ w) in
      let s : side_at b.first b.levels ≡ Ours = is_ours (side_at b.first b.levels) (and_parts _ _ p).0 in
      let last : last_side b ≡ Some Ours = cond-false _ _ _ (ne_eqb b.levels 0 nz) ∙ ap Some s in
      subst LastBlockOurs (sym e) (last_ours l ks (ap (last_after None) (sym e) ∙ sym last_side_lem ∙ last))
    where
      is_ours : (σ : Side) → same_side σ Ours ≡ true → σ ≡ Ours
      is_ours Ours h = refl
      is_ours Device h = let z : ◌≡◌ {A = ℕ} 0 1 = cc in absurd (omega arith)

  pub ours_ends : LastBlockOurs ls → (ends_well b ≡ true) × (of_device (last_side b) ≡ false)
  ours_ends o = by_list ls refl
    where
      some_side : (x : Bool) (σ : Side) → cond x None (Some σ) ≡ Some Ours → (x ≡ false) × (σ ≡ Ours)
      some_side true σ h = let z : ◌≡◌ {A = ℕ} 0 1 = cc in absurd (omega arith)
      some_side false σ h = (refl, cc)

      by_list : (ks : List Block) → ls ≡ ks → (ends_well b ≡ true) × (of_device (last_side b) ≡ false)
      by_list [] e =
          let short : length ls ≡ 0 = ap length e in
          let z : b.levels ≡ 0 = omega (arith, t.levels) in
          (or_left (eqb b.levels 0) _ (eq-eqb b.levels 0 z), ap of_device (last_side_lem ∙ ap (last_after None) e))
      by_list (l ∷ ks) e =
          let last : last_side b ≡ Some Ours = last_side_lem ∙ ap (last_after None) e ∙ ours_last l ks (subst LastBlockOurs e o) in
          let p = some_side (eqb b.levels 0) (side_at b.first b.levels) last in
          let full : empty_level b ≡ false = t.filled (let k : length ls ≡ suc (length ks) = ap length e in omega arith) in
          (or_right (eqb b.levels 0) _ (and_from _ _ (ap (λ σ. same_side σ Ours) p.1) (not_from_false _ full)), ap of_device last)

-- reading, from the words on
module _ (t : List ℕ) (short : length t ≤ 65536) where
  reads_words : reads t ≡ headed (length t) (text_words t)
  reads_words = cond-false _ _ _ (le-ltb 65536 (length t) short)

  -- the words of the text, from its bytes
  said_words : (ws : List (List ℕ)) → Says ((112 ∷ []) ∷ ws) t → bytes_of (text_words t) ≡ (112 ∷ []) ∷ ws
  said_words ws (front, body, e, p, s) =
      ap (λ x. bytes_of (words_from Line 0 x)) e
      ∙ ap bytes_of (through_preamble p body 0 ∙ first_word s)
      ∙ words_of_spaced ((112 ∷ []) ∷ ws) body (0 + length front) s
    where
      first_word : Spaced ((112 ∷ []) ∷ ws) body → words_from Line (0 + length front) body ≡ words (0 + length front) body
      first_word (gap, rest, blanks, is, f, apart, more) =
          ap (words_from Line (0 + length front)) f ∙ to_word gap 112 rest Line (0 + length front) tt blanks no_comment ∙ ap (words (0 + length front)) (sym f)
        where
          no_comment : (k : Lead) → Early k → past k 112 ≡ None
          no_comment Line h = refl
          no_comment Blanks h = refl
          no_comment Comment h = absurd h

  words_said : (w : Word) (ws : List Word) → text_words t ≡ w ∷ ws → Says (bytes_of (w ∷ ws)) t
  words_said w ws e =
      let f = preamble_found t w ws e in
      (f.0, f.1, f.2, f.3, subst (λ x. Spaced (bytes_of x) f.1) f.4 (spaced_words f.1 (0 + length f.0)))

-- a formula whose last level is well has no clause begun
finishes : (b : Built) → b.pending ≡ [] → ends_well b ≡ true → may_finish b ≡ true
finishes b none w = and_from _ _ (ap (λ p. eqb (length p) 0) none) w

finished : (b : Built) → may_finish b ≡ true → ends_well b ≡ true
finished b m = (and_parts _ _ m).1

module _ (v : ℕ) (few : v ≤ 256) (k : ℕ) (few-k : k ≤ 512) (q : Qbf) where
  -- what was taken is accepted
  accepted : (ls : List Block) (cs : Clauses) (b b' : Built) → length cs ≡ k → TakesBlocks ls (blank v) b → TakesClauses cs b b' → may_finish b' ≡ true → q ≡ qbf_of b'
      → Accepted (record { variables = v; blocks = ls; clauses = cs }) × (q ≡ formula_of (record { variables = v; blocks = ls; clauses = cs }))
  accepted ls cs b b' len blocks taken may is =
      let t : Took ls (blank v) b = took ls (blank v) b (blank_room v few) (λ u. zeros_le 257 u 0) blocks in
      let c = clauses_taken cs b b' t.pending taken in
      let well : ends_well b ≡ true = finished (clauses_to cs b) (ap may_finish c.0 ∙ may) in
      let d = free_distinct v (blank v).bound (all_variables ls) t.free in (
        record {
          few_variables = few;
          few_clauses = omega arith;
          few_blocks = omega (arith, t.few (omega arith), t.levels);
          few_literals = omega (arith, c.2 (omega (arith, t.literals)), t.literals);
          none_empty = t.none_empty;
          alternate = after_alternate ls t.after;
          last_ours = ours_or_none ls refl t well;
          declared = d.0;
          bound_once = d.1;
          all_bound = literals_bound v few ls b t cs c.1;
        },
        is ∙ ap qbf_of (sym c.0) ∙ built_is v few ls b t cs,
      )
    where
      ours_or_none : (ks : List Block) → ls ≡ ks → Took ls (blank v) b → ends_well b ≡ true → LastBlockOurs ls
      ours_or_none [] e t w = subst LastBlockOurs (sym e) tt
      ours_or_none (l ∷ ks) e t w = ends_ours v few ls b t l ks e w

-- what is read is written
pub read_is_written : (t : List ℕ) (q : Qbf) → reads t ≡ Ok q → Writes t q
read_is_written t q e = ⊎_elim (λ long. absurd (no_fault _ q (sym (cond-true _ _ _ (lt-ltb 65536 (length t) long)) ∙ e))) (λ short. (short, written short)) (cases_lt 65536 (length t))
  where
    written : length t ≤ 65536 → (ws : List (List ℕ)) × (s : Source) × Says ws t × Spells s ws × Accepted s × (q ≡ formula_of s)
    written short = by_words (text_words t) refl
      where
        by_words : (xs : List Word) → text_words t ≡ xs → (ws : List (List ℕ)) × (s : Source) × Says ws t × Spells s ws × Accepted s × (q ≡ formula_of s)
        by_words [] x = absurd (no_fault _ q (sym (reads_words t short ∙ ap (headed (length t)) x) ∙ e))
        by_words (w ∷ xs) x =
            let h : Headed (length t) q (w ∷ xs) = header_traced (length t) q (w ∷ xs) (sym (reads_words t short ∙ ap (headed (length t)) x) ∙ e) in
            let whole : Whole h.k (bytes_of h.left) (blank h.v) q = traced h.k (length t) h.left q between (blank h.v) h.reads in
            let tail : Tail h.k whole.1 whole.2 q = whole.5 in
            let a = accepted h.v h.few_variables h.k h.few_clauses q whole.0 tail.0 whole.2 tail.1 tail.2 whole.4 tail.4 tail.5 tail.6 in (
              bytes_of (w ∷ xs),
              record { variables = h.v; blocks = whole.0; clauses = tail.0 },
              words_said t short w xs x,
              record {
                variables_word = h.wn;
                clauses_word = h.wk;
                body = bytes_of h.left;
                middle = whole.1;
                header = h.is;
                variables = h.variables;
                clauses = subst (λ k. Numeral h.wk (pos k)) (sym tail.2) h.clauses;
                blocks = whole.3;
                rest = tail.3;
              },
              a.0,
              a.1,
            )

-- what is written is read
pub written_is_read : (t : List ℕ) (q : Qbf) → Writes t q → reads t ≡ Ok q
written_is_read t q (short, (ws, s, says, spells, acc, is)) =
    let v = s.variables in
    let ls = s.blocks in
    let cs = s.clauses in
    let n = length t in
    let said : bytes_of (text_words t) ≡ ws = said_words t short _ (subst (λ x. Says x t) spells.header says) ∙ sym spells.header in
    let head = reads_header n spells.variables_word spells.clauses_word spells.body v (length cs) spells.variables spells.clauses acc.few_variables acc.few_clauses (text_words t) (said ∙ spells.header) in
    let free = distinct_free v (blank v).bound (all_variables ls) (zeros_at 257) acc.declared acc.bound_once in
    let b = takes ls (blank v) (blank_room v acc.few_variables) (λ u. zeros_le 257 u 0) (omega (arith, acc.few_blocks)) (λ h. absurd (omega arith)) free acc.none_empty (alternate_is_after ls acc.alternate) in
    let t' = took ls (blank v) b.0 (blank_room v acc.few_variables) (λ u. zeros_le 257 u 0) b.1 in
    let well = ours_ends v acc.few_variables ls b.0 t' acc.last_ours in
    let blocks = reads_blocks ls head.0 spells.middle (blank v) b.0 (subst (λ x. Blocks ls x spells.middle) (sym head.1) spells.blocks) b.1 in
    let spelled : ClauseWords cs (bytes_of blocks.0) = subst (ClauseWords cs) (sym blocks.1) spells.rest in
    let taken = takes_clauses cs b.0 t'.pending (bound_literals v acc.few_variables ls b.0 t' cs acc.declared acc.all_bound) (omega (arith, t'.literals, acc.few_literals)) in
    reads_words t short
    ∙ head.2
    ∙ blocks.2 (length cs) n
    ∙ enters_clauses cs blocks.0 b.0 spelled well.1 (length cs) n
    ∙ reads_clauses cs blocks.0 b.0 (clauses_to cs b.0) spelled taken (finishes (clauses_to cs b.0) t'.pending well.0) (length cs) n
    ∙ ap Ok (built_is v acc.few_variables ls b.0 t' cs ∙ sym is)

pub reading_is_writing : (t : List ℕ) (q : Qbf) → (reads t ≡ Ok q) ↔ Writes t q
reading_is_writing t q = (read_is_written t q, written_is_read t q)

pub long_texts_refused : (t : List ℕ) → 65536 < length t → reads t ≡ Err (Fault TooLong)
long_texts_refused t h = cond-true _ _ _ (lt-ltb 65536 (length t) h)
