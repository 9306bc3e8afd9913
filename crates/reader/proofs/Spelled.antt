-- Words that spell blocks and clauses which are taken are read so.
use Rattle.std.proofs.Common.{◌≡◌, ℕ, suc, ◌<◌, true, false, List, [], ◌∷◌, length, ℤ, pos, nat_abs, Some, Ok, sym, refl, ap, ◌∙◌, subst, arith}
use Rattle.std.proofs.lemmas.Bool.{cond-true, cond-false, ne_eqb}
use Rattle.formula.specs.declared.side.Side.{Side}
use Rattle.formula.specs.declared.side.Side.TheVariants.{Ours, Device}
use Rattle.formula.specs.Lists.{each}
use Rattle.formula.specs.Game.{Clauses}
use Rattle.formula.specs.Built.{Built, may_start, started, binding, bind_to, adding, add_to, closed, empty_level, may_finish}
use Rattle.formula.specs.Model.{qbf_of}
use Rattle.reader.specs.Words.{Word, said_of, rest}
use Rattle.reader.specs.Text.{Place, between, in_block, clauses, and_then, block_side, bound_at, added_at, between_step, step, reading}
use Rattle.reader.specs.Grammar.{Numeral, Listed, Block, letter_of, Blocks, ClauseWords}
use Rattle.reader.specs.Taking.{Binds, TakesBlocks, Adds, TakesClauses}
use Rattle.reader.proofs.Spacing.{bytes_of}
use Rattle.reader.proofs.WordKinds.{said_number}

-- a step that goes on
pub goes_on : (k n : ℕ) (p : Place) (b : Built) (w : Word) (ws : List Word) (p' : Place) (b' : Built) → step k p b (said_of w) ≡ Ok (p', b') → reading k n p b (w ∷ ws) ≡ reading k n p' b' ws
goes_on k n p b w ws p' b' e = ap (λ r. and_then r (λ next. reading k n next.0 next.1 ws)) e

-- the words that are left after a part, with what they are bytes of
abbrev Leaves : List (List ℕ) → (List Word → Type 0) → Type 0
Leaves after P = (ws : List Word) × (bytes_of ws ≡ after) × P ws

block_number : (k : ℕ) (b : Built) (w : Word) (v : ℕ) → Numeral w.bytes (pos v) → 0 < v → binding v b ≡ Ok (bind_to v b) → step k in_block b (said_of w) ≡ Ok (in_block, bind_to v b)
block_number k b w v e h t =
    ap (step k in_block b) (said_number w (pos v) e) ∙ cond-false _ _ _ (ne_eqb v 0 (λ z. omega arith)) ∙ ap (bound_at w.place) t

block_end : (k : ℕ) (b : Built) (w : Word) → Numeral w.bytes (pos 0) → empty_level b ≡ false → step k in_block b (said_of w) ≡ Ok (between, b)
block_end k b w e h = ap (step k in_block b) (said_number w (pos 0) e) ∙ cond-false _ _ _ h

pub reads_block : (vs : List ℕ) (ws : List Word) (after : List (List ℕ)) (b b' : Built) → Listed (each pos vs) (bytes_of ws) after → Binds vs b b' → empty_level b' ≡ false
    → Leaves after (λ left. (k n : ℕ) → reading k n in_block b ws ≡ reading k n between b' left)
reads_block vs [] after b b' l t e = absurd (nothing vs l)
  where
    nothing : (vs : List ℕ) → Listed (each pos vs) [] after → ⊥
    nothing [] h = h
    nothing (v ∷ vs) h = h
reads_block [] (w ∷ ws) after b b' l t e =
    (ws, l.1, λ k n. goes_on k n in_block b w ws between b (block_end k b w l.0 (ap empty_level t ∙ e)) ∙ ap (λ x. reading k n between x ws) t)
reads_block (v ∷ vs) (w ∷ ws) after b b' l t e =
    let more = reads_block vs ws after (bind_to v b) b' l.2 t.1 e in
    (more.0, more.1, λ k n. goes_on k n in_block b w ws in_block (bind_to v b) (block_number k b w v l.0 l.1 t.0) ∙ more.2 k n)

-- a block's letter
letter_said : (w : Word) (σ : Side) → w.bytes ≡ letter_of σ → block_side (said_of w) ≡ Some σ
letter_said w Ours e = ap (λ x. block_side (said_of (record { bytes = x; place = w.place }))) e
letter_said w Device e = ap (λ x. block_side (said_of (record { bytes = x; place = w.place }))) e

starts : (k : ℕ) (b : Built) (w : Word) (σ : Side) → w.bytes ≡ letter_of σ → may_start σ b ≡ true → step k between b (said_of w) ≡ Ok (in_block, started σ b)
starts k b w σ e h = ap (between_step k b (said_of w)) (letter_said w σ e) ∙ cond-true _ _ _ h

pub reads_blocks : (ls : List Block) (ws : List Word) (after : List (List ℕ)) (b b' : Built) → Blocks ls (bytes_of ws) after → TakesBlocks ls b b'
    → Leaves after (λ left. (k n : ℕ) → reading k n between b ws ≡ reading k n between b' left)
reads_blocks [] ws after b b' s t = (ws, s, λ k n. ap (λ x. reading k n between x ws) t)
reads_blocks (l ∷ ls) [] after b b' s t = absurd s
reads_blocks (l ∷ ls) (w ∷ ws) after b b' (e, (mid, listed, more)) (may, (built, binds, some, rest)) =
    let one = reads_block l.variables ws mid (started l.side b) built listed binds some in
    let others = reads_blocks ls one.0 after built b' (subst (λ x. Blocks ls x after) (sym one.1) more) rest in
    (others.0, others.1, λ k n. goes_on k n between b w ws in_block (started l.side b) (starts k b w l.side e may) ∙ one.2 k n ∙ others.2 k n)

-- a clause
clause_number : (k c : ℕ) (b : Built) (w : Word) (z : ℤ) → Numeral w.bytes z → 0 < nat_abs z → adding z b ≡ Ok (add_to z b) → step k (clauses (suc c)) b (said_of w) ≡ Ok (clauses (suc c), add_to z b)
clause_number k c b w z e h t = ap (step k (clauses (suc c)) b) (said_number w z e) ∙ cond-false _ _ _ (ne_eqb (nat_abs z) 0 (λ y. omega arith)) ∙ ap (added_at (suc c) w.place) t

clause_end : (k c : ℕ) (b : Built) (w : Word) → Numeral w.bytes (pos 0) → step k (clauses (suc c)) b (said_of w) ≡ Ok (clauses c, closed b)
clause_end k c b w e = ap (step k (clauses (suc c)) b) (said_number w (pos 0) e)

pub reads_clause : (ls : List ℤ) (ws : List Word) (after : List (List ℕ)) (b b' : Built) → Listed ls (bytes_of ws) after → Adds ls b b'
    → Leaves after (λ left. (k n c : ℕ) → reading k n (clauses (suc c)) b ws ≡ reading k n (clauses c) (closed b') left)
reads_clause ls [] after b b' l t = absurd (nothing ls l)
  where
    nothing : (ls : List ℤ) → Listed ls [] after → ⊥
    nothing [] h = h
    nothing (v ∷ vs) h = h
reads_clause [] (w ∷ ws) after b b' l t = (ws, l.1, λ k n c. goes_on k n (clauses (suc c)) b w ws (clauses c) (closed b) (clause_end k c b w l.0) ∙ ap (λ x. reading k n (clauses c) (closed x) ws) t)
reads_clause (z ∷ ls) (w ∷ ws) after b b' l t =
    let more = reads_clause ls ws after (add_to z b) b' l.2 t.1 in
    (more.0, more.1, λ k n c. goes_on k n (clauses (suc c)) b w ws (clauses (suc c)) (add_to z b) (clause_number k c b w z l.0 l.1 t.0) ∙ more.2 k n c)

no_words : (ws : List Word) → bytes_of ws ≡ [] → ws ≡ []
no_words [] e = refl
no_words (w ∷ ws) e = let z : ◌≡◌ {A = ℕ} 0 1 = cc in absurd (omega arith)

pub reads_clauses : (cs : Clauses) (ws : List Word) (b b' : Built) → ClauseWords cs (bytes_of ws) → TakesClauses cs b b' → may_finish b' ≡ true → (k n : ℕ) → reading k n (clauses (length cs)) b ws ≡ Ok (qbf_of b')
reads_clauses [] ws b b' s t may k n =
    ap (reading k n (clauses 0) b) (no_words ws s) ∙ ap (λ x. reading k n (clauses 0) x []) t ∙ cond-true _ _ _ may
reads_clauses (c ∷ cs) ws b b' (mid, listed, more) (built, adds, rest) may k n =
    let one = reads_clause c ws mid b built listed adds in
    one.2 k n (length cs) ∙ reads_clauses cs one.0 (closed built) b' (subst (ClauseWords cs) (sym one.1) more) rest may k n
