-- The header in front, and the step from the blocks to the clauses.
use Rattle.std.proofs.Common.{◌≡◌, ℕ, ◌≤◌, false, List, [], ◌∷◌, ℤ, pos, None, Ok, codes, sym, refl, ap, ◌∙◌, subst, arith}
use Rattle.std.proofs.lemmas.Bool.{cond-false, le-ltb}
use Rattle.formula.specs.Game.{Clauses}
use Rattle.formula.specs.Built.{Built, blank, last_side}
use Rattle.reader.specs.Words.{Word, said_of}
use Rattle.reader.specs.Text.{between, clauses, and_then, block_side, between_step, of_device, reading, p_due, cnf_due, count_due, headed}
use Rattle.reader.specs.Grammar.{Numeral, ClauseWords}
use Rattle.reader.proofs.Spacing.{bytes_of}
use Rattle.reader.proofs.WordKinds.{said_number}

-- a word that writes a number begins the clauses
number_begins : (k n : ℕ) (b : Built) (w : Word) (ws : List Word) (z : ℤ) → Numeral w.bytes z → of_device (last_side b) ≡ false → reading k n between b (w ∷ ws) ≡ reading k n (clauses k) b (w ∷ ws)
number_begins k n b w ws z e ours =
    let none : block_side (said_of w) ≡ None = ap block_side (said_number w z e) in
    ap (λ r. and_then r (λ next. reading k n next.0 next.1 ws)) (ap (between_step k b (said_of w)) none ∙ cond-false _ _ _ ours)

pub enters_clauses : (cs : Clauses) (ws : List Word) (b : Built) → ClauseWords cs (bytes_of ws) → of_device (last_side b) ≡ false → (k n : ℕ) → reading k n between b ws ≡ reading k n (clauses k) b ws
enters_clauses cs [] b s ours k n = refl
enters_clauses [] (w ∷ ws) b s ours k n = let z : ◌≡◌ {A = ℕ} 0 1 = cc in absurd (omega arith)
enters_clauses ([] ∷ cs) (w ∷ ws) b (mid, listed, more) ours k n = number_begins k n b w ws (pos 0) listed.0 ours
enters_clauses ((z ∷ c) ∷ cs) (w ∷ ws) b (mid, listed, more) ours k n = number_begins k n b w ws z listed.0 ours

count_said : (limit : ℕ) (w : Word) (v : ℕ) → Numeral w.bytes (pos v) → v ≤ limit → count_due limit (said_of w) ≡ Ok v
count_said limit w v e h = ap (count_due limit) (said_number w (pos v) e) ∙ cond-false _ _ _ (le-ltb limit v h)

module _ (n : ℕ) (wn wk : List ℕ) (body : List (List ℕ)) (v k : ℕ) (nv : Numeral wn (pos v)) (nk : Numeral wk (pos k)) (few-v : v ≤ 256) (few-k : k ≤ 512) where
  pub reads_header : (ws : List Word) → bytes_of ws ≡ codes "p" ∷ codes "cnf" ∷ wn ∷ wk ∷ body → (left : List Word) × (bytes_of left ≡ body) × (headed n ws ≡ reading k n between (blank v) left)
  reads_header [] e = let z : ◌≡◌ {A = ℕ} 0 1 = cc in absurd (omega arith)
  reads_header (a ∷ []) e = let z : ◌≡◌ {A = ℕ} 0 1 = cc in absurd (omega arith)
  reads_header (a ∷ b ∷ []) e = let z : ◌≡◌ {A = ℕ} 0 1 = cc in absurd (omega arith)
  reads_header (a ∷ b ∷ c ∷ []) e = let z : ◌≡◌ {A = ℕ} 0 1 = cc in absurd (omega arith)
  reads_header (a ∷ b ∷ c ∷ d ∷ ws) e =
      let p : a.bytes ≡ codes "p" = cc in
      let cnf : b.bytes ≡ codes "cnf" = cc in
      let en : c.bytes ≡ wn = cc in
      let ek : d.bytes ≡ wk = cc in
      let same : bytes_of ws ≡ body = cc in
      let first : p_due (said_of a) ≡ Ok tt = ap (λ x. p_due (said_of (record { bytes = x; place = a.place }))) p in
      let second : cnf_due (said_of b) ≡ Ok tt = ap (λ x. cnf_due (said_of (record { bytes = x; place = b.place }))) cnf in
      let third : count_due 256 (said_of c) ≡ Ok v = count_said 256 c v (subst (λ x. Numeral x (pos v)) (sym en) nv) few-v in
      let fourth : count_due 512 (said_of d) ≡ Ok k = count_said 512 d k (subst (λ x. Numeral x (pos k)) (sym ek) nk) few-k in (
        ws,
        same,
        ap (λ r. and_then r (λ _. and_then (cnf_due (said_of b)) (λ _. and_then (count_due 256 (said_of c)) (λ x. and_then (count_due 512 (said_of d)) (λ y. reading y n between (blank x) ws))))) first
            ∙ ap (λ r. and_then r (λ _. and_then (count_due 256 (said_of c)) (λ x. and_then (count_due 512 (said_of d)) (λ y. reading y n between (blank x) ws)))) second
            ∙ ap (λ r. and_then r (λ x. and_then (count_due 512 (said_of d)) (λ y. reading y n between (blank x) ws))) third
            ∙ ap (λ r. and_then r (λ y. reading y n between (blank v) ws)) fourth,
      )
