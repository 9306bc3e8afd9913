-- The game that open has begun shows the state from which games start.
use Rattle.std.proofs.Common.{◌≡◌, ℕ, zero, suc, ◌+◌, ◌*◌, ◌<◌, ◌≤◌, Bool, false, cond, ◌||◌, List, [], ◌∷◌, ◌++◌, length, get_or, take, set, replicate, ℤ, sym, refl, ap, ◌∙◌, subst, ⊎_elim, append_assoc, zero-add, add-one, arith}
use Rattle.std.specs.List.{AllByRecursion}
use Rattle.std.proofs.lemmas.List.{append-nil, take_more_set, length-set, length-replicate, get_or-replicate, get_or_past}
use Rattle.std.proofs.lemmas.Bool.{cond-true, cond-false, cases_lt, eq-eqb, ne_eqb}
use Rattle.formula.specs.Lists.{keep, each, elem, from}
use Rattle.formula.specs.Lists.{All as Each}
use Rattle.formula.specs.Game.{other, Clauses, Qbf}
use Rattle.formula.specs.Backward.{turned}
use Rattle.formula.specs.Proper.{Ascending, Proper}
use Rattle.formula.specs.declared.side.Side.{Side}
use Rattle.formula.specs.declared.side.Side.TheVariants.{Ours, Device}
use Rattle.formula.proofs.Looked.{each-from_at}
use Rattle.formula.proofs.Turned.{turned-turned}
use Rattle.pool.specs.Records.{Literal}
use Rattle.strategy.specs.Records.{open_records, chain}
use Rattle.strategy.specs.Steps.{new_level as begun}
use Rattle.strategy.specs.View.{ShowsFront, ShowsPresent, still_playing}
use Rattle.layout.specs.declared.game.Level.{Level}
use Rattle.layout.specs.Table.{blank}
use Rattle.layout.specs.Laying.{Laid, laid, fresh, laid_chains, EnoughChains}
use Rattle.layout.specs.Opening.{level_chains, open_chains, words_needed}
use Rattle.layout.specs.Opened.{flags_of, new_levels, put_from, unused, opened_pool, opened_game}
use Rattle.layout.specs.Viewed.{view_level}
use Rattle.layout.specs.Begun.{Begun}
use Rattle.layout.proofs.Begun.{enough_first, enough_others}
use Rattle.layout.proofs.Grown.{laid_long, laid_grows, fresh_sound, chains_keep}
use Rattle.layout.proofs.Named.{formula_named, level_named}

-- the variables of a level are read back from its flags
elem_under : (low top v : ℕ) (vs : List ℕ) → Ascending low top vs → v ≤ low → elem v vs ≡ false
elem_under low top v [] a h = refl
elem_under low top v (u ∷ vs) a h = let l = a.0 in ap (λ b. b || elem v vs) (ne_eqb v u (λ e. omega arith)) ∙ elem_under u top v vs a.2 (omega arith)

keep_within : (p r : ℕ → Bool) (i m : ℕ) → ((v : ℕ) → i ≤ v → v < i + m → p v ≡ r v) → keep p (from i m) ≡ keep r (from i m)
keep_within p r i zero h = refl
keep_within p r i (suc m) h =
    ap (λ b. cond b (i ∷ keep p (from (suc i) m)) (keep p (from (suc i) m))) (h i (omega arith) (omega arith))
    ∙ ap (λ l. cond (r i) (i ∷ l) l) (keep_within p r (suc i) m (λ v a b. h v (omega arith) (omega arith)))

keep_members : (i m : ℕ) (low : ℕ) (vs : List ℕ) → i ≡ suc low → Ascending low (low + m) vs → keep (λ v. elem v vs) (from i m) ≡ vs
keep_members i zero low [] e a = refl
keep_members i zero low (u ∷ vs) e a = let l = a.0 in let t = a.1 in absurd (omega arith)
keep_members i (suc m) low [] e a = keep_members (suc i) m (suc low) [] (omega arith) tt
keep_members i (suc m) low (u ∷ vs) e a =
    let l = a.0 in
    ⊎_elim
    (λ above.
    let up : Ascending (suc low) (suc low + m) (u ∷ vs) = (omega arith, subst (λ t. u ≤ t) {x = low + suc m} (omega arith) a.1, subst (λ t. Ascending u t vs) {x = low + suc m} (omega arith) a.2) in
    cond-false _ _ _ (elem_under i (low + suc m) i (u ∷ vs) (omega arith, a.1, a.2) (omega arith)) ∙ keep_members (suc i) m (suc low) (u ∷ vs) (omega arith) up)
    (λ here.
    let is : i ≡ u = omega arith in
    let up : Ascending (suc low) (suc low + m) vs = subst (λ x. Ascending x (suc low + m) vs) {x = u} (omega arith) (subst (λ t. Ascending u t vs) {x = low + suc m} (omega arith) a.2) in
    cond-true _ _ _ (ap (λ b. b || elem i vs) (eq-eqb i u is))
    ∙ ap (λ r. i ∷ r) (keep_within (λ v. elem v (u ∷ vs)) (λ v. elem v vs) (suc i) m (λ v g k. ap (λ b. b || elem v vs) (ne_eqb v u (λ s. omega arith))) ∙ keep_members (suc i) m (suc low) vs (omega arith) up)
    ∙ ap (λ x. x ∷ vs) is)
    (cases_lt i u)

pub flags_read : (n : ℕ) (vs : List ℕ) → n ≤ 256 → Ascending 0 n vs → keep (λ v. get_or (flags_of vs) v false) (from 1 n) ≡ vs
flags_read n vs few a =
    keep_within (λ v. get_or (flags_of vs) v false) (λ v. elem v vs) 1 n (λ v l h. each-from_at (λ u. elem u vs) 0 257 v false (omega arith) ∙ ap (λ u. elem u vs) (zero-add v))
    ∙ keep_members 1 n 0 vs refl (subst (λ t. Ascending 0 t vs) (sym (zero-add n)) a)

-- the chain of a level at open
chain_new : (C : Clauses) (n : ℕ) (σ : Side) (vs : List ℕ) (after : List (List ℕ)) → turned (open_records C n σ vs after) ≡ chain C n σ (begun vs) (each begun after)
chain_new C n Ours vs [] = refl
chain_new C n Ours vs (w ∷ after) = refl
chain_new C n Device vs after = refl

module _ (C : Clauses) (n : ℕ) (few : n ≤ 256) (named : AllByRecursion (AllByRecursion (Literal (n + 2 * length C))) C) (size : ℕ) where
  shows_levels : (s : Laid) (σ : Side) (levels : List (List ℕ)) → length s.words ≡ size → EnoughChains size s (level_chains C n σ levels) → Each (Ascending 0 n) levels
      → ShowsFront C n σ (each begun levels) (each (view_level n (laid_chains s (level_chains C n σ levels)).words) (new_levels C n s σ levels))
  shows_levels s σ [] long e a = tt
  shows_levels s σ (vs ∷ after) long e a =
      let S = n + 2 * length C in
      let rs = open_records C n σ vs after in
      let t = laid (fresh s) rs in
      let first = enough_first size s rs (level_chains C n (other σ) after) e in
      let others = enough_others size s rs (level_chains C n (other σ) after) e in
      let long' = laid_long S size (fresh s) rs long first in
      let grown = laid_grows S size (fresh s) rs long first (fresh_sound S size s rs long first) (level_named n S C vs named (omega arith) σ after) in
      let kept = chains_keep S size t (level_chains C n (other σ) after) t.head long' others grown.0 in
      ((refl, flags_read n vs few a.0, kept.1 ∙ grown.1 ∙ chain_new C n σ vs after, refl), shows_levels t (other σ) after long' others a.1)

-- the levels put at their places are those taken from there
pub put_taken : (ls at : List Level) (m k : ℕ) → k ≡ m + length ls → k ≤ length at → take k (put_from m ls at) ≡ take m at ++ ls
put_taken [] at m k e h = ap (λ j. take j at) (e ∙ omega arith) ∙ sym (append-nil (take m at))
put_taken (l ∷ ls) at m k e h =
    let room : m < length at = omega arith in
    put_taken ls (set at m l) (suc m) k (omega arith) (subst (λ j. k ≤ j) (sym (length-set at m l)) h)
    ∙ ap (λ j. take j (set at m l) ++ ls) (sym (add-one m))
    ∙ ap (λ r. r ++ ls) (take_more_set at m l room)
    ∙ append_assoc (take m at) (l ∷ []) ls

pub length_new : (C : Clauses) (n : ℕ) (levels : List (List ℕ)) (s : Laid) (σ : Side) → length (new_levels C n s σ levels) ≡ length levels
length_new C n [] s σ = refl
length_new C n (vs ∷ after) s σ = ap suc (length_new C n after (laid (fresh s) (open_records C n σ vs after)) (other σ))

pub nothing_before : (i : ℕ) → get_or (replicate 512 false) i false ≡ false
nothing_before i = ⊎_elim (λ h. get_or-replicate 512 i false false h) (λ h. get_or_past (replicate 512 false) i false (subst (λ m. m ≤ i) (sym (length-replicate 512 false)) h)) (cases_lt i 512)

present_new : (C : Clauses) (n : ℕ) (pool : List ℤ) (s : Laid) (σ : Side) (levels : List (List ℕ)) → ShowsPresent C [] (each (view_level n pool) (new_levels C n s σ levels))
present_new C n pool s σ [] = tt
present_new C n pool s σ (vs ∷ after) = nothing_before

pub begins : (q : Qbf) (number : ℕ) (pool : List ℤ) → Proper q → words_needed q ≤ length pool → length pool ≤ 1048576 → Begun q (opened_game q number pool) (opened_pool q pool)
begins q number pool p fits few =
    let C = q.clauses in
    let n = q.variables in
    let S = n + 2 * length C in
    let size = length pool in
    let rest = level_chains C n q.first q.levels in
    let all : EnoughChains size (unused pool) (open_chains q) = record { some = omega arith; within = omega arith; indexed = omega arith } in
    let first = enough_first size (unused pool) C rest all in
    let others = enough_others size (unused pool) C rest all in
    let t = laid (unused pool) C in
    let named = formula_named q S p (omega arith) in
    let long = laid_long S size (unused pool) C refl first in
    let grown = laid_grows S size (unused pool) C refl first (fresh_sound S size (unused pool) C refl first) named in
    let kept = chains_keep S size t rest t.head long others grown.0 in
    let ls = new_levels C n t q.first q.levels in
    let view = view_level n (opened_pool q pool) in
    let top = p.few_levels in
    let taken : take (length q.levels) (put_from 0 ls (replicate 32 blank)) ≡ ls =
    put_taken ls (replicate 32 blank) 0 (length q.levels) (sym (length_new C n q.levels t q.first) ∙ sym (zero-add (length ls))) (subst (λ m. length q.levels ≤ m) (sym (length-replicate 32 blank)) top) in
    record {
      proper = p;
      clauses = ap turned (kept.1 ∙ grown.1) ∙ turned-turned C;
      shows = ([], each view ls, ap (λ l. still_playing 0 (each view l)) taken, tt, shows_levels C n p.few_variables named size t q.first q.levels long others p.ascending, present_new C n (opened_pool q pool) t q.first q.levels);
    }
