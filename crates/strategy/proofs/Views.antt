-- What a table and a pool show follows the game: an answer about the view's present level is an answer in the state, and the rules by places
-- show the next state.
use Rattle.std.proofs.Common.{◌≡◌, ℕ, suc, ◌+◌, ◌<◌, ◌≤◌, cond, ◌||◌, ltb, leb, List, [], ◌∷◌, length, set, ap, ◌∙◌, ap₂, arith, ltb→lt, lt→ltb, leb→le}
use lib.Dec.{not_T}
use Rattle.formula.specs.Game.{Values, Clauses, hits}
use Rattle.formula.specs.Backward.{onto}
use Rattle.formula.proofs.Tests.{is_true, is_false}
use Rattle.strategy.specs.Steps.{last_entry_set, entry_set}
use Rattle.strategy.specs.Next.{Answer, satisfied, refused, no_level_winner}
use Rattle.strategy.specs.View.{LevelView, keeping, beginning, entering, learning, no_level, at, still_playing, won_by, yes_below, yes_last, answered, stepped}
use Rattle.strategy.proofs.ListPlaces.{length-onto, get_here, get_one, get_two, set_up, set_down}

-- there is a present level
pub present_below : (vb : List LevelView) (v : LevelView) (f : List LevelView) → length vb < length (onto vb (v ∷ f))
present_below vb v f = omega (arith, length-onto vb (v ∷ f))

pub step_answered : (C : Clauses) (n : ℕ) (vb : List LevelView) (v : LevelView) (f : List LevelView) (a : Answer)
    → stepped C n (still_playing (length vb) (onto vb (v ∷ f))) a ≡ answered C n (onto vb (v ∷ f)) (length vb) a
step_answered C n vb v f a =
    ap (λ b. cond b (won_by (no_level_winner C) (length vb) (onto vb (v ∷ f))) (answered C n (onto vb (v ∷ f)) (length vb) a))
    (is_false (leb (length (onto vb (v ∷ f))) (length vb))
    (not_T (leb (length (onto vb (v ∷ f))) (length vb)) (λ l. let k : length (onto vb (v ∷ f)) ≤ length vb = leb→le (length (onto vb (v ∷ f))) (length vb) l in
    let p : length vb < length (onto vb (v ∷ f)) = present_below vb v f in absurd (omega arith))))

-- yes below the last level
pub yes_below_view : (C : Clauses) (n : ℕ) (vb : List LevelView) (v w : LevelView) (f : List LevelView) (x : Values)
    → answered C n (onto vb (v ∷ w ∷ f)) (length vb) (satisfied x)
    ≡ still_playing (suc (length vb)) (onto vb (keeping x v ∷ beginning (λ i. hits C x i || v.before i) w ∷ f))
yes_below_view C n vb v w f x =
    ap (λ b. cond b (yes_below C (onto vb (v ∷ w ∷ f)) (length vb) x) (yes_last C n (onto vb (v ∷ w ∷ f)) (length vb) x))
    (is_true (ltb (suc (length vb)) (length (onto vb (v ∷ w ∷ f)))) (lt→ltb (suc (length vb)) (length (onto vb (v ∷ w ∷ f))) (omega (arith, length-onto vb (v ∷ w ∷ f)))))
    ∙ ap₂ (λ (a b : LevelView). still_playing (suc (length vb)) (set (set (onto vb (v ∷ w ∷ f)) (length vb) (keeping x a)) (suc (length vb)) (beginning (λ i. hits C x i || a.before i) b)))
    (get_here vb v (w ∷ f) no_level) (get_one vb v w f no_level)
    ∙ ap (λ l. still_playing (suc (length vb)) l) (set_up vb v w (keeping x v) (beginning (λ i. hits C x i || v.before i) w) f)

-- yes at the last level
pub yes_last_view : (C : Clauses) (n : ℕ) (vb : List LevelView) (u v : LevelView) (x : Values)
    → answered C n (onto vb (u ∷ v ∷ [])) (suc (length vb)) (satisfied x)
    ≡ still_playing (length vb) (onto vb (learning C n (last_entry_set C v.before x) u ∷ entering (last_entry_set C v.before x) x v ∷ []))
yes_last_view C n vb u v x =
    ap (λ b. cond b (yes_below C (onto vb (u ∷ v ∷ [])) (suc (length vb)) x) (yes_last C n (onto vb (u ∷ v ∷ [])) (suc (length vb)) x))
    (is_false (ltb (suc (suc (length vb))) (length (onto vb (u ∷ v ∷ []))))
    (not_T (ltb (suc (suc (length vb))) (length (onto vb (u ∷ v ∷ [])))) (λ l. let k : suc (suc (length vb)) < length (onto vb (u ∷ v ∷ [])) =
    ltb→lt (suc (suc (length vb))) (length (onto vb (u ∷ v ∷ []))) l in
    let e : length (onto vb (u ∷ v ∷ [])) ≡ length vb + 2 = length-onto vb (u ∷ v ∷ []) in absurd (omega arith))))
    ∙ ap₂ (λ (a b : LevelView). still_playing (length vb) (set (set (onto vb (u ∷ v ∷ [])) (suc (length vb)) (entering (last_entry_set C b.before x) x b)) (length vb)
    (learning C n (last_entry_set C b.before x) a)))
    (get_here vb u (v ∷ []) no_level) (get_one vb u v [] no_level)
    ∙ ap (λ l. still_playing (length vb) l)
    (set_down vb u v (learning C n (last_entry_set C v.before x) u) (entering (last_entry_set C v.before x) x v) [])

-- no at a later level
pub no_later_view : (C : Clauses) (n : ℕ) (vb : List LevelView) (t u v : LevelView) (f : List LevelView) (A : List ℕ)
    → answered C n (onto vb (t ∷ u ∷ v ∷ f)) (suc (suc (length vb))) (refused A)
    ≡ still_playing (length vb) (onto vb (learning C n (entry_set C v.side A u.kept) t ∷ entering (entry_set C v.side A u.kept) u.kept u ∷ v ∷ f))
no_later_view C n vb t u v f A =
    ap₂ (λ (a b : LevelView). still_playing (length vb) (set (set (onto vb (t ∷ u ∷ v ∷ f)) (suc (length vb))
    (entering (entry_set C (at (onto vb (t ∷ u ∷ v ∷ f)) (suc (suc (length vb)))).side A b.kept) b.kept b)) (length vb)
    (learning C n (entry_set C (at (onto vb (t ∷ u ∷ v ∷ f)) (suc (suc (length vb)))).side A b.kept) a)))
    (get_here vb t (u ∷ v ∷ f) no_level) (get_one vb t u (v ∷ f) no_level)
    ∙ ap (λ (c : LevelView). still_playing (length vb) (set (set (onto vb (t ∷ u ∷ v ∷ f)) (suc (length vb)) (entering (entry_set C c.side A u.kept) u.kept u)) (length vb)
    (learning C n (entry_set C c.side A u.kept) t)))
    (get_two vb t u v f no_level)
    ∙ ap (λ l. still_playing (length vb) l)
    (set_down vb t u (learning C n (entry_set C v.side A u.kept) t) (entering (entry_set C v.side A u.kept) u.kept u) (v ∷ f))
