-- A game as a table and a pool show it: a list of levels with a present place. For code, whose steps change places of that list.
use Rattle.std.specs.Prelude.{◌≡◌, ℕ, zero, suc, Bool, false, cond, ◌||◌, T, List, [], ◌∷◌, length, set, ℤ, nat_le, nat_lt, slice_index_or, slice_set}
use Rattle.std.proofs.Math.Option.{Option, none, some}
use Rattle.formula.specs.Lists.{each}
use Rattle.formula.specs.Game.{other, Values, Clauses, hits, hit}
use Rattle.formula.specs.Backward.{onto}
use Rattle.strategy.specs.Entries.{Entry, LevelState}
use Rattle.strategy.specs.Records.{learned_record, chain}
use Rattle.strategy.specs.Questions.{YesAnswer, NoAnswer}
use Rattle.strategy.specs.Steps.{KeptLevel, played, State, playing, decided, last_entry_set, entry_set}
use Rattle.strategy.specs.Next.{Answer, satisfied, refused, no_level_winner}
use Rattle.strategy.specs.Check.{LevelRecords}
use Rattle.formula.specs.declared.side.Side.{Side}
use Rattle.formula.specs.declared.side.Side.TheVariants.{Ours}

-- a level: `before` (the clauses satisfied before it) counts up to the present level, `kept` (its values) before the present level
pub record LevelView : Type 0 where
  pub side : Side
  pub variables : List ℕ
  pub chain : List (List ℤ)
  pub entries : List Entry
  pub before : ℕ → Bool
  pub kept : Values

-- a game: the place of the present level, counted from 0, its levels, level 1 first, and the verdict
pub record GameView : Type 0 where
  pub present : ℕ
  pub levels : List LevelView
  pub verdict : Option Side

-- a level with other values kept, another set satisfied before, one more entry, one more record
abbrev pub keeping : Values → LevelView → LevelView
keeping x v = record { side = v.side; variables = v.variables; chain = v.chain; entries = v.entries; before = v.before; kept = x }

abbrev pub beginning : (ℕ → Bool) → LevelView → LevelView
beginning done v = record { side = v.side; variables = v.variables; chain = v.chain; entries = v.entries; before = done; kept = v.kept }

abbrev pub entering : List ℕ → Values → LevelView → LevelView
entering A x v =
    record { side = v.side; variables = v.variables; chain = v.chain; entries = record { set = A; values = x } ∷ v.entries; before = v.before; kept = v.kept }

abbrev pub learning : Clauses → ℕ → List ℕ → LevelView → LevelView
learning C n A v =
    record { side = v.side; variables = v.variables; chain = learned_record C n v.side A ∷ v.chain; entries = v.entries; before = v.before; kept = v.kept }

abbrev pub no_level : LevelView
no_level = record { side = Ours; variables = []; chain = []; entries = []; before = λ i. false; kept = [] }

abbrev pub at : List LevelView → ℕ → LevelView
at levels m = slice_index_or levels m no_level

abbrev pub still_playing : ℕ → List LevelView → GameView
still_playing m levels = record { present = m; levels = levels; verdict = none }

abbrev pub won_by : Side → ℕ → List LevelView → GameView
won_by w m levels = record { present = m; levels = levels; verdict = some w }

-- the rules, by places. Yes at the level m below the last; at the last level; no at the level m, naming A
abbrev pub yes_below : Clauses → List LevelView → ℕ → Values → GameView
yes_below C levels m x =
    still_playing (suc m) (slice_set (slice_set levels m (keeping x (at levels m))) (suc m) (beginning (λ i. hits C x i || (at levels m).before i) (at levels (suc m))))

abbrev pub yes_last : Clauses → ℕ → List LevelView → ℕ → Values → GameView
yes_last C n levels zero x = won_by Ours zero (slice_set levels zero (entering (last_entry_set C (at levels zero).before x) x (at levels zero)))
yes_last C n levels (suc j) x =
    still_playing j (set (slice_set levels (suc j) (entering (last_entry_set C (at levels (suc j)).before x) x (at levels (suc j)))) j
    (learning C n (last_entry_set C (at levels (suc j)).before x) (at levels j)))

-- the set that is entered at the level before m, which is of the other side
abbrev pub no_set : Clauses → List LevelView → ℕ → List ℕ → ℕ → List ℕ
no_set C levels m A j = entry_set C (at levels m).side A (at levels j).kept

abbrev pub no_at : Clauses → ℕ → List LevelView → ℕ → List ℕ → GameView
no_at C n levels zero A = won_by (other (at levels zero).side) zero levels
no_at C n levels (suc zero) A =
    won_by (other (at levels 1).side) 1 (slice_set levels zero (entering (no_set C levels 1 A zero) (at levels zero).kept (at levels zero)))
no_at C n levels (suc (suc j)) A =
    still_playing j (set (slice_set levels (suc j) (entering (no_set C levels (suc (suc j)) A (suc j)) (at levels (suc j)).kept (at levels (suc j)))) j
    (learning C n (no_set C levels (suc (suc j)) A (suc j)) (at levels j)))

abbrev pub answered : Clauses → ℕ → List LevelView → ℕ → Answer → GameView
answered C n levels m (satisfied x) = cond (nat_lt (suc m) (length levels)) (yes_below C levels m x) (yes_last C n levels m x)
answered C n levels m (refused A) = no_at C n levels m A

abbrev pub stepped : Clauses → ℕ → GameView → Answer → GameView
stepped C n g a = cond (nat_le (length g.levels) g.present) (won_by (no_level_winner C) g.present g.levels) (answered C n g.levels g.present a)

-- an engine may give this answer to the question about the present level; with no level there is no question
abbrev pub AnswersView : ℕ → ℕ → GameView → Answer → Type 0
AnswersView n k g (satisfied x) =
    T (nat_lt g.present (length g.levels))
    → YesAnswer n k (at g.levels g.present).side (at g.levels g.present).before (at g.levels g.present).chain (at g.levels g.present).variables x
AnswersView n k g (refused A) =
    T (nat_lt g.present (length g.levels))
    → NoAnswer n k (at g.levels g.present).side (at g.levels g.present).before (at g.levels g.present).chain A

-- The view of a level, of the levels from the present one on, of the levels before it (the nearest first), of a state.
abbrev pub ShowsLevel : Clauses → ℕ → Side → LevelState → List LevelState → LevelView → Type 0
ShowsLevel C n σ s after v = (v.side ≡ σ) × (v.variables ≡ s.variables) × (v.chain ≡ chain C n σ s after) × (v.entries ≡ s.entries)

abbrev pub ShowsFront : Clauses → ℕ → Side → List LevelState → List LevelView → Type 0
ShowsFront C n σ [] [] = Unit {0}
ShowsFront C n σ [] (v ∷ vs) = ⊥
ShowsFront C n σ (s ∷ r) [] = ⊥
ShowsFront C n σ (s ∷ r) (v ∷ vs) = ShowsLevel C n σ s r v × ShowsFront C n (other σ) r vs

abbrev pub ShowsBack : Clauses → ℕ → Side → List KeptLevel → List LevelState → List LevelView → Type 0
ShowsBack C n σ [] f [] = Unit {0}
ShowsBack C n σ [] f (v ∷ vs) = ⊥
ShowsBack C n σ (p ∷ back) f [] = ⊥
ShowsBack C n σ (p ∷ back) f (v ∷ vs) =
    ShowsLevel C n (other σ) p.state f v × (v.kept ≡ p.kept) × ((i : ℕ) → v.before i ≡ hit C (played back) i) × ShowsBack C n (other σ) back (p.state ∷ f) vs

abbrev pub ShowsPresent : Clauses → List KeptLevel → List LevelView → Type 0
ShowsPresent C back [] = Unit {0}
ShowsPresent C back (v ∷ vs) = (i : ℕ) → v.before i ≡ hit C (played back) i

abbrev pub Shows : Clauses → ℕ → State → GameView → Type 0
Shows C n (playing σ back f) g =
    (vb : List LevelView) × (vf : List LevelView) × (g ≡ still_playing (length vb) (onto vb vf)) × ShowsBack C n σ back f vb × ShowsFront C n σ f vf × ShowsPresent C back vf
Shows C n (decided w σ states) g = (g.verdict ≡ some w) × ShowsFront C n σ states g.levels

-- the levels of a view, for check
abbrev pub shown_records : List LevelView → List LevelRecords
shown_records levels = each (λ (v : LevelView). record { variables = v.variables; chain = v.chain; entries = v.entries }) levels
