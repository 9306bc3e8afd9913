-- What ties the theory to code: plays as one list, numbers of records, levels by places. Each is the contract of a function in src/theorems.
use Rattle.std.specs.Prelude.{◌≡◌, ℕ, suc, ◌^◌, ◌<◌, Bool, true, T, ◌↔◌, List, [], length, ℤ, slice_index_or}
use Rattle.std.proofs.Math.Option.{none, some}
use Rattle.formula.specs.Lists.{all, In, Any, elem}
use Rattle.formula.specs.Game.{Qbf, choices, Clauses, Play, PlayOf, hits, hit}
use Rattle.formula.specs.Plans.{CanWin}
use Rattle.formula.specs.Truth.{truth}
use Rattle.strategy.specs.Entries.{Entry, fits, fits_set, hit_set, LevelState}
use Rattle.strategy.specs.RecordedPlan.{move, RecordedPlanWins, flat, is_flat_play, flat_move}
use Rattle.strategy.specs.Records.{Unsatisfiable, assumptions, learned_record, entry_record, entry_of}
use Rattle.strategy.specs.Questions.{assumed_clauses, NoAnswer, clauses_named}
use Rattle.strategy.specs.WellFormed.{ProperLevel, WellFormed, bound}
use Rattle.strategy.specs.Steps.{KeptLevel, State, playing, states_of, Reached}
use Rattle.strategy.specs.Next.{Answer, next}
use Rattle.strategy.specs.Check.{is_learned_number, learned_set_of, Check, level_entries, records_of}
use Rattle.strategy.specs.View.{GameView, stepped, AnswersView, Shows, shown_records}
use Rattle.formula.specs.declared.side.Side.{Side}
use Rattle.formula.specs.declared.side.Side.TheVariants.{Ours}

-- A play hits what its literals in one list hit; a list that passes the test is a play, and no other list is; the next move is that
-- of the level's entries at the play as one list. An entry fits a play just when it fits the set of clauses that the play hits.
abbrev pub PlayInOneList : Type 0
PlayInOneList = (C : Clauses) (π : Play) (i : ℕ) → hits C (flat π) i ≡ hit C π i

abbrev pub FlatPlays : Type 0
FlatPlays = (levels : List (List ℕ)) (ρ : List ℤ) → T (is_flat_play levels ρ) ↔ ((π : Play) × PlayOf levels π × (flat π ≡ ρ))

abbrev pub FlatMoves : Type 0
FlatMoves = (C : Clauses) (w : Side) (entries : List (List Entry)) (π : Play) → move C w entries π ≡ flat_move C w (slice_index_or entries (length π) []) (flat π)

-- A record is that of a learned set just when its numbers say so, and then the set is the one read off it.
abbrev pub LearnedByNumbers : Type 0
LearnedByNumbers = (C : Clauses) (n : ℕ) (σ : Side) (rec : List ℤ) (entries : List Entry)
    → ((A : List ℕ) × (rec ≡ learned_record C n σ A) × Any (λ e. T (all (λ i. elem i A) e.set)) entries)
    ↔ (T (all (is_learned_number n (length C) σ) rec) × Any (λ e. T (all (λ i. elem i (learned_set_of n (length C) rec)) e.set)) entries)

abbrev pub FitsBySets : Type 0
FitsBySets = (C : Clauses) (w : Side) (π : Play) (e : Entry) → fits C w π e ≡ fits_set w (hit_set C π) e

-- An engine's no, in its own words: the numbers that it names are among the assumptions, and the chain is unsatisfiable under them.
abbrev pub NoByNames : Type 0
NoByNames = (n k : ℕ) (σ : Side) (before : ℕ → Bool) (ch : List (List ℤ)) (names : List ℤ)
    → ((l : ℤ) → In l names → In l (assumptions n k σ (assumed_clauses k σ before))) → Unsatisfiable ch names
    → NoAnswer n k σ before ch (clauses_named n k σ names) × (names ≡ assumptions n k σ (clauses_named n k σ names))

-- An entry is read back from its record.
abbrev pub EntryReadBack : Type 0
EntryReadBack = (n : ℕ) (σ : Side) (vs : List ℕ) (e : Entry) → ProperLevel n vs → In e.values (choices vs) → entry_of n (entry_record n σ e) ≡ e

-- A view follows its game: when a table and a pool show a reached state, each answer about the present level that an engine may give makes a step, and
-- the rules by places lead to a view that shows the state after it. What a view shows of chains and entries is what check is asked about.
abbrev pub ViewFollows : Type 0
ViewFollows = (q : Qbf) → WellFormed q → (m : ℕ) (σ : Side) (back : List KeptLevel) (front : List LevelState) (g : GameView) (a : Answer)
    → Reached q m (playing σ back front) → Shows q.clauses q.variables (playing σ back front) g → AnswersView q.variables (length q.clauses) g a
    → Reached q (suc m) (next q.clauses (playing σ back front) a)
    × Shows q.clauses q.variables (next q.clauses (playing σ back front) a) (stepped q.clauses q.variables g a)

abbrev pub ViewRecords : Type 0
ViewRecords = (q : Qbf) → WellFormed q → (m : ℕ) (a : State) (g : GameView) → Reached q m a → Shows q.clauses q.variables a g
    → shown_records g.levels ≡ records_of q.clauses q.variables q.first (states_of a)

-- So, of a view of a reached state: with a verdict, check's condition holds of its side, whose recorded plan wins, and it is ours exactly when the formula
-- is true; without one, fewer than 2 ^ (q + 1) steps were made.
abbrev pub ViewDecided : Type 0
ViewDecided = (q : Qbf) → WellFormed q → (m : ℕ) (a : State) (g : GameView) (w : Side) → Reached q m a → Shows q.clauses q.variables a g → g.verdict ≡ some w
    → Check q.clauses q.variables w q.first (shown_records g.levels)
    × RecordedPlanWins q w (level_entries (shown_records g.levels)) × CanWin q w × ((w ≡ Ours) ↔ (truth q ≡ true))

abbrev pub ViewUndecided : Type 0
ViewUndecided = (q : Qbf) → WellFormed q → (m : ℕ) (a : State) (g : GameView) → Reached q m a → Shows q.clauses q.variables a g → g.verdict ≡ none
    → m < 2 ^ suc (bound q)
