-- The moves of the recorded plan over plays from level 1 on, against those over plays with the newest level first.
use Rattle.std.proofs.Common.{◌≡◌, ℕ, Bool, cond, not, List, [], ◌∷◌, ◌++◌, sym, refl, ap, ◌∙◌, subst}
use mathlib.Core.Option.{Option, none, some}
use Rattle.formula.specs.Lists.{find, In}
use Rattle.formula.specs.Game.{other, Values, choices, Clauses, Play, PlayOf, hit, winner}
use Rattle.formula.specs.Plans.{side_after}
use Rattle.formula.specs.Backward.{onto, turned}
use Rattle.formula.proofs.Members.{all_same}
use Rattle.formula.proofs.Turned.{hit-turned, no_split, same_head, same_tail, ours_not_device}
use Rattle.strategy.specs.Entries.{Entry, fits, LevelState, choices_at, variables_of, all_entries}
use Rattle.strategy.specs.RecordedPlan.{entries_after, values_in, move}
use Rattle.strategy.proofs.ByMeaning.{HasMove, RecordedWins}
use Rattle.formula.specs.declared.side.Side.{Side}
use Rattle.formula.specs.declared.side.Side.TheVariants.{Ours, Device}

-- options
abbrev pub values_or : Option Values → Values
values_or none = []
values_or (some x) = x

abbrev IsSome : Option Values → Type 0
IsSome none = ⊥
IsSome (some x) = Unit {0}

pub same_some : (x y : Values) → some x ≡ some y → x ≡ y
same_some x y e = ap values_or e

move_there : (s : LevelState) (o : Option Entry) (K : Values → Type 0) → HasMove s o K → (x : Values) × (values_in o ≡ some x) × In x (choices_at s) × K x
move_there s none K h = absurd h
move_there s (some e) K h = (e.values, refl, h.0, h.1)

pub there_move : (s : LevelState) (o : Option Entry) (K : Values → Type 0) (x : Values) → values_in o ≡ some x → In x (choices_at s) → K x → HasMove s o K
there_move s none K x e m k = absurd (subst IsSome (sym e) tt)
there_move s (some en) K x e m k = subst (λ y. In y (choices_at s) × K y) (sym (same_some en.values x e)) (m, k)

-- an entry fits a play turned round just when it fits the play
fits_turned : (C : Clauses) (w : Side) (π : Play) (e : Entry) → fits C w (turned π) e ≡ fits C w π e
fits_turned C Ours π e = all_same (hit C (turned π)) (hit C π) e.set (hit-turned C π)
fits_turned C Device π e = all_same (λ i. not (hit C (turned π) i)) (λ i. not (hit C π i)) e.set (λ i. ap not (hit-turned C π i))

find_same : (f g : Entry → Bool) (l : List Entry) → ((e : Entry) → f e ≡ g e) → find f l ≡ find g l
find_same f g [] h = refl
find_same f g (e ∷ l) h = ap (λ b. cond b (some e) (find f l)) (h e) ∙ ap (λ o. cond (g e) (some e) o) (find_same f g l h)

module _ (C : Clauses) (w : Side) (E : List (List Entry)) where
  -- the entries after π are those of the levels left
  abbrev pub EntriesLeft : Play → List LevelState → Type 0
  EntriesLeft π rest = (ρ : Play) → entries_after E (onto π ρ) ≡ entries_after (all_entries rest) ρ

  abbrev pub MovesOn : Side → Play → Play → Type 0
  MovesOn σ π ρ = (b : Play) (x : Values) (a : Play) → ρ ≡ b ++ (x ∷ a) → side_after σ b ≡ w → move C w E (onto π b) ≡ some x

  abbrev pub HasMoveOn : Side → Play → List LevelState → Type 0
  HasMoveOn σ π rest =
      (b : List (List ℕ)) (level : List ℕ) (a : List (List ℕ)) (ρ : Play) → variables_of rest ≡ b ++ (level ∷ a) → side_after σ b ≡ w → PlayOf b ρ → MovesOn σ π ρ
      → (x : Values) × (move C w E (onto π ρ) ≡ some x) × In x (choices level)

  abbrev pub WonOn : Side → Play → List LevelState → Type 0
  WonOn σ π rest = (ρ : Play) → PlayOf (variables_of rest) ρ → MovesOn σ π ρ → winner C (onto π ρ) ≡ w

  pub move_turned : (π : Play) (s : LevelState) (r : List LevelState) → EntriesLeft π (s ∷ r) → move C w E (turned π) ≡ values_in (find (fits C w π) s.entries)
  move_turned π s r le =
      ap values_in (ap (find (fits C w (turned π))) (le []) ∙ find_same (fits C w (turned π)) (fits C w π) s.entries (fits_turned C w π))

  pub none_yet : (σ : Side) (π : Play) → MovesOn σ π []
  none_yet σ π b x a e s = absurd (no_split b x a e)

  pub moves_one : (σ : Side) (π : Play) (x : Values) (ρ : Play) → (σ ≡ w → move C w E (turned π) ≡ some x) → MovesOn (other σ) (x ∷ π) ρ → MovesOn σ π (x ∷ ρ)
  moves_one σ π x ρ now later [] y a e s = now s ∙ ap some (same_head x y ρ a e)
  moves_one σ π x ρ now later (z ∷ b) y a e s =
      subst (λ u. move C w E (onto π (u ∷ b)) ≡ some y) (same_head x z ρ (b ++ (y ∷ a)) e) (later b y a (same_tail x z ρ (b ++ (y ∷ a)) e) s)

  pub moves_rest : (σ : Side) (π : Play) (x : Values) (ρ : Play) → MovesOn σ π (x ∷ ρ) → MovesOn (other σ) (x ∷ π) ρ
  moves_rest σ π x ρ fo b y a e s = fo (x ∷ b) y a (ap (λ l. x ∷ l) e) s

-- a move is there, at a level of w; and w still wins after it, or after any values at a level of the other side
now_of : (C : Clauses) (w : Side) (E : List (List Entry)) (K : Values → Type 0) (s : LevelState) (r : List LevelState) (π : Play) → EntriesLeft C w E π (s ∷ r)
    → HasMove s (find (fits C w π) s.entries) K → (x : Values) × (move C w E (turned π) ≡ some x) × In x (choices_at s) × K x
now_of C w E K s r π le h =
    let c : (x : Values) × (values_in (find (fits C w π) s.entries) ≡ some x) × In x (choices_at s) × K x = move_there s (find (fits C w π) s.entries) K h in
    (c.0, move_turned C w E π s r le ∙ c.1, c.2, c.3)

pub has_move_now : (C : Clauses) (w : Side) (E : List (List Entry)) (σ : Side) (s : LevelState) (r : List LevelState) (π : Play) → EntriesLeft C w E π (s ∷ r)
    → RecordedWins C w σ (s ∷ r) π → σ ≡ w → (x : Values) × (move C w E (turned π) ≡ some x) × In x (choices_at s)
has_move_now C Ours E Ours s r π le h e =
    let c : (x : Values) × (move C Ours E (turned π) ≡ some x) × In x (choices_at s) × RecordedWins C Ours Device r (x ∷ π) =
    now_of C Ours E (λ x. RecordedWins C Ours Device r (x ∷ π)) s r π le h in (c.0, c.1, c.2)
has_move_now C Ours E Device s r π le h e = absurd (ours_not_device (sym e))
has_move_now C Device E Ours s r π le h e = absurd (ours_not_device e)
has_move_now C Device E Device s r π le h e =
    let c : (x : Values) × (move C Device E (turned π) ≡ some x) × In x (choices_at s) × RecordedWins C Device Ours r (x ∷ π) =
    now_of C Device E (λ x. RecordedWins C Device Ours r (x ∷ π)) s r π le h in (c.0, c.1, c.2)

pub next_wins : (C : Clauses) (w : Side) (E : List (List Entry)) (σ : Side) (s : LevelState) (r : List LevelState) (π : Play) (x : Values) → EntriesLeft C w E π (s ∷ r)
    → RecordedWins C w σ (s ∷ r) π → In x (choices_at s) → (σ ≡ w → move C w E (turned π) ≡ some x) → RecordedWins C w (other σ) r (x ∷ π)
next_wins C Ours E Ours s r π x le h m f =
    let c : (x : Values) × (move C Ours E (turned π) ≡ some x) × In x (choices_at s) × RecordedWins C Ours Device r (x ∷ π) =
    now_of C Ours E (λ x. RecordedWins C Ours Device r (x ∷ π)) s r π le h in
    subst (λ y. RecordedWins C Ours Device r (y ∷ π)) (same_some c.0 x (sym c.1 ∙ f refl)) c.3
next_wins C Ours E Device s r π x le h m f = h x m
next_wins C Device E Ours s r π x le h m f = h x m
next_wins C Device E Device s r π x le h m f =
    let c : (x : Values) × (move C Device E (turned π) ≡ some x) × In x (choices_at s) × RecordedWins C Device Ours r (x ∷ π) =
    now_of C Device E (λ x. RecordedWins C Device Ours r (x ∷ π)) s r π le h in
    subst (λ y. RecordedWins C Device Ours r (y ∷ π)) (same_some c.0 x (sym c.1 ∙ f refl)) c.3
