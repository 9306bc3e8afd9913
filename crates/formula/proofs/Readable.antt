-- A plan wins as specs/Plans says it just when its choices win as specs/Backward says it.
use Rattle.std.proofs.Common.{◌≡◌, ℕ, List, [], ◌∷◌, ◌++◌, sym, refl, ap, ◌∙◌, subst}
use Rattle.formula.specs.Lists.{In}
use Rattle.formula.specs.Game.{other, Clauses, Qbf, Values, choices, Play, PlayOf, winner}
use Rattle.formula.specs.Plans.{side_after, Plan, Wins, CanWin}
use Rattle.formula.specs.Backward.{onto, turned, WinsFrom, or_first, level_after}
use Rattle.formula.specs.declared.side.Side.{Side}
use Rattle.formula.specs.declared.side.Side.TheVariants.{Ours, Device}
use Rattle.formula.proofs.Values.{or_first_choice, or_first_same}
use Rattle.formula.proofs.Turned.{turned-turned, no_split, same_head, same_tail, ours_not_device, won_winner, winner_won, level_after_lem}

-- the levels left, with the play π of those before, newest first: what f chooses there are choices; ρ follows f there
abbrev Chooses : (Play → Values) → Side → Side → Play → List (List ℕ) → Type 0
Chooses f w σ π rest =
    (b : List (List ℕ)) (level : List ℕ) (a : List (List ℕ)) (ρ : Play) → rest ≡ b ++ (level ∷ a) → side_after σ b ≡ w → PlayOf b ρ
    → In (f (onto π ρ)) (choices level)

abbrev FollowsOn : (Play → Values) → Side → Side → Play → Play → Type 0
FollowsOn f w σ π ρ = (b : Play) (x : Values) (a : Play) → ρ ≡ b ++ (x ∷ a) → side_after σ b ≡ w → x ≡ f (onto π b)

abbrev WinsOn : Clauses → (Play → Values) → Side → Side → Play → List (List ℕ) → Type 0
WinsOn C f w σ π rest = (ρ : Play) → PlayOf rest ρ → FollowsOn f w σ π ρ → winner C (onto π ρ) ≡ w

module _ (f : Play → Values) (w σ : Side) (π : Play) (x : Values) where
  chooses_on : (level : List ℕ) (rest : List (List ℕ)) → In x (choices level) → Chooses f w σ π (level ∷ rest) → Chooses f w (other σ) (x ∷ π) rest
  chooses_on level rest m ch b level' a ρ e s p = ch (level ∷ b) level' a (x ∷ ρ) (ap (λ l. level ∷ l) e) s (m, p)

  follows_one : (ρ : Play) → (σ ≡ w → x ≡ f (turned π)) → FollowsOn f w (other σ) (x ∷ π) ρ → FollowsOn f w σ π (x ∷ ρ)
  follows_one ρ now later [] y a e s = sym (same_head x y ρ a e) ∙ now s
  follows_one ρ now later (z ∷ b) y a e s =
      subst (λ u. y ≡ f (onto π (u ∷ b))) (same_head x z ρ (b ++ (y ∷ a)) e) (later b y a (same_tail x z ρ (b ++ (y ∷ a)) e) s)

  wins_one : (C : Clauses) (level : List ℕ) (rest : List (List ℕ)) → In x (choices level) → (σ ≡ w → x ≡ f (turned π))
      → WinsOn C f w σ π (level ∷ rest) → WinsOn C f w (other σ) (x ∷ π) rest
  wins_one C level rest m now win ρ p fo = win (x ∷ ρ) (m, p) (follows_one ρ now fo)

-- from level 1 on, to newest first
backward : (C : Clauses) (f : Play → Values) (w σ : Side) (π : Play) (rest : List (List ℕ)) → Chooses f w σ π rest → WinsOn C f w σ π rest
    → WinsFrom C w (λ p. f (turned p)) σ rest π
backward C f w σ π [] ch win = winner_won C w π (win [] tt (λ b x a e s. absurd (no_split b x a e)))
backward C f Ours Ours π (level ∷ rest) ch win =
    let m : In (f (turned π)) (choices level) = ch [] level rest [] refl refl tt in (
      m,
      backward C f Ours Device (f (turned π) ∷ π) rest (chooses_on f Ours Ours π (f (turned π)) level rest m ch)
          (wins_one f Ours Ours π (f (turned π)) C level rest m (λ e. refl) win),
    )
backward C f Ours Device π (level ∷ rest) ch win =
    λ y m. backward C f Ours Ours (y ∷ π) rest (chooses_on f Ours Device π y level rest m ch)
    (wins_one f Ours Device π y C level rest m (λ e. absurd (ours_not_device (sym e))) win)
backward C f Device Ours π (level ∷ rest) ch win =
    λ y m. backward C f Device Device (y ∷ π) rest (chooses_on f Device Ours π y level rest m ch)
    (wins_one f Device Ours π y C level rest m (λ e. absurd (ours_not_device e)) win)
backward C f Device Device π (level ∷ rest) ch win =
    let m : In (f (turned π)) (choices level) = ch [] level rest [] refl refl tt in (
      m,
      backward C f Device Ours (f (turned π) ∷ π) rest (chooses_on f Device Device π (f (turned π)) level rest m ch)
          (wins_one f Device Device π (f (turned π)) C level rest m (λ e. refl) win),
    )

pub readable_backward : (q : Qbf) (w : Side) (plan : Plan q w) → Wins q w plan
    → WinsFrom q.clauses w (λ p. plan.choose (turned p)) q.first q.levels []
readable_backward q w plan win = backward q.clauses plan.choose w q.first [] q.levels plan.of_the_level win

-- newest first, to level 1 on: the plan that chooses as f does, or the first choice of the level where f gives none
abbrev pub made_total : List (List ℕ) → (Play → Values) → Play → Values
made_total levels f p = or_first (level_after levels p) (f (turned p))

module _ (C : Clauses) (f : Play → Values) (levels : List (List ℕ)) where
  -- the levels left are those after π
  abbrev Left : Play → List (List ℕ) → Type 0
  Left π rest = (ρ : Play) → level_after levels (onto π ρ) ≡ level_after rest ρ

  total_same : (π : Play) (level : List ℕ) (rest : List (List ℕ)) → Left π (level ∷ rest) → In (f π) (choices level) → made_total levels f (turned π) ≡ f π
  total_same π level rest le m =
      ap (λ vs. or_first vs (f (turned (turned π)))) (le []) ∙ ap (λ p. or_first level (f p)) (turned-turned π) ∙ or_first_same level (f π) m

  onward : (w σ : Side) (π : Play) (rest : List (List ℕ)) → Left π rest → WinsFrom C w f σ rest π → WinsOn C (made_total levels f) w σ π rest
  onward w σ π [] le win [] p fo = won_winner C w π win
  onward w σ π [] le win (x ∷ ρ) p fo = absurd p
  onward w σ π (level ∷ rest) le win [] p fo = absurd p
  onward Ours Ours π (level ∷ rest) le win (x ∷ ρ) p fo =
      onward Ours Device (x ∷ π) rest (λ ρ. le (x ∷ ρ))
      (subst (λ y. WinsFrom C Ours f Device rest (y ∷ π)) (sym (fo [] x ρ refl refl ∙ total_same π level rest le win.0)) win.1)
      ρ p.1 (λ b y a e s. fo (x ∷ b) y a (ap (λ l. x ∷ l) e) s)
  onward Ours Device π (level ∷ rest) le win (x ∷ ρ) p fo =
      onward Ours Ours (x ∷ π) rest (λ ρ. le (x ∷ ρ)) (win x p.0) ρ p.1 (λ b y a e s. fo (x ∷ b) y a (ap (λ l. x ∷ l) e) s)
  onward Device Ours π (level ∷ rest) le win (x ∷ ρ) p fo =
      onward Device Device (x ∷ π) rest (λ ρ. le (x ∷ ρ)) (win x p.0) ρ p.1 (λ b y a e s. fo (x ∷ b) y a (ap (λ l. x ∷ l) e) s)
  onward Device Device π (level ∷ rest) le win (x ∷ ρ) p fo =
      onward Device Ours (x ∷ π) rest (λ ρ. le (x ∷ ρ))
      (subst (λ y. WinsFrom C Device f Ours rest (y ∷ π)) (sym (fo [] x ρ refl refl ∙ total_same π level rest le win.0)) win.1)
      ρ p.1 (λ b y a e s. fo (x ∷ b) y a (ap (λ l. x ∷ l) e) s)

abbrev pub plan_of : (q : Qbf) (w : Side) → (Play → Values) → Plan q w
plan_of q w f = record {
  choose = made_total q.levels f;
  of_the_level = λ before level after π e s p.
      subst (λ vs. In (or_first vs (f (turned π))) (choices level))
      (sym (ap (λ l. level_after l π) e ∙ level_after_lem before level after π p)) (or_first_choice level (f (turned π)));
}

pub plan_of_wins : (q : Qbf) (w : Side) (f : Play → Values) → WinsFrom q.clauses w f q.first q.levels [] → Wins q w (plan_of q w f)
plan_of_wins q w f win = onward q.clauses f q.levels w q.first [] q.levels (λ ρ. refl) win

pub backward_readable : (q : Qbf) (w : Side) (f : Play → Values) → WinsFrom q.clauses w f q.first q.levels [] → CanWin q w
backward_readable q w f win = (plan_of q w f, plan_of_wins q w f win)
