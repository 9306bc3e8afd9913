-- A view follows its game: each answer about the view's present level makes a step, and the rules by places show the state that it leads to.
use Rattle.std.proofs.Common.{◌≡◌, ℕ, List, [], ◌∷◌, length, sym, refl, ap, ◌∙◌, subst, ap₂, lt→ltb}
use mathlib.Core.Path.{fun_ext}
use Rattle.formula.specs.Game.{Qbf, other, Values, Clauses, hit}
use Rattle.formula.specs.Backward.{onto}
use Rattle.formula.proofs.Turned.{ours_not_device}
use Rattle.strategy.specs.Entries.{LevelState}
use Rattle.strategy.specs.Records.{chain}
use Rattle.strategy.specs.Questions.{YesAnswer, NoAnswer, YesAt, NoAt}
use Rattle.strategy.specs.Steps.{KeptLevel, played, State, playing, decided, all_levels, states_of, more, Reached}
use Rattle.strategy.specs.WellFormed.{WellFormed}
use Rattle.strategy.specs.Next.{Answer, satisfied, refused, next, AnswerBy, Answers}
use Rattle.strategy.specs.Check.{LevelRecords, records_of}
use Rattle.strategy.specs.View.{LevelView, GameView, no_level, still_playing, stepped, AnswersView, ShowsLevel, ShowsFront, ShowsBack, ShowsPresent, Shows, shown_records}
use Rattle.strategy.specs.Connections.{ViewFollows, ViewRecords}
use Rattle.strategy.proofs.ListPlaces.{get_here}
use Rattle.strategy.proofs.Verdicts.{first_side, SoundState}
use Rattle.strategy.proofs.AnswerSteps.{LastFrontOurs, sound_last, HasPresent, opened_present, steps_present}
use Rattle.strategy.proofs.Views.{present_below}
use Rattle.strategy.proofs.ViewSteps.{other_other, yes_below_shown, yes_only_shown, yes_last_shown, no_first_shown, no_second_shown, no_later_shown}
use Rattle.strategy.proofs.Games as games
use Rattle.formula.specs.declared.side.Side.{Side}
use Rattle.formula.specs.declared.side.Side.TheVariants.{Ours, Device}

-- the next state is shown
shown_next : (C : Clauses) (n : ℕ) (σ : Side) (back : List KeptLevel) (f : List LevelState) (vb vf : List LevelView) (a : Answer) → LastFrontOurs (playing σ back f)
    → HasPresent (playing σ back f) → ShowsBack C n σ back f vb → ShowsFront C n σ f vf → ShowsPresent C back vf
    → Shows C n (next C (playing σ back f) a) (stepped C n (still_playing (length vb) (onto vb vf)) a)
shown_next C n σ [] [] [] [] a l h sb sf sp = (refl, tt)
shown_next C n σ [] [] (u ∷ vb) vf a l h sb sf sp = absurd sb
shown_next C n σ [] [] [] (v ∷ vf) a l h sb sf sp = absurd sf
shown_next C n σ (p ∷ back) [] vb vf a l h sb sf sp = absurd h
shown_next C n σ back (s ∷ r) vb [] a l h sb sf sp = absurd sf
shown_next C n σ back (s ∷ m ∷ r) vb (v ∷ []) (satisfied x) l h sb sf sp = absurd sf.1
shown_next C n σ back (s ∷ m ∷ r) vb (v ∷ w ∷ f) (satisfied x) l h sb sf sp = yes_below_shown C n σ back s m r vb v w f x sb sf sp
shown_next C n σ back (s ∷ []) vb (v ∷ w ∷ f) (satisfied x) l h sb sf sp = absurd sf.1
shown_next C n Ours [] (s ∷ []) [] (v ∷ []) (satisfied x) l h sb sf sp = yes_only_shown C n s v x sf sp
shown_next C n Ours [] (s ∷ []) (u ∷ vb) (v ∷ []) (satisfied x) l h sb sf sp = absurd sb
shown_next C n Ours (p ∷ back) (s ∷ []) [] (v ∷ []) (satisfied x) l h sb sf sp = absurd sb
shown_next C n Ours (p ∷ back) (s ∷ []) (u ∷ vb) (v ∷ []) (satisfied x) l h sb sf sp = yes_last_shown C n p back s u vb v x sb sf sp
shown_next C n Device back (s ∷ []) vb (v ∷ []) (satisfied x) l h sb sf sp = absurd (ours_not_device (sym l))
shown_next C n σ [] (s ∷ r) [] (v ∷ f) (refused A) l h sb sf sp = no_first_shown C n σ s r v f A sf
shown_next C n σ [] (s ∷ r) (u ∷ vb) (v ∷ f) (refused A) l h sb sf sp = absurd sb
shown_next C n σ (p ∷ back) (s ∷ r) [] (v ∷ f) (refused A) l h sb sf sp = absurd sb
shown_next C n σ (p ∷ []) (s ∷ r) (u ∷ []) (v ∷ f) (refused A) l h sb sf sp = no_second_shown C n σ p s r u v f A sb sf
shown_next C n σ (p ∷ []) (s ∷ r) (u ∷ t ∷ vb) (v ∷ f) (refused A) l h sb sf sp = absurd sb.3
shown_next C n σ (p ∷ q ∷ back) (s ∷ r) (u ∷ []) (v ∷ f) (refused A) l h sb sf sp = absurd sb.3
shown_next C n σ (p ∷ q ∷ back) (s ∷ r) (u ∷ t ∷ vb) (v ∷ f) (refused A) l h sb sf sp = no_later_shown C n σ p q back s r u t vb v f A sb sf

-- an answer about the view's present level is an answer in the state
module _ (C : Clauses) (n : ℕ) (σ : Side) (back : List KeptLevel) (s : LevelState) (r : List LevelState) (v : LevelView) (sl : ShowsLevel C n σ s r v)
    (sp : (i : ℕ) → v.before i ≡ hit C (played back) i) where
  shown_yes : (x : Values) → YesAnswer n (length C) v.side v.before v.chain v.variables x → YesAt C n σ (played back) s r x
  shown_yes x a =
      subst (λ τ. YesAnswer n (length C) τ (hit C (played back)) (chain C n σ s r) s.variables x) sl.0
      (subst (λ d. YesAnswer n (length C) v.side d (chain C n σ s r) s.variables x) (fun_ext sp)
      (subst (λ ch. YesAnswer n (length C) v.side v.before ch s.variables x) sl.2
      (subst (λ vs. YesAnswer n (length C) v.side v.before v.chain vs x) sl.1 a)))

  shown_no : (A : List ℕ) → NoAnswer n (length C) v.side v.before v.chain A → NoAt C n σ (played back) s r A
  shown_no A a =
      subst (λ τ. NoAnswer n (length C) τ (hit C (played back)) (chain C n σ s r) A) sl.0
      (subst (λ d. NoAnswer n (length C) v.side d (chain C n σ s r) A) (fun_ext sp)
      (subst (λ ch. NoAnswer n (length C) v.side v.before ch A) sl.2 a))

shown_answer : (C : Clauses) (n : ℕ) (σ : Side) (back : List KeptLevel) (f : List LevelState) (vb vf : List LevelView) (a : Answer) → HasPresent (playing σ back f)
    → ShowsFront C n σ f vf → ShowsPresent C back vf → AnswersView n (length C) (still_playing (length vb) (onto vb vf)) a
    → AnswerBy (YesAt C n) (NoAt C n) (playing σ back f) a
shown_answer C n σ [] [] vb vf a h sf sp k = refl
shown_answer C n σ (p ∷ back) [] vb vf a h sf sp k = absurd h
shown_answer C n σ back (s ∷ r) vb [] a h sf sp k = absurd sf
shown_answer C n σ back (s ∷ r) vb (v ∷ f) (satisfied x) h sf sp k =
    shown_yes C n σ back s r v sf.0 sp x
    (subst (λ (u : LevelView). YesAnswer n (length C) u.side u.before u.chain u.variables x) (get_here vb v f no_level)
    (k (lt→ltb (length vb) (length (onto vb (v ∷ f))) (present_below vb v f))))
shown_answer C n σ back (s ∷ r) vb (v ∷ f) (refused A) h sf sp k =
    shown_no C n σ back s r v sf.0 sp A
    (subst (λ (u : LevelView). NoAnswer n (length C) u.side u.before u.chain A) (get_here vb v f no_level)
    (k (lt→ltb (length vb) (length (onto vb (v ∷ f))) (present_below vb v f))))

pub view_follows : ViewFollows
view_follows q well m σ back f g a ss sh k =
    let h : HasPresent (playing σ back f) =
    steps_present q.clauses (YesAt q.clauses q.variables) (NoAt q.clauses q.variables) ss (opened_present q.first q.levels) in
    let l : LastFrontOurs (playing σ back f) = sound_last q.clauses q.first q.levels (playing σ back f) well.last_ours (games.reached_sound q well ss) in
    let an : Answers q (playing σ back f) a =
    shown_answer q.clauses q.variables σ back f sh.0 sh.1 a h sh.4 sh.5 (subst (λ w. AnswersView q.variables (length q.clauses) w a) sh.2 k) in (
      more ss (games.answer_makes_step q well m (playing σ back f) a ss an),
      subst (λ w. Shows q.clauses q.variables (next q.clauses (playing σ back f) a) (stepped q.clauses q.variables w a)) (sym sh.2)
          (shown_next q.clauses q.variables σ back f sh.0 sh.1 a l h sh.3 sh.4 sh.5),
    )

-- the records that are shown are those of the state
all_shown : (C : Clauses) (n : ℕ) (σ : Side) (back : List KeptLevel) (f : List LevelState) (vb vf : List LevelView) → ShowsBack C n σ back f vb → ShowsFront C n σ f vf
    → ShowsFront C n (first_side σ back) (all_levels back f) (onto vb vf)
all_shown C n σ [] f [] vf sb sf = sf
all_shown C n σ [] f (u ∷ vb) vf sb sf = absurd sb
all_shown C n σ (p ∷ back) f [] vf sb sf = absurd sb
all_shown C n σ (p ∷ back) f (u ∷ vb) vf sb sf =
    all_shown C n (other σ) back (p.state ∷ f) vb (u ∷ vf) sb.3 (sb.0, subst (λ τ. ShowsFront C n τ f vf) (sym (other_other σ)) sf)

front_records : (C : Clauses) (n : ℕ) (σ : Side) (states : List LevelState) (vs : List LevelView) → ShowsFront C n σ states vs → shown_records vs ≡ records_of C n σ states
front_records C n σ [] [] h = refl
front_records C n σ [] (v ∷ vs) h = absurd h
front_records C n σ (s ∷ r) [] h = absurd h
front_records C n σ (s ∷ r) (v ∷ vs) h =
    ap₂ {C = List LevelRecords} (λ (a : LevelRecords) l. a ∷ l)
    (ap (λ x. record { variables = x; chain = v.chain; entries = v.entries }) h.0.1
    ∙ ap₂ {C = LevelRecords} (λ x es. record { variables = s.variables; chain = x; entries = es }) h.0.2 h.0.3)
    (front_records C n (other σ) r vs h.1)

shown_records_lem : (C : Clauses) (n : ℕ) (τ : Side) (levels : List (List ℕ)) (a : State) (g : GameView) → SoundState C τ levels a → Shows C n a g
    → shown_records g.levels ≡ records_of C n τ (states_of a)
shown_records_lem C n τ levels (playing σ back f) g h sh =
    ap (λ (w : GameView). shown_records w.levels) sh.2
    ∙ front_records C n (first_side σ back) (all_levels back f) (onto sh.0 sh.1) (all_shown C n σ back f sh.0 sh.1 sh.3 sh.4)
    ∙ ap (λ ρ. records_of C n ρ (all_levels back f)) h.0
shown_records_lem C n τ levels (decided w σ states) g h sh = front_records C n σ states g.levels sh.1 ∙ ap (λ ρ. records_of C n ρ states) h.0

pub view_records : ViewRecords
view_records q well m a g ss sh = shown_records_lem q.clauses q.variables q.first q.levels a g (games.reached_sound q well ss) sh

-- the levels that are shown, from the first on
pub view_front : (q : Qbf) → WellFormed q → (m : ℕ) (a : State) (g : GameView) → Reached q m a → Shows q.clauses q.variables a g → ShowsFront q.clauses q.variables q.first (states_of a) g.levels
view_front q well m (playing σ back f) g ss sh =
    let C = q.clauses in
    let n = q.variables in
    subst (λ τ. ShowsFront C n τ (all_levels back f) g.levels) (games.reached_sound q well ss).0
    (subst (λ (w : GameView). ShowsFront C n (first_side σ back) (all_levels back f) w.levels) (sym sh.2) (all_shown C n σ back f sh.0 sh.1 sh.3 sh.4))
view_front q well m (decided w σ states) g ss sh = subst (λ τ. ShowsFront q.clauses q.variables τ states g.levels) (games.reached_sound q well ss).0 sh.1
