-- The rules by places show the next state, and an answer about the view's present level is an answer in the state.
use Rattle.std.proofs.Common.{◌≡◌, ℕ, ◌||◌, List, [], ◌∷◌, length, sym, refl, ap, ◌∙◌, subst, ap₂}
use mathlib.Core.Path.{fun_ext}
use mathlib.Core.Option.{some}
use Rattle.formula.specs.Game.{other, Values, Clauses, hits, hit}
use Rattle.formula.specs.Backward.{onto}
use Rattle.strategy.specs.Entries.{Entry, LevelState}
use Rattle.strategy.specs.Records.{learned_record, chain}
use Rattle.strategy.specs.Steps.{KeptLevel, played, playing, decided, learn, enter, last_entry_set, entry_set}
use Rattle.strategy.specs.Next.{Answer, satisfied, refused, next}
use Rattle.strategy.specs.View.{LevelView, keeping, beginning, entering, learning, still_playing, stepped, ShowsLevel, ShowsFront, ShowsBack, ShowsPresent, Shows}
use Rattle.strategy.proofs.Places.{chain_learns, chain_enters, chain_rest}
use Rattle.strategy.proofs.Views.{step_answered, yes_below_view, yes_last_view, no_later_view}
use Rattle.formula.specs.declared.side.Side.{Side}
use Rattle.formula.specs.declared.side.Side.TheVariants.{Ours, Device}

pub other_other : (σ : Side) → other (other σ) ≡ σ
other_other Ours = refl
other_other Device = refl

-- how the views of levels change
learn_shown : (C : Clauses) (n : ℕ) (σ : Side) (A B : List ℕ) (s m m' : LevelState) (r r' : List LevelState) (v : LevelView) → A ≡ B → ShowsLevel C n σ s (m ∷ r) v
    → ShowsLevel C n σ (learn B s) (m' ∷ r') (learning C n A v)
learn_shown C n σ A B s m m' r r' v e h = (
  h.0,
  h.1,
  ap₂ (λ τ ch. learned_record C n τ A ∷ ch) h.0 (h.2 ∙ chain_rest C n σ s m m' r r')
      ∙ ap (λ D. learned_record C n σ D ∷ chain C n σ s (m' ∷ r')) e ∙ sym (chain_learns C n σ B s m' r'),
  h.3,
)

enter_shown : (C : Clauses) (n : ℕ) (σ : Side) (A B : List ℕ) (x y : Values) (s : LevelState) (r : List LevelState) (v : LevelView) → A ≡ B → x ≡ y → ShowsLevel C n σ s r v
    → ShowsLevel C n σ (enter B y s) r (entering A x v)
enter_shown C n σ A B x y s r v e d h = (
  h.0,
  h.1,
  h.2 ∙ sym (chain_enters C n σ B y s r),
  ap₂ {C = List Entry} (λ (a : Entry) es. a ∷ es) (ap₂ {C = Entry} (λ D z. record { set = D; values = z }) e d) h.3,
)

-- the chains of the levels before do not look at what stands in front, as long as some level does
back_front : (C : Clauses) (n : ℕ) (σ : Side) (back : List KeptLevel) (f f' : LevelState) (r r' : List LevelState) (vb : List LevelView) → ShowsBack C n σ back (f ∷ r) vb
    → ShowsBack C n σ back (f' ∷ r') vb
back_front C n σ [] f f' r r' [] h = h
back_front C n σ [] f f' r r' (v ∷ vb) h = h
back_front C n σ (p ∷ back) f f' r r' [] h = h
back_front C n σ (p ∷ back) f f' r r' (v ∷ vb) h = (
  (h.0.0, h.0.1, h.0.2 ∙ chain_rest C n (other σ) p.state f f' r r', h.0.3),
  h.1,
  h.2,
  back_front C n (other σ) back p.state p.state (f ∷ r) (f' ∷ r') vb h.3,
)

-- the next state is shown
abbrev Next : Clauses → ℕ → Side → List KeptLevel → List LevelState → List LevelView → List LevelView → Answer → Type 0
Next C n σ back f vb vf a = Shows C n (next C (playing σ back f) a) (stepped C n (still_playing (length vb) (onto vb vf)) a)

pub yes_below_shown : (C : Clauses) (n : ℕ) (σ : Side) (back : List KeptLevel) (s m : LevelState) (r : List LevelState) (vb : List LevelView) (v w : LevelView) (f : List LevelView) (x : Values)
    → ShowsBack C n σ back (s ∷ m ∷ r) vb → ShowsFront C n σ (s ∷ m ∷ r) (v ∷ w ∷ f) → ShowsPresent C back (v ∷ w ∷ f) → Next C n σ back (s ∷ m ∷ r) vb (v ∷ w ∷ f) (satisfied x)
yes_below_shown C n σ back s m r vb v w f x sb sf sp = (
  keeping x v ∷ vb,
  beginning (λ i. hits C x i || v.before i) w ∷ f,
  step_answered C n vb v (w ∷ f) (satisfied x) ∙ yes_below_view C n vb v w f x,
  (
    subst (λ τ. ShowsLevel C n τ s (m ∷ r) (keeping x v)) (sym (other_other σ)) sf.0,
    refl,
    sp,
    subst (λ τ. ShowsBack C n τ back (s ∷ m ∷ r) vb) (sym (other_other σ)) sb,
  ),
  (sf.1.0, sf.1.1),
  λ i. ap (λ b. hits C x i || b) (sp i),
)

pub yes_only_shown : (C : Clauses) (n : ℕ) (s : LevelState) (v : LevelView) (x : Values) → ShowsFront C n Ours (s ∷ []) (v ∷ []) → ShowsPresent C [] (v ∷ [])
    → Next C n Ours [] (s ∷ []) [] (v ∷ []) (satisfied x)
yes_only_shown C n s v x sf sp =
    subst (Shows C n (decided Ours Ours (enter (last_entry_set C (hit C []) x) x s ∷ []))) (sym (step_answered C n [] v [] (satisfied x)))
    (refl, (enter_shown C n Ours (last_entry_set C v.before x) (last_entry_set C (hit C []) x) x x s [] v (ap (λ d. last_entry_set C d x) (fun_ext sp)) refl sf.0, tt))

pub yes_last_shown : (C : Clauses) (n : ℕ) (p : KeptLevel) (back : List KeptLevel) (s : LevelState) (u : LevelView) (vb : List LevelView) (v : LevelView) (x : Values)
    → ShowsBack C n Ours (p ∷ back) (s ∷ []) (u ∷ vb) → ShowsFront C n Ours (s ∷ []) (v ∷ []) → ShowsPresent C (p ∷ back) (v ∷ [])
    → Next C n Ours (p ∷ back) (s ∷ []) (u ∷ vb) (v ∷ []) (satisfied x)
yes_last_shown C n p back s u vb v x sb sf sp =
    let A : List ℕ = last_entry_set C v.before x in
    let B : List ℕ = last_entry_set C (hit C (played (p ∷ back))) x in
    let e : A ≡ B = ap (λ d. last_entry_set C d x) (fun_ext sp) in (
      vb,
      learning C n A u ∷ entering A x v ∷ [],
      step_answered C n (u ∷ vb) v [] (satisfied x) ∙ yes_last_view C n vb u v x,
      back_front C n Device back p.state (learn B p.state) (s ∷ []) (enter B x s ∷ []) vb sb.3,
      (learn_shown C n Device A B p.state s (enter B x s) [] [] u e sb.0, (enter_shown C n Ours A B x x s [] v e refl sf.0, tt)),
      sb.2,
    )

pub no_first_shown : (C : Clauses) (n : ℕ) (σ : Side) (s : LevelState) (r : List LevelState) (v : LevelView) (f : List LevelView) (A : List ℕ)
    → ShowsFront C n σ (s ∷ r) (v ∷ f) → Next C n σ [] (s ∷ r) [] (v ∷ f) (refused A)
no_first_shown C n σ s r v f A sf =
    subst (Shows C n (decided (other σ) σ (s ∷ r))) (sym (step_answered C n [] v f (refused A))) (ap (λ τ. some (other τ)) sf.0.0, sf)

pub no_second_shown : (C : Clauses) (n : ℕ) (σ : Side) (p : KeptLevel) (s : LevelState) (r : List LevelState) (u v : LevelView) (f : List LevelView) (A : List ℕ)
    → ShowsBack C n σ (p ∷ []) (s ∷ r) (u ∷ []) → ShowsFront C n σ (s ∷ r) (v ∷ f) → Next C n σ (p ∷ []) (s ∷ r) (u ∷ []) (v ∷ f) (refused A)
no_second_shown C n σ p s r u v f A sb sf =
    subst (Shows C n (decided (other σ) (other σ) (enter (entry_set C σ A p.kept) p.kept p.state ∷ s ∷ r))) (sym (step_answered C n (u ∷ []) v f (refused A))) (
      ap (λ τ. some (other τ)) sf.0.0,
      (
        enter_shown C n (other σ) (entry_set C v.side A u.kept) (entry_set C σ A p.kept) u.kept p.kept p.state (s ∷ r) u
            (ap₂ (λ τ x. entry_set C τ A x) sf.0.0 sb.1) sb.1 sb.0,
        subst (λ τ. ShowsFront C n τ (s ∷ r) (v ∷ f)) (sym (other_other σ)) sf,
      ),
    )

pub no_later_shown : (C : Clauses) (n : ℕ) (σ : Side) (p q : KeptLevel) (back : List KeptLevel) (s : LevelState) (r : List LevelState) (u t : LevelView) (vb : List LevelView) (v : LevelView) (f : List LevelView) (A : List ℕ)
    → ShowsBack C n σ (p ∷ q ∷ back) (s ∷ r) (u ∷ t ∷ vb) → ShowsFront C n σ (s ∷ r) (v ∷ f) → Next C n σ (p ∷ q ∷ back) (s ∷ r) (u ∷ t ∷ vb) (v ∷ f) (refused A)
no_later_shown C n σ p q back s r u t vb v f A sb sf =
    let D : List ℕ = entry_set C v.side A u.kept in
    let B : List ℕ = entry_set C σ A p.kept in
    let e : D ≡ B = ap₂ (λ τ x. entry_set C τ A x) sf.0.0 sb.1 in (
      vb,
      learning C n D t ∷ entering D u.kept u ∷ v ∷ f,
      step_answered C n (u ∷ t ∷ vb) v f (refused A) ∙ no_later_view C n vb t u v f A,
      back_front C n σ back q.state (learn B q.state) (p.state ∷ s ∷ r) (enter B p.kept p.state ∷ s ∷ r) vb
          (subst (λ τ. ShowsBack C n τ back (q.state ∷ p.state ∷ s ∷ r) vb) (other_other σ) sb.3.3),
      (
        learn_shown C n σ D B q.state p.state (enter B p.kept p.state) (s ∷ r) (s ∷ r) t e
            (subst (λ τ. ShowsLevel C n τ q.state (p.state ∷ s ∷ r) t) (other_other σ) sb.3.0),
        (
          enter_shown C n (other σ) D B u.kept p.kept p.state (s ∷ r) u e sb.1 sb.0,
          subst (λ τ. ShowsFront C n τ (s ∷ r) (v ∷ f)) (sym (other_other σ)) sf,
        ),
      ),
      sb.3.2,
    )
