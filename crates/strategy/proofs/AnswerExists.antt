-- At each level there is an answer: values, or all assumptions named.
use Rattle.std.proofs.Common.{ℕ, ◌<◌, Bool, false, not, ◌&&◌, ◌||◌, T, ◌⊎◌, List, [], ◌∷◌, length, sym, refl, subst, inl, inr, ⊎_elim}
use lib.Dec.{not_T}
use Rattle.formula.specs.Game.{Values, Clauses, Play, hits, hit}
use Rattle.formula.specs.Lists.{all, keep, In, All, elem, below}
use Rattle.formula.proofs.Tests.{dec, clash, or_l, or_r, or_cases, and_l, and_r, both, all_at, all_from, in_below, below_in, keep_in, kept_in, kept_passes}
use Rattle.strategy.specs.Entries.{LevelState, choices_at}
use Rattle.strategy.proofs.ByMeaning.{YesMeaning, NoMeaning}
use Rattle.strategy.proofs.Counting.{all_map₂}
use Rattle.strategy.proofs.RecordTests.{All-all, all-All}
use Rattle.formula.specs.declared.side.Side.{Side}
use Rattle.formula.specs.declared.side.Side.TheVariants.{Ours, Device}

-- some element passes, or none
some_or_none : (p : Values → Bool) (l : List Values) → ((x : Values) × In x l × T (p x)) ⊎ ((x : Values) → In x l → T (not (p x)))
some_or_none p [] = inr (λ x m. absurd m)
some_or_none p (y ∷ l) =
    ⊎_elim (λ h. inl (y, inl refl, h))
    (λ h. ⊎_elim (λ k. inl (k.0, inr k.1, k.2)) (λ k. inr (λ x m. ⊎_elim (λ e. subst (λ z. T (not (p z))) (sym e) h) (k x) m)) (some_or_none p l))
    (dec (p y))

-- the learned sets are of clauses
abbrev pub Small : Clauses → LevelState → Type 0
Small C s = All (λ A. (i : ℕ) → T (elem i A) → i < length C) s.learned

module _ (C : Clauses) (π : Play) (s : LevelState) where
  -- the clauses that neither y nor the play hits
  abbrev missed : Values → ℕ → Bool
  missed y i = not (hits C y i) && not (hit C π i)

  open_ours : List ℕ
  open_ours = keep (λ i. not (hit C π i)) (below (length C))

  open_device : List ℕ
  open_device = keep (hit C π) (below (length C))

  last_yes : (x : Values) → In x (choices_at s) → T (all (λ i. hit C π i || hits C x i) (below (length C))) → YesMeaning C Ours π s [] x
  last_yes x m h =
      record {
        t = hit C π;
        b = λ i. false;
        among = m;
        meets = λ i lt nt. ⊎_elim (λ k. absurd (clash (hit C π i) k nt)) (λ k. k)
            (or_cases (hit C π i) (hits C x i) (all_at (λ j. hit C π j || hits C x j) (below (length C)) h i (in_below (length C) i lt)));
        agrees = λ i lt k. k;
      }

  last_no : ((x : Values) → In x (choices_at s) → T (not (all (λ i. hit C π i || hits C x i) (below (length C))))) → NoMeaning C Ours π s [] open_ours
  unfolding open_ours
  last_no none =
      record {
        small = λ i m. below_in (length C) i (kept_in (λ j. not (hit C π j)) (below (length C)) i m);
        named = λ i m. kept_passes (λ j. not (hit C π j)) (below (length C)) i m;
        nothing_meets = λ y m t b meets f. clash (all (λ i. hit C π i || hits C y i) (below (length C)))
            (all_from (λ i. hit C π i || hits C y i) (below (length C))
            (λ i k. ⊎_elim (or_l (hit C π i) (hits C y i))
            (λ nh. or_r (hit C π i) (hits C y i) (meets i (below_in (length C) i k) (f i (below_in (length C) i k) (keep_in (λ j. not (hit C π j)) (below (length C)) i k nh))))
            (dec (hit C π i))))
            (none y m);
      }

  ours_yes : (n : LevelState) (r : List LevelState) (x : Values) → In x (choices_at s) → T (all (λ A. not (all (missed x) A)) s.learned) → YesMeaning C Ours π s (n ∷ r) x
  ours_yes n r x m h =
      record {
        t = hit C π;
        b = missed x;
        among = m;
        meets = (
          λ i lt nt nb. ⊎_elim (λ k. k) (λ k. absurd (clash (missed x i) (both (not (hits C x i)) (not (hit C π i)) k nt) nb)) (dec (hits C x i)),
          all-All (λ A. not (all (missed x) A)) s.learned h,
        );
        agrees = λ i lt k. k;
      }

  ours_no : (n : LevelState) (r : List LevelState) → Small C s → ((x : Values) → In x (choices_at s) → T (not (all (λ A. not (all (missed x) A)) s.learned))) → NoMeaning C Ours π s (n ∷ r) open_ours
  unfolding open_ours
  ours_no n r small none =
      record {
        small = λ i m. below_in (length C) i (kept_in (λ j. not (hit C π j)) (below (length C)) i m);
        named = λ i m. kept_passes (λ j. not (hit C π j)) (below (length C)) i m;
        nothing_meets = λ y m t b meets f. clash (all (λ A. not (all (missed y) A)) s.learned)
            (All-all (λ A. not (all (missed y) A)) s.learned
            (all_map₂ (λ A. T (not (all b A))) (λ A. (i : ℕ) → T (elem i A) → i < length C) (λ A. T (not (all (missed y) A))) s.learned
            (λ A nb lt. not_T (all (missed y) A) (λ al. clash (all b A)
            (all_from b A (λ i k. ⊎_elim (λ g. g)
            (λ g. let q : T (missed y i) = all_at (missed y) A al i k in
            absurd (clash (hits C y i) (meets.0 i (lt i k) (f i (lt i k) (keep_in (λ j. not (hit C π j)) (below (length C)) i (in_below (length C) i (lt i k))
            (and_r (not (hits C y i)) (not (hit C π i)) q))) g) (and_l (not (hits C y i)) (not (hit C π i)) q)))
            (dec (b i)))) nb)) meets.1 small))
            (none y m);
      }

  device_yes : (r : List LevelState) (x : Values) → In x (choices_at s) → T (all (λ A. not (all (λ i. not (missed x i)) A)) s.learned) → YesMeaning C Device π s r x
  device_yes r x m h =
      record {
        t = λ i. false;
        b = missed x;
        among = m;
        meets = (
          λ i lt hy. not_T (missed x i) (λ k. clash (hits C x i) hy (and_l (not (hits C x i)) (not (hit C π i)) k)),
          all-All (λ A. not (all (λ i. not (missed x i)) A)) s.learned h,
        );
        agrees = λ i lt hy. not_T (missed x i) (λ k. clash (hit C π i) hy (and_r (not (hits C x i)) (not (hit C π i)) k));
      }

  device_no : (r : List LevelState) → Small C s → ((x : Values) → In x (choices_at s) → T (not (all (λ A. not (all (λ i. not (missed x i)) A)) s.learned))) → NoMeaning C Device π s r open_device
  unfolding open_device
  device_no r small none =
      record {
        small = λ i m. below_in (length C) i (kept_in (hit C π) (below (length C)) i m);
        named = λ i m. kept_passes (hit C π) (below (length C)) i m;
        nothing_meets = λ y m t b meets f. clash (all (λ A. not (all (λ i. not (missed y i)) A)) s.learned)
            (All-all (λ A. not (all (λ i. not (missed y i)) A)) s.learned
            (all_map₂ (λ A. T (not (all (λ i. not (b i)) A))) (λ A. (i : ℕ) → T (elem i A) → i < length C) (λ A. T (not (all (λ i. not (missed y i)) A))) s.learned
            (λ A nb lt. not_T (all (λ i. not (missed y i)) A) (λ al. clash (all (λ i. not (b i)) A)
            (all_from (λ i. not (b i)) A (λ i k.
            ⊎_elim (λ g. meets.0 i (lt i k) g)
            (λ g. ⊎_elim (λ g'. f i (lt i k) (keep_in (hit C π) (below (length C)) i (in_below (length C) i (lt i k)) g'))
            (λ g'. absurd (clash (missed y i) (both (not (hits C y i)) (not (hit C π i)) g g') (all_at (λ j. not (missed y j)) A al i k))) (dec (hit C π i)))
            (dec (hits C y i)))) nb)) meets.1 small))
            (none y m);
      }

pub level_answer : (C : Clauses) (σ : Side) (π : Play) (s : LevelState) (r : List LevelState) → Small C s → ((x : Values) × YesMeaning C σ π s r x) ⊎ ((A : List ℕ) × NoMeaning C σ π s r A)
level_answer C Ours π s [] small =
    ⊎_elim (λ h. inl (h.0, last_yes C π s h.0 h.1 h.2)) (λ h. inr (open_ours C π s, last_no C π s h))
    (some_or_none (λ x. all (λ i. hit C π i || hits C x i) (below (length C))) (choices_at s))
level_answer C Ours π s (n ∷ r) small =
    ⊎_elim (λ h. inl (h.0, ours_yes C π s n r h.0 h.1 h.2)) (λ h. inr (open_ours C π s, ours_no C π s n r small h))
    (some_or_none (λ x. all (λ A. not (all (missed C π s x) A)) s.learned) (choices_at s))
level_answer C Device π s r small =
    ⊎_elim (λ h. inl (h.0, device_yes C π s r h.0 h.1 h.2)) (λ h. inr (open_device C π s, device_no C π s r small h))
    (some_or_none (λ x. all (λ A. not (all (λ i. not (missed C π s x i)) A)) s.learned) (choices_at s))
