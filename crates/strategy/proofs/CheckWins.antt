-- What passes the check by meaning wins: the recorded plan of the side that is checked wins every play.
use Rattle.std.proofs.Common.{◌≡◌, ℕ, ◌<◌, Bool, true, false, cond, not, ◌&&◌, ◌||◌, T, List, [], ◌∷◌, length, sym, subst, ⊎_elim}
use mathlib.Core.Option.{Option, some}
use lib.Dec.{not_T}
use Rattle.formula.specs.Game.{Values, Clauses, Play, hits, hit, every_hit}
use Rattle.formula.specs.Lists.{all, find, In, All, Any, elem, below}
use Rattle.formula.proofs.Members.{all_or, any_map, any_gives}
use Rattle.formula.proofs.Tests.{dec, clash, twice, once, or_l, or_r, or_cases, nor, both, and_l, and_r, all_at, all_from, in_below, below_in}
use Rattle.strategy.specs.Entries.{Entry, LevelState, choices_at, fits, entries_of}
use Rattle.strategy.specs.Meaning.{Meets, NothingMeets}
use Rattle.strategy.proofs.ByMeaning.{MeaningLearned, MeaningEntry, MeaningRules, MeaningCheck, HasMove, RecordedWins}
use Rattle.formula.specs.declared.side.Side.{Side}
use Rattle.formula.specs.declared.side.Side.TheVariants.{Ours, Device}

-- where some entry fits, the newest that does is followed
pick : (s : LevelState) (p : Entry → Bool) (K : Values → Type 0) (e : Entry) (o : Option Entry) (b : Bool)
    → (T b → In e.values (choices_at s) × K e.values) → (T (not b) → HasMove s o K) → HasMove s (cond b (some e) o) K
pick s p K e o true f g = f tt
pick s p K e o false f g = g tt

follow : (s : LevelState) (p : Entry → Bool) (P : Entry → Type 0) (K : Values → Type 0) (l : List Entry)
    → ((e : Entry) → P e → T (p e) → K e.values) → All (λ e. In e.values (choices_at s) × P e) l → Any (λ e. T (p e)) l → HasMove s (find p l) K
follow s p P K [] f h k = k
follow s p P K (e ∷ l) f h k =
    pick s p K e (find p l) (p e) (λ t. (h.0.0, f e h.0.1 t))
    (λ n. follow s p P K l f h.1 (⊎_elim (λ t. absurd (clash (p e) t n)) (λ r. r) k))

-- ours: at a device's level whose chain nothing meets when b is false at F, clauses that the play π hits, each choice leads to an entry that fits
ours_next : (C : Clauses) (d : LevelState) (r : List LevelState) (π : Play) (F : ℕ → Bool) → NothingMeets C Device d r F → ((i : ℕ) → T (F i) → T (hit C π i))
    → MeaningLearned d r → (y : Values) → In y (choices_at d) → Any (λ e. T (fits C Ours (y ∷ π) e)) (entries_of r)
ours_next C d r π F st sub bk y m =
    ⊎_elim (λ ok. absurd (st y m (λ i. true) b (λ i lt h. twice (F i || hits C y i) (or_r (F i) (hits C y i) h), ok) (λ i lt f. twice (F i || hits C y i) (or_l (F i) (hits C y i) f))))
    (λ bad. any_gives (λ A. Any (λ e. T (all (λ i. elem i A) e.set)) (entries_of r)) (λ A. T (all (λ i. not (b i)) A)) (Any (λ e. T (fits C Ours (y ∷ π) e)) (entries_of r)) d.learned
    (λ A some fals. any_map (λ e. T (all (λ i. elem i A) e.set)) (λ e. T (fits C Ours (y ∷ π) e)) (entries_of r) (λ e inside. fit A fals e inside) some) bk bad)
    (all_or (λ A. all (λ i. not (b i)) A) d.learned)
  where
    b : ℕ → Bool
    b i = not (F i || hits C y i)

    hit_by : (i : ℕ) → T (F i || hits C y i) → T (hit C (y ∷ π) i)
    hit_by i h = ⊎_elim (λ f. or_r (hits C y i) (hit C π i) (sub i f)) (λ g. or_l (hits C y i) (hit C π i) g) (or_cases (F i) (hits C y i) h)

    fit : (A : List ℕ) → T (all (λ i. not (b i)) A) → (e : Entry) → T (all (λ i. elem i A) e.set) → T (fits C Ours (y ∷ π) e)
    fit A fals e inside =
        all_from (hit C (y ∷ π)) e.set (λ i h. hit_by i (once (F i || hits C y i) (all_at (λ j. not (b j)) A fals i (all_at (λ j. elem j A) e.set inside i h))))

ours_end : (C : Clauses) (π : Play) (e : Entry) → MeaningEntry C Ours [] e → T (fits C Ours π e) → T (every_hit C (e.values ∷ π))
ours_end C π e holds_of ft =
    all_from (hit C (e.values ∷ π)) (below (length C))
    (λ i h. ⊎_elim (λ m. or_r (hits C e.values i) (hit C π i) (all_at (hit C π) e.set ft i m)) (or_l (hits C e.values i) (hit C π i))
    (or_cases (elem i e.set) (hits C e.values i) (holds_of i (below_in (length C) i h))))

ours_sub : (C : Clauses) (π : Play) (e : Entry) → T (fits C Ours π e) → (i : ℕ) → T (elem i e.set || hits C e.values i) → T (hit C (e.values ∷ π) i)
ours_sub C π e ft i h =
    ⊎_elim (λ m. or_r (hits C e.values i) (hit C π i) (all_at (hit C π) e.set ft i m)) (or_l (hits C e.values i) (hit C π i))
    (or_cases (elem i e.set) (hits C e.values i) h)

ours_wait : (C : Clauses) (d : LevelState) (r : List LevelState) (π : Play) (F : ℕ → Bool) → NothingMeets C Device d r F → ((i : ℕ) → T (F i) → T (hit C π i))
    → MeaningRules C Ours Device (d ∷ r) → (y : Values) → In y (choices_at d) → RecordedWins C Ours Ours r (y ∷ π)
ours_wait C d [] π F st sub rs y m = absurd (ours_next C d [] π F st sub rs.0 y m)
ours_wait C d (o ∷ []) π F st sub rs y m =
    follow o (fits C Ours (y ∷ π)) (λ e. MeaningEntry C Ours [] e) (λ x. RecordedWins C Ours Device [] (x ∷ y ∷ π)) o.entries (λ e holds_of ft. ours_end C (y ∷ π) e holds_of ft)
    rs.1.0 (ours_next C d (o ∷ []) π F st sub rs.0 y m)
ours_wait C d (o ∷ d' ∷ r) π F st sub rs y m =
    follow o (fits C Ours (y ∷ π)) (λ e. MeaningEntry C Ours (d' ∷ r) e) (λ x. RecordedWins C Ours Device (d' ∷ r) (x ∷ y ∷ π)) o.entries
    (λ e holds_of ft. ours_wait C d' r (e.values ∷ y ∷ π) (λ i. elem i e.set || hits C e.values i) holds_of (ours_sub C (y ∷ π) e ft) rs.1.1)
    rs.1.0 (ours_next C d (o ∷ d' ∷ r) π F st sub rs.0 y m)

-- the device's: at our level whose chain nothing meets when t is false at F, clauses that the play π does not hit
module _ (C : Clauses) (π : Play) (F : ℕ → Bool) (sub : (i : ℕ) → T (F i) → T (not (hit C π i))) (y : Values) where
  device_end : (o : LevelState) → NothingMeets C Ours o [] F → In y (choices_at o) → T (not (every_hit C (y ∷ π)))
  device_end o st m = not_T (every_hit C (y ∷ π)) (λ f. st y m (λ i. not (F i)) (λ i. false) (meets f) (λ i lt h. twice (F i) h))
    where
      meets : T (every_hit C (y ∷ π)) → Meets C Ours o [] y (λ i. not (F i)) (λ i. false)
      meets f i lt h =
          ⊎_elim (λ g. g) (λ g. absurd (clash (hit C π i) g (sub i (once (F i) h))))
          (or_cases (hits C y i) (hit C π i) (all_at (hit C (y ∷ π)) (below (length C)) f i (in_below (length C) i lt)))

  device_next : (o n : LevelState) (r : List LevelState) → NothingMeets C Ours o (n ∷ r) F → MeaningLearned o (n ∷ r) → In y (choices_at o)
      → Any (λ e. T (fits C Device (y ∷ π) e)) n.entries
  device_next o n r st bk m =
      ⊎_elim (λ ok. absurd (st y m (λ i. not (F i)) b (meets, ok) (λ i lt h. twice (F i) h)))
      (λ bad. any_gives (λ A. Any (λ e. T (all (λ i. elem i A) e.set)) n.entries) (λ A. T (all b A)) (Any (λ e. T (fits C Device (y ∷ π) e)) n.entries) o.learned
      (λ A some fals. any_map (λ e. T (all (λ i. elem i A) e.set)) (λ e. T (fits C Device (y ∷ π) e)) n.entries (λ e inside. fit A fals e inside) some) bk bad)
      (all_or (λ A. all b A) o.learned)
    where
      b : ℕ → Bool
      b i = F i && not (hits C y i)

      meets : (i : ℕ) → i < length C → T (not (not (F i))) → T (not (b i)) → T (hits C y i)
      meets i lt f nb =
          ⊎_elim (λ h. h) (λ h. absurd (clash (b i) (both (F i) (not (hits C y i)) (once (F i) f) h) nb)) (dec (hits C y i))

      fit : (A : List ℕ) → T (all b A) → (e : Entry) → T (all (λ i. elem i A) e.set) → T (fits C Device (y ∷ π) e)
      fit A fals e inside =
          all_from (λ i. not (hit C (y ∷ π) i)) e.set
          (λ i h. let q : T (b i) = all_at b A fals i (all_at (λ j. elem j A) e.set inside i h) in
          nor (hits C y i) (hit C π i) (and_r (F i) (not (hits C y i)) q) (sub i (and_l (F i) (not (hits C y i)) q)))

device_sub : (C : Clauses) (π : Play) (e : Entry) → ((i : ℕ) → T (elem i e.set) → T (not (hits C e.values i))) → T (fits C Device π e)
    → (i : ℕ) → T (elem i e.set) → T (not (hit C (e.values ∷ π) i))
device_sub C π e h ft i m = nor (hits C e.values i) (hit C π i) (h i m) (all_at (λ j. not (hit C π j)) e.set ft i m)

device_wait : (C : Clauses) (o : LevelState) (r : List LevelState) (π : Play) (F : ℕ → Bool) → NothingMeets C Ours o r F → ((i : ℕ) → T (F i) → T (not (hit C π i)))
    → MeaningRules C Device Ours (o ∷ r) → (y : Values) → In y (choices_at o) → RecordedWins C Device Device r (y ∷ π)
device_wait C o [] π F st sub rs y m = device_end C π F sub y o st m
device_wait C o (n ∷ []) π F st sub rs y m =
    follow n (fits C Device (y ∷ π)) (λ e. MeaningEntry C Device [] e) (λ x. RecordedWins C Device Ours [] (x ∷ y ∷ π)) n.entries (λ e holds_of ft. absurd holds_of)
    rs.1.0 (device_next C π F sub y o n [] st rs.0 m)
device_wait C o (n ∷ o' ∷ r) π F st sub rs y m =
    follow n (fits C Device (y ∷ π)) (λ e. MeaningEntry C Device (o' ∷ r) e) (λ x. RecordedWins C Device Ours (o' ∷ r) (x ∷ y ∷ π)) n.entries
    (λ e holds_of ft. device_wait C o' r (e.values ∷ y ∷ π) (λ i. elem i e.set) holds_of.1 (device_sub C (y ∷ π) e holds_of.0 ft) rs.1.1)
    rs.1.0 (device_next C π F sub y o n (o' ∷ r) st rs.0 m)

-- the first level
pub check_wins : (C : Clauses) (w σ : Side) (states : List LevelState) → MeaningCheck C w σ states → RecordedWins C w σ states []
check_wins C Ours σ [] c = subst (λ n. T (all (hit C []) (below n))) (sym c.starts) tt
check_wins C Device σ [] c = not_T (every_hit C []) (λ f. all_at (hit C []) (below (length C)) f 0 (in_below (length C) 0 c.starts))
check_wins C Ours Device (d ∷ r) c = ours_wait C d r [] (λ i. false) c.starts (λ i h. h) c.rules
check_wins C Device Ours (o ∷ r) c = device_wait C o r [] (λ i. true) c.starts (λ i h. tt) c.rules
check_wins C Ours Ours (o ∷ []) c =
    follow o (fits C Ours []) (λ e. MeaningEntry C Ours [] e) (λ x. RecordedWins C Ours Device [] (x ∷ [])) o.entries (λ e holds_of ft. ours_end C [] e holds_of ft)
    c.rules.0 (any_map (λ e. e.set ≡ []) (λ e. T (fits C Ours [] e)) o.entries (λ e q. subst (λ A. T (all (hit C []) A)) (sym q) tt) c.starts)
check_wins C Ours Ours (o ∷ d ∷ r) c =
    follow o (fits C Ours []) (λ e. MeaningEntry C Ours (d ∷ r) e) (λ x. RecordedWins C Ours Device (d ∷ r) (x ∷ [])) o.entries
    (λ e holds_of ft. ours_wait C d r (e.values ∷ []) (λ i. elem i e.set || hits C e.values i) holds_of (ours_sub C [] e ft) c.rules.1)
    c.rules.0 (any_map (λ e. e.set ≡ []) (λ e. T (fits C Ours [] e)) o.entries (λ e q. subst (λ A. T (all (hit C []) A)) (sym q) tt) c.starts)
check_wins C Device Device (n ∷ []) c =
    follow n (fits C Device []) (λ e. MeaningEntry C Device [] e) (λ x. RecordedWins C Device Ours [] (x ∷ [])) n.entries (λ e holds_of ft. absurd holds_of)
    c.rules.0 (any_map (λ e. Unit {0}) (λ e. T (fits C Device [] e)) n.entries (λ e q. all_from (λ i. true) e.set (λ i m. tt)) c.starts)
check_wins C Device Device (n ∷ o ∷ r) c =
    follow n (fits C Device []) (λ e. MeaningEntry C Device (o ∷ r) e) (λ x. RecordedWins C Device Ours (o ∷ r) (x ∷ [])) n.entries
    (λ e holds_of ft. device_wait C o r (e.values ∷ []) (λ i. elem i e.set) holds_of.1 (device_sub C [] e holds_of.0 ft) c.rules.1)
    c.rules.0 (any_map (λ e. Unit {0}) (λ e. T (fits C Device [] e)) n.entries (λ e q. all_from (λ i. true) e.set (λ i m. tt)) c.starts)
