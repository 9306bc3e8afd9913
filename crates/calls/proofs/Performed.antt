-- A call at a table goes on from any run; and so does a list of calls.
use Rattle.std.proofs.Common.{◌≡◌, ℕ, zero, suc, ◌+◌, ◌<◌, ◌≤◌, List, [], ◌∷◌, ◌++◌, map, length, get_or, take, set, Ok, Err, Result, sym, refl, ap, ◌∙◌, subst, add-one, arith, MatchResult}
use Rattle.formula.specs.Backward.{onto}
use Rattle.std.proofs.lemmas.List.{map-set, get_or-map, length-map, set-get_or}
use Rattle.calls.specs.declared.call.Call.{Call}
use Rattle.calls.specs.declared.call.Outcome.{Outcome}
use Rattle.calls.specs.declared.seat.Seat.{Seat}
use Rattle.calls.specs.Acts.{act_of, Told, told_by, no_table}
use Rattle.calls.specs.Places.{Place, place_of, nowhere}
use Rattle.calls.specs.Happening.{Happens}
use Rattle.calls.specs.Runs.{Event, Run, call, call_nowhere, event_of, events_of}
use Rattle.calls.specs.Laws.{Law, Continues}
use Rattle.calls.proofs.Kept.{law_of_all_runs}

pub continues_nowhere : (places : List Place) (c : Call) → length places ≤ c.table → Continues (event_of c no_table ∷ []) places places
continues_nowhere places c past events run = let r = call_nowhere c.table (act_of c.action) run past in (r, law_of_all_runs _ _ r)

continues_call : (most : ℕ) (places : List Place) (c : Call) (told : Told) (after : Place) → c.table < length places → Happens most (act_of c.action) (get_or places c.table nowhere) told after
    → Continues (event_of c told ∷ []) places (set places c.table after)
continues_call most places c told after here h events run = let r = call most c.table (act_of c.action) told after run here h in (r, law_of_all_runs _ _ r)

module _ (most : ℕ) (xs : List Seat) (c : Call) (d s : Seat) (here : c.table < length xs) where
  in_map : c.table < length (map place_of xs)
  in_map = subst (λ k. c.table < k) (sym (length-map xs place_of)) here

  element : get_or (map place_of xs) c.table nowhere ≡ place_of (get_or xs c.table d)
  element = get_or-map place_of xs c.table d nowhere here

  pub performed : {E : Type 0} (after : Place) (r : Result Outcome E) → place_of s ≡ after
      → MatchResult r (λ o. Happens most (act_of c.action) (place_of (get_or xs c.table d)) (told_by o) after) (λ _. after ≡ place_of (get_or xs c.table d))
      → MatchResult r (λ o. Continues (event_of c (told_by o) ∷ []) (map place_of xs) (map place_of (set xs c.table s))) (λ _. map place_of (set xs c.table s) ≡ map place_of xs)
  performed after (Ok o) is h =
      subst (Continues (event_of c (told_by o) ∷ []) (map place_of xs)) (sym (map-set place_of xs c.table s ∙ ap (set (map place_of xs) c.table) is))
      (continues_call most (map place_of xs) c (told_by o) after in_map (subst (λ p. Happens most (act_of c.action) p (told_by o) after) (sym element) h))
  performed after (Err e) is h =
      map-set place_of xs c.table s ∙ ap (set (map place_of xs) c.table) (is ∙ h ∙ sym element) ∙ set-get_or (map place_of xs) c.table nowhere

-- no call, and one call more
pub continues_none : (places : List Place) → Continues [] places places
continues_none places events run = (run, law_of_all_runs _ _ run)

onto-push : {A : Type 0} (l r : List A) (x : A) → onto (l ++ (x ∷ [])) r ≡ x ∷ onto l r
onto-push [] r x = refl
onto-push (y ∷ l) r x = onto-push l (y ∷ r) x

pub continues_more : (new : List Event) (e : Event) (before between after : List Place) → Continues new before between → Continues (e ∷ []) between after → Continues (new ++ (e ∷ [])) before after
continues_more new e before between after a b events run =
    subst (λ es. Run es after × Law es after) (sym (onto-push new events e)) (b (onto new events) (a events run).0)

pub events_more : (cs : List Call) (ts : List Told) (i : ℕ) (c : Call) (t : Told) → i < length cs → length ts ≡ i
    → events_of (take (i + 1) cs) (ts ++ (t ∷ [])) ≡ events_of (take i cs) ts ++ (event_of (get_or cs i c) t ∷ [])
events_more cs ts i c t h e = ap (λ k. events_of (take k cs) (ts ++ (t ∷ []))) (add-one i) ∙ by cs ts i h e
  where
    by : (cs : List Call) (ts : List Told) (i : ℕ) → i < length cs → length ts ≡ i → events_of (take (suc i) cs) (ts ++ (t ∷ [])) ≡ events_of (take i cs) ts ++ (event_of (get_or cs i c) t ∷ [])
    by [] ts i h e = absurd (omega arith)
    by (x ∷ cs) [] zero h e = refl
    by (x ∷ cs) [] (suc i) h e = absurd (omega arith)
    by (x ∷ cs) (y ∷ ts) zero h e = absurd (omega arith)
    by (x ∷ cs) (y ∷ ts) (suc i) h e = ap (λ l. event_of x y ∷ l) (by cs ts i (omega arith) (omega arith))
