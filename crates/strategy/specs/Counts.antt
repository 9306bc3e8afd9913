-- How few entries and learned sets a level has.
use Rattle.std.specs.Prelude.{◌≡◌, ℕ, ◌+◌, ◌^◌, ◌≤◌, not, T, List, [], ◌∷◌, length}
use Rattle.formula.specs.Lists.{all, All, each, elem}
use Rattle.strategy.specs.Entries.{Entry, LevelState, entries_of}

-- no entry's set contains the set of an older entry
abbrev pub NoSuperset : List Entry → Type 0
NoSuperset [] = Unit {0}
NoSuperset (e ∷ older) = All (λ e'. T (not (all (λ i. elem i e.set) e'.set))) older × NoSuperset older

-- so at each level; and a level has at most 2 ^ r entries, r the variables bound before it
abbrev pub FewEntries : ℕ → List LevelState → Type 0
FewEntries r [] = Unit {0}
FewEntries r (s ∷ after) = NoSuperset s.entries × (length s.entries ≤ 2 ^ r) × FewEntries (length s.variables + r) after

-- what a level has learned are the sets of the next level's entries, in their order
abbrev pub sets_of : List Entry → List (List ℕ)
sets_of es = each (λ (e : Entry). e.set) es

abbrev pub LearnedAreEntries : List LevelState → Type 0
LearnedAreEntries [] = Unit {0}
LearnedAreEntries (s ∷ after) = (s.learned ≡ sets_of (entries_of after)) × LearnedAreEntries after

-- so a level has learned at most 2 ^ r sets, r the variables bound up to its end
abbrev pub FewLearned : ℕ → List LevelState → Type 0
FewLearned r [] = Unit {0}
FewLearned r (s ∷ after) = (length s.learned ≤ 2 ^ (length s.variables + r)) × FewLearned (length s.variables + r) after
