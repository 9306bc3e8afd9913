-- Some elements of a list, in its order. Assumes nothing.
use Rattle.std.proofs.Common.{◌≡◌, ℕ, ◌≤◌, Bool, true, List, [], ◌∷◌, length, ℤ, refl, arith}
use Rattle.std.specs.List.{AllByRecursion}
use Rattle.std.proofs.lemmas.Bool.{and_parts, and_from}
use Rattle.engine.specs.Truth.{literal, each}
use Rattle.engine.specs.Meaning.{Clash, Part}
use Rattle.engine.specs.Meaning.Part.{none, keep, leave}

pub part_same : (xs : List ℤ) → Part xs xs
part_same [] = none
part_same (x ∷ xs) = keep (part_same xs)

pub part_trans : {xs ys zs : List ℤ} → Part xs ys → Part ys zs → Part xs zs
part_trans p none = p
part_trans (keep p) (keep q) = keep (part_trans p q)
part_trans (leave p) (keep q) = leave (part_trans p q)
part_trans p (leave q) = leave (part_trans p q)

pub part_length : {xs ys : List ℤ} → Part xs ys → length xs ≤ length ys
part_length none = omega arith
part_length (keep p) = let h = part_length p in omega arith
part_length (leave p) = let h = part_length p in omega arith

pub part_every : (P : ℤ → Type 0) {xs ys : List ℤ} → Part xs ys → AllByRecursion P ys → AllByRecursion P xs
part_every P none h = tt
part_every P (keep p) h = (h.0, part_every P p h.1)
part_every P (leave p) h = part_every P p h.1

pub part_each : (a : ℕ → Bool) {xs ys : List ℤ} → Part xs ys → each a ys ≡ true → each a xs ≡ true
part_each a none h = refl
part_each a (keep {x} {xs} {ys} p) h = let both = and_parts (literal a x) (each a ys) h in and_from (literal a x) (each a xs) both.0 (part_each a p both.1)
part_each a (leave {x} {xs} {ys} p) h = part_each a p (and_parts (literal a x) (each a ys) h).1

-- what clashes still does with more
pub clash_more : (records : List (List ℤ)) {xs ys : List ℤ} → Part xs ys → Clash records xs → Clash records ys
clash_more records p clash a meets = clash a (meets.0, part_each a p meets.1)
