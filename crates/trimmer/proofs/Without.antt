-- A list of assumptions but for one of them. Assumes nothing.
use Rattle.std.proofs.Common.{◌≡◌, ℕ, zero, suc, ◌<◌, List, [], ◌∷◌, ◌++◌, length, take, drop, ℤ, refl, ap, le_trans, arith}
use Rattle.pool.specs.Records.{Literal}
use Rattle.engine.specs.Meaning.{Asked, Proper, Part}
use Rattle.engine.specs.Meaning.Part.{none, keep, leave}
use Rattle.engine.proofs.Parts.{part_same, part_length, part_every, clash_more}
use Rattle.trimmer.specs.Trim.{assuming, without, Needed}

pub part_without : (xs : List ℤ) (i : ℕ) → Part (without xs i) xs
part_without [] i = none
part_without (x ∷ xs) zero = leave (part_same xs)
part_without (x ∷ xs) (suc i) = keep (part_without xs i)

pub part_without_two : (xs : List ℤ) (k i : ℕ) → k < i → Part (without (without xs i) k) (without xs k)
part_without_two [] k i h = none
part_without_two (x ∷ xs) k zero h = absurd (omega arith)
part_without_two (x ∷ xs) zero (suc i) h = part_without xs i
part_without_two (x ∷ xs) (suc k) (suc i) h = keep (part_without_two xs k i (omega arith))

-- what is needed stays needed when one behind it is dropped
pub needed_without : (records : List (List ℤ)) (xs : List ℤ) (i : ℕ) → Needed records xs i → Needed records (without xs i) i
needed_without records xs i needed k h clash = needed k h (clash_more records (part_without_two xs k i h) clash)

pub without_is : (xs : List ℤ) (i : ℕ) → without xs i ≡ take i xs ++ drop (suc i) xs
without_is [] zero = refl
without_is [] (suc i) = refl
without_is (x ∷ xs) zero = refl
without_is (x ∷ xs) (suc i) = ap (λ t. x ∷ t) (without_is xs i)

pub length_without : (xs : List ℤ) (i : ℕ) → i < length xs → suc (length (without xs i)) ≡ length xs
length_without [] i h = absurd (omega arith)
length_without (x ∷ xs) zero h = refl
length_without (x ∷ xs) (suc i) h = ap suc (length_without xs i (omega arith))

-- a question with fewer assumptions is as proper
pub proper_part : (q : Asked) (xs ys : List ℤ) → Proper (assuming q ys) → Part xs ys → Proper (assuming q xs)
proper_part q xs ys proper part =
    record { sound = proper.sound; literals = part_every (Literal q.signals) part proper.literals; few = le_trans (part_length part) proper.few }
