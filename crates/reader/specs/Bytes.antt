-- Bytes, and the numbers that words of bytes write.
use Rattle.std.specs.Prelude.{ℕ, ◌+◌, ◌-◌, ◌*◌, Bool, cond, not, ◌&&◌, ◌||◌, List, [], ◌∷◌, length, drop, ℤ, pos, neg_ℤ, Some, None, Option, ◌==◌, nat_le, nat_lt, slice_index}
use Rattle.std.specs.Option.{option_map}

-- space, tab, carriage return, line feed
abbrev pub blank : ℕ → Bool
blank b = b == 32 || b == 9 || b == 13 || b == 10

abbrev pub in_word : ℕ → Bool
in_word b = not (blank b)

abbrev pub lower : ℕ → Bool
lower b = nat_le 97 b && nat_le b 122

abbrev pub digit : ℕ → Bool
digit b = nat_le 48 b && nat_le b 57

-- what digits write, after the number so far
abbrev pub read_on : ℕ → List ℕ → Option ℕ
read_on n [] = Some n
read_on n (c ∷ cs) = cond (digit c) (read_on (n * 10 + (c - 48)) cs) None

-- one to nine digits, the first not 0
abbrev pub plain : List ℕ → Option ℕ
plain w = cond (length w == 0 || nat_lt 9 (length w) || slice_index w 0 == 48) None (read_on 0 w)

-- 0, or one to nine digits with no leading zero; a minus may stand before any but 0
abbrev pub number_of : List ℕ → Option ℤ
number_of w =
    cond (length w == 1 && slice_index w 0 == 48) (Some (pos 0))
    (cond (slice_index w 0 == 45) (option_map (λ n. neg_ℤ (pos n)) (plain (drop 1 w))) (option_map pos (plain w)))
