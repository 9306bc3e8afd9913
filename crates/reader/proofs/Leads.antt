-- One byte more before the first word.
use Rattle.std.proofs.Common.{◌≡◌, ℕ, suc, ◌+◌, ◌<◌, List, ◌∷◌, length, get_or, drop, Some, sym, ap, ◌∙◌, add-one}
use Rattle.std.proofs.lemmas.List.{drop_more}
use Rattle.reader.specs.declared.comments.Lead.{Lead}
use Rattle.reader.specs.Comments.{past, go_on, words_from}
use Rattle.reader.specs.Words.{words}

pub lead_more : (m m' : Lead) (t : List ℕ) (i : ℕ) → i < length t → past m (get_or t i 0) ≡ Some m' → words_from m i (drop i t) ≡ words_from m' (i + 1) (drop (i + 1) t)
lead_more m m' t i h e =
    ap (words_from m i) (drop_more t i 0 h)
    ∙ ap (λ o. go_on o (λ n. words_from n (suc i) (drop (i + 1) t)) (words i (get_or t i 0 ∷ drop (i + 1) t))) e
    ∙ ap (λ j. words_from m' j (drop (i + 1) t)) (sym (add-one i))
