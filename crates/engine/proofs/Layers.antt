-- What a layer learns of the answer below it. Assumes nothing.
use Rattle.std.proofs.Common.{◌≡◌, ℕ, ◌≤◌, Bool, List, ◌++◌, length, take, drop, ℤ, sym, ap, ◌∙◌, subst, le_trans, arith}
use Rattle.std.proofs.lemmas.List.{take_at, length-take-le}
use Rattle.engine.specs.declared.question.Answer.{Answer}
use Rattle.engine.specs.declared.question.Answer.TheVariants.{Yes, No}
use Rattle.engine.specs.Meaning.{Asked, clauses, Meets, Clash, Part, Given, values}
use Rattle.engine.proofs.Parts.{part_length}
use Rattle.engine.proofs.Values.{length_values}

-- after 'no', the first n words are the assumptions that clash
pub record Named (q : Asked) (after : List ℤ) (n : ℕ) : Type 0 where
  pub part : Part (take n after) q.assumed
  pub clash : Clash (clauses q) (take n after)
  pub few : n ≤ length q.assumed

pub named_from_no : (q : Asked) (before after : List ℤ) (found : Answer) (n : ℕ) → found ≡ No n → Given q before after found → Named q after n
named_from_no q before after found n e given =
    let no : Given q before after (No n) = subst (Given q before after) e given in
    let is : no.0 ≡ take n after = sym (ap (take n) no.4 ∙ take_at no.0 (drop n before) n no.1) in
    let part = no.2 in
    let size = part_length part in
    record { part = subst (λ l. Part l q.assumed) is part; clash = subst (Clash (clauses q)) is no.3; few = le_trans (omega arith) size }

-- after 'yes', the first words are the values
pub values_from_yes : (q : Asked) (before after out : List ℤ) (found : Answer) → found ≡ Yes → Given q before after found
    → (a : ℕ → Bool) × Meets (clauses q) q.assumed a × (take q.signals after ++ drop q.signals out ≡ values a q.signals ++ drop q.signals out)
values_from_yes q before after out found e given =
    let yes : Given q before after Yes = subst (Given q before after) e given in
    let is = ap (take q.signals) yes.2 ∙ take_at (values yes.0 q.signals) (drop q.signals before) q.signals (length_values yes.0 q.signals) in
    (yes.0, yes.1, ap (λ l. l ++ drop q.signals out) is)

-- the first n words of a copy of n words
pub take_copy : (n : ℕ) (from to : List ℤ) → n ≤ length from → take n (take n from ++ drop n to) ≡ take n from
take_copy n from to h = take_at (take n from) (drop n to) n (length-take-le n from h)
