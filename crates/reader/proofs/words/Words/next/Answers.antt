use Rattle.std.proofs.Common.{◌≡◌, ℕ, ◌+◌, ◌-◌, ◌≤◌, false, ◌&&◌, eqb, List, ◌∷◌, length, get_or, take, drop, sym, refl, ap, ◌∙◌, arith, rules, tests}
use Rattle.std.specs.List.{prefix_len}
use Rattle.std.proofs.lemmas.Bool.{cond-true, cond-false, and_from, and_left, and_right, eq-eqb, ne_eqb}
use Rattle.std.proofs.lemmas.List.{drop-drop, take_rest, length-take-le, length-drop}
use Rattle.std.proofs.lemmas.List.Folds.{length-prefix_len}
use Rattle.std.proofs.lemmas.Iterator.{YieldsList-from_slice}
use Rattle.std.proofs.lemmas.Iterator.Consumers.{count_from_yields_List}
use Rattle.std.proofs.lemmas.Iterator.Search.{YieldsList-from_take_while}
use Rattle.reader.specs.Bytes.{blank, in_word, lower, number_of}
use Rattle.reader.specs.Words.{said, first, rest, by_number, left_at, end}
use Rattle.reader.proofs.Splits.{Cut, top, skips, at_end_lem, none_left, one_left}
use Rattle.reader.proofs.words.Words.next.Goals as goal
use Rattle.reader.proofs.words.Words.next.Goals.{After-count-word_len, in_default-via-in-len1+else-is_ascii_lowercase, in_default-via-else-word-lt2}

cut : (c : After-count-word_len) → let a = c.args.self.now.at in Cut c.args.self.now.text.now a (a + c.count-gap.result) (a + c.count-gap.result + c.count-word_len.result)
cut c =
    let t = c.args.self.now.text.now in
    let a = c.args.self.now.at in
    let left = take (length t - a) (drop a t) in
    let there : left ≡ drop a t = take_rest t a in
    let gap : c.count-gap.result ≡ prefix_len blank (drop a t) =
    count_from_yields_List c.take_while.result c.count-gap.result c.count-gap.ensures.ran
    (YieldsList-from_take_while _ blank (YieldsList-from_slice left (cc)) c.take_while.ensures.closure c.take_while.ensures.done (λ x b q k. search (rules, tests)))
    ∙ length-prefix_len blank left ∙ ap (prefix_len blank) there in
    let s = a + c.count-gap.result in
    let after = take (length left - c.count-gap.result) (drop c.count-gap.result left) in
    let len : c.count-word_len.result ≡ prefix_len in_word (drop s t) =
    count_from_yields_List c.take_while-2.result c.count-word_len.result c.count-word_len.ensures.ran
    (YieldsList-from_take_while _ in_word (YieldsList-from_slice after (cc)) c.take_while-2.ensures.closure c.take_while-2.ensures.done (λ x b q k. search (rules, tests)))
    ∙ length-prefix_len in_word after ∙ ap (prefix_len in_word) (take_rest left c.count-gap.result ∙ ap (drop c.count-gap.result) there ∙ drop-drop c.count-gap.result a t) in
    record { from = c.args.self.now.ok; begins = ap (λ k. a + k) gap; ends = ap (λ k. s + k) len }

-- the word, and how long it is
abbrev word : After-count-word_len → List ℕ
word c = let s = c.args.self.now.at + c.count-gap.result in take (s + c.count-word_len.result - s) (drop s c.args.self.now.text.now)

long : (c : After-count-word_len) → length (word c) ≡ c.count-word_len.result
long c =
    let s = c.args.self.now.at + c.count-gap.result in
    length-take-le (s + c.count-word_len.result - s) (drop s c.args.self.now.text.now) (omega (arith, top (cut c), length-drop s c.args.self.now.text.now)) ∙ omega arith

-- what is left begins with the word, where it is not empty
one : (c : After-count-word_len) → 1 ≤ length (word c) → let s = c.args.self.now.at + c.count-gap.result in left_at c.args.self.now.text.now c.args.self.now.at ≡ record { bytes = word c; place = s } ∷ left_at c.args.self.now.text.now (s + c.count-word_len.result)
one c some = one_left (cut c) (λ e. omega (arith, long c))

pub returns-in-empty : goal.returns-in-empty
returns-in-empty c =
    let t = c.args.self.now.text.now in
    let k = cut (goal.at.returns-in-empty c).After-count-word_len in
    let same : c.args.self.now.at + c.count-gap.result ≡ c.args.self.now.at + c.count-gap.result + c.count-word_len.result = omega (arith, c.in-empty.len_below, long (goal.at.returns-in-empty c).After-count-word_len) in
    let gone = none_left k same in
    let full = at_end_lem k same in
    record {
      said = ap end full ∙ sym (ap (first _) gone);
      left = ap (left_at t) (sym same) ∙ sym (skips k) ∙ gone ∙ sym (ap rest gone);
      part = (full, sym same);
      text = refl;
    }

pub returns-in-len1-clause-said : goal.returns-in-len1-clause-said
returns-in-len1-clause-said c =
    let w = one (goal.at.returns-in-len1-clause-said c).After-count-word_len c.in-len1.len_at_least in
    let short : length (word (goal.at.returns-in-len1-clause-said c).After-count-word_len) ≡ 1 = omega (arith, c.in-len1.len_at_least, c.in-len1.len_below) in
    sym (ap (first _) w ∙ cond-true _ _ _ (and_from _ _ (eq-eqb _ _ short) (sym c.if-is_ascii_lowercase.ensures.value)))

pub returns-in-len1-clause-left : goal.returns-in-len1-clause-left
returns-in-len1-clause-left c = sym (ap rest (one (goal.at.returns-in-len1-clause-left c).After-count-word_len c.in-len1.len_at_least))

pub returns-in_default-clause-said : goal.returns-in_default-clause-said
returns-in_default-clause-said c =
    let b = word (goal.at.returns-in_default-clause-said c).After-count-word_len in
    let s = c.args.self.now.at + c.count-gap.result in
    let some : 1 ≤ length b = elim c.in_default.branch [ in_default-via-in-len1+else-is_ascii_lowercase v ↦ v.in-len1.len_at_least | in_default-via-else-word-lt2 v ↦ search rules ] in
    let w = one (goal.at.returns-in_default-clause-said c).After-count-word_len some in
    let plain : (eqb (length b) 1 && lower (get_or b 0 0)) ≡ false = elim c.in_default.branch [
      | in_default-via-in-len1+else-is_ascii_lowercase v ↦ and_right _ _ (sym v.if-is_ascii_lowercase.ensures.value)
      | in_default-via-else-word-lt2 v ↦ let more : 2 ≤ length b = search rules in and_left _ _ (ne_eqb (length b) 1 (λ e. omega arith))
    ] in
    let is : said c.map_or.result ≡ by_number (number_of b) (record { bytes = b; place = s }) = search rules in
    is ∙ sym (ap (first _) w ∙ cond-false _ _ _ plain)

pub returns-in_default-clause-left : goal.returns-in_default-clause-left
returns-in_default-clause-left c =
    let b = word (goal.at.returns-in_default-clause-left c).After-count-word_len in
    let some : 1 ≤ length b = elim c.in_default.branch [ in_default-via-in-len1+else-is_ascii_lowercase v ↦ v.in-len1.len_at_least | in_default-via-else-word-lt2 v ↦ search rules ] in
    sym (ap rest (one (goal.at.returns-in_default-clause-left c).After-count-word_len some))
