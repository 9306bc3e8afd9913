use Rattle.std.proofs.Common.{◌≡◌, drop}
use Rattle.reader.specs.Comments.{words_from, text_words}
use Rattle.reader.proofs.comments.skip_comments.Given as goal

abbrev pub invariant-loop-i : goal.invariant-loop-i
invariant-loop-i l = words_from l.lead l.i (drop l.i l.text) ≡ text_words l.text
