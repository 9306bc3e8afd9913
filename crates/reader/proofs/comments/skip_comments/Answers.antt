use Rattle.std.proofs.Common.{sym, ◌∙◌}
use Rattle.reader.proofs.Leads.{lead_more}
use Rattle.reader.proofs.comments.skip_comments.Goals as goal

pub loop-i-preserved : goal.loop-i-preserved
loop-i-preserved c = sym (lead_more c.loop-i.lead c.in-Some.next c.args.text.now c.loop-i.i c.loop-i-test.true (sym c.in-Some.ensures)) ∙ c.loop-i.invariant
