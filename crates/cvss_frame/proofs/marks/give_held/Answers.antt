use Rattle.std.proofs.Common.{ap, sym, ◌∙◌}
use Rattle.cvss_frame.proofs.MarksLemmas.{put_one, put_two}
use Rattle.cvss_frame.specs.Marks.{held}
use Rattle.cvss_frame.proofs.marks.give_held.Goals as goal

pub returns-in-One-clause-bytes : goal.returns-in-One-clause-bytes
returns-in-One-clause-bytes c = put_one c.args.buf.now c.in-One.first c.requires ∙ sym (ap held c.in-One.is)

pub returns-in-Two-clause-bytes : goal.returns-in-Two-clause-bytes
returns-in-Two-clause-bytes c = put_two c.args.buf.now c.in-Two.first c.in-Two.second c.requires ∙ sym (ap held c.in-Two.is)
