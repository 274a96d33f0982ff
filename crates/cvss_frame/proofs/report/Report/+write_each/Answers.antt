use Rattle.cvss_frame.proofs.ReportsLemmas.{Reports-first, parts_first}
use Rattle.cvss_frame.proofs.report.Report.+write_each.Goals as goal

pub returns-in-len1-up : goal.returns-in-len1-up
returns-in-len1-up g t c =
    Reports-first _ _ _ _ _ _ c.write.ensures c.write_each.ensures (parts_first c.args.parts.now _ c.in-len1-up.len_at_least)
