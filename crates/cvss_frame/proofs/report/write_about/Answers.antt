use Rattle.cvss_frame.proofs.ReportsLemmas.{Reports-then}
use Rattle.cvss_frame.proofs.report.write_about.Goals as goal

pub returns : goal.returns
returns g c = Reports-then _ _ _ _ _ c.write.ensures (Reports-then _ _ _ _ _ c.write_shown.ensures c.write_each.ensures)
