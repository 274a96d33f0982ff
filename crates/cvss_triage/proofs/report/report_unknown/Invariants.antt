use Rattle.std.proofs.Common.{drop}
use Rattle.cvss_frame.specs.Reports.{Reported, reported}
use Rattle.cvss_triage.specs.Reports.{ReportsEach, ReportsSetting}
use Rattle.cvss_triage.proofs.report.report_unknown.Given as goal

-- however the texts that are left are reported, all are so
abbrev pub invariant-loop-it : goal.invariant-loop-it
invariant-loop-it g l = (last : Reported) → ReportsEach ReportsSetting (drop l.it-index l.fn.texts) (reported g.E.Write.contents l.report) last
    → ReportsEach ReportsSetting l.fn.texts (reported g.E.Write.contents l.fn.report) last
