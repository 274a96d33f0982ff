use Rattle.std.proofs.Common.{drop}
use Rattle.cvss_frame.specs.Reports.{Reported, reported}
use Rattle.cvss_triage.specs.Reports.{ReportsBadLine, ReportsEach}
use Rattle.cvss_triage.specs.private.Steps.{rows_of}
use Rattle.cvss_triage.proofs.report.report_bad.Given as goal

-- however the lines that are left are reported, all are so
abbrev pub invariant-loop-it : goal.invariant-loop-it
invariant-loop-it g l =
    let locations = l.fn.locations in
    let Step = ReportsBadLine locations.form (rows_of locations.lines.now) locations.starts.now locations.many locations.operands.now in
    (last : Reported) → ReportsEach Step (drop l.it-index l.fn.bad) (reported g.E.Write.contents l.report) last
    → ReportsEach Step l.fn.bad (reported g.E.Write.contents l.fn.report) last
