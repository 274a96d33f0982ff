use Rattle.std.proofs.Common.{◌+◌, ◌≤◌, length}
use Rattle.cvss_lines.specs.Lines.{lines}
use Rattle.cvss_frame.specs.Reports.{Reported, reported}
use Rattle.cvss_triage.specs.Reports.{ReportsLines}
use Rattle.cvss_triage.proofs.report.report_profile.Given as goal

-- however the lines that are left are reported, all are so
abbrev pub invariant-loop-line : goal.invariant-loop-line
invariant-loop-line g l = record {
  within : l.number + length l.left ≤ length l.fn.text + 1;
  reported : (last : Reported) → ReportsLines l.fn.name l.number (lines l.left) (reported g.E.Write.contents l.report) last
      → ReportsLines l.fn.name 1 (lines l.fn.text) (reported g.E.Write.contents l.fn.report) last;
}

abbrev pub decreases-loop-line : goal.decreases-loop-line
decreases-loop-line g l = length l.left
