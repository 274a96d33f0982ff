use Rattle.std.proofs.Common.{length}
use Rattle.cvss_frame.proofs.report.Report.+write_each.Given as goal

abbrev pub decreases-write_each : goal.decreases-write_each
decreases-write_each g l = length l.parts.now
