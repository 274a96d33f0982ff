use Rattle.std.proofs.Common.{length}
use Rattle.cvss_audit.proofs.written.lines.+write_differences.Given as goal

abbrev pub decreases-write_differences : goal.decreases-write_differences
decreases-write_differences l = length l.differences.now
