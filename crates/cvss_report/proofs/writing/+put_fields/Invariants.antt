use Rattle.std.proofs.Common.{length}
use Rattle.cvss_report.proofs.writing.+put_fields.Given as goal

abbrev pub decreases-put_fields : goal.decreases-put_fields
decreases-put_fields g l = length l.fields.now
