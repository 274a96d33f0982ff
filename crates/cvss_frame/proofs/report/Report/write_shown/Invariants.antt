use Rattle.std.proofs.Common.{flat_map, length}
use Rattle.cvss_frame.specs.Names.{shown_byte}
use Rattle.cvss_frame.specs.Reports.{Reported, Reports, reported}
use Rattle.cvss_frame.proofs.report.Report.write_shown.Given as goal

-- whatever reports the bytes that are left reports all
abbrev pub invariant-loop-byte : goal.invariant-loop-byte
invariant-loop-byte g l = (new : Reported)
    → Reports (reported g.E.Write.contents l.self) new (flat_map shown_byte l.left)
    → Reports (reported g.E.Write.contents l.fn.self) new (flat_map shown_byte l.fn.name)

abbrev pub decreases-loop-byte : goal.decreases-loop-byte
decreases-loop-byte g l = length l.left
