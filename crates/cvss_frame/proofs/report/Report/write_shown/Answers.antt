use Rattle.std.proofs.Common.{ap, flat_map, sym}
use Rattle.cvss_frame.proofs.ReportsLemmas.{Reports-first}
use Rattle.cvss_frame.specs.Names.{shown_byte}
use Rattle.cvss_frame.proofs.report.Report.write_shown.Goals as goal

pub loop-byte-preserved : goal.loop-byte-preserved
loop-byte-preserved g c new rest = c.loop-byte.invariant new (Reports-first _ _ _ _ _ _ c.write_byte.ensures rest (ap (flat_map shown_byte) (sym c.in-Some.ensures.cases.0)))
