use Rattle.std.proofs.Common.{take}
use Rattle.cvss_json.specs.Sinks.{Adds}
use Rattle.cvss_report.specs.Cells.{escaped}
use Rattle.cvss_report.proofs.escaping.put_escaped.Given as goal

abbrev pub invariant-loop-byte : goal.invariant-loop-byte
invariant-loop-byte g l = Adds g.S.Sink.Holds (escaped (take l.byte-index l.text)) l.fn.sink l.sink
