use Rattle.std.proofs.Common.{take, true}
use Rattle.cvss_base.specs.Text.{read_as}
use Rattle.cvss_json.specs.Sinks.{Adds}
use Rattle.cvss_report.proofs.escaping.put_upper.Given as goal

abbrev pub invariant-loop-byte : goal.invariant-loop-byte
invariant-loop-byte g l = Adds g.S.Sink.Holds (read_as true (take l.byte-index l.text)) l.fn.sink l.sink
