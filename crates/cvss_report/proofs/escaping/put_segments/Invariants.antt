use Rattle.std.proofs.Common.{take}
use Rattle.cvss_json.specs.Sinks.{Adds}
use Rattle.cvss_vector.specs.Segments.{text_of}
use Rattle.cvss_report.proofs.escaping.put_segments.Given as goal

abbrev pub invariant-loop-segment : goal.invariant-loop-segment
invariant-loop-segment g l = Adds g.S.Sink.Holds (text_of (take l.segment-index l.segments)) l.fn.sink l.sink
