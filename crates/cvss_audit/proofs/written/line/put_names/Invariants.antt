use Rattle.std.proofs.Common.{flat_map, map, take}
use Rattle.cvss_json.specs.Sinks.{Adds}
use Rattle.cvss_audit.specs.Lines.{name_text}
use Rattle.cvss_audit.proofs.written.line.put_names.Given as goal

abbrev pub invariant-loop-name : goal.invariant-loop-name
invariant-loop-name g l = Adds g.S.Sink.Holds (flat_map name_text (map (λ name. name.now) (take l.name-index l.names))) l.fn.sink l.sink
