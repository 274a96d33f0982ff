use Rattle.std.proofs.Common.{flat_map}
use Rattle.cvss_frame.specs.Names.{shown_char}
use Rattle.cvss_json.specs.Sinks.{Adds}
use Rattle.cvss_frame.proofs.names.put_chars.Given as goal

abbrev pub invariant-loop-character : goal.invariant-loop-character
invariant-loop-character g l = Adds g.S.Sink.Holds (flat_map shown_char l.yielded) l.fn.sink l.sink
