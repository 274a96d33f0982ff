use Rattle.std.proofs.Common.{flat_map, length}
use Rattle.cvss_json.specs.Sinks.{Adds}
use Rattle.cvss_frame.specs.Names.{shown_byte}
use Rattle.cvss_frame.proofs.names.put_bytes.Given as goal

-- whatever adds the bytes that are left adds all
abbrev pub invariant-loop-byte : goal.invariant-loop-byte
invariant-loop-byte g l = (new : g.row.S.Denot) → Adds g.S.Sink.Holds (flat_map shown_byte l.left) l.sink new
    → Adds g.S.Sink.Holds (flat_map shown_byte l.fn.name) l.fn.sink new

abbrev pub decreases-loop-byte : goal.decreases-loop-byte
decreases-loop-byte g l = length l.left
