use Rattle.std.proofs.Common.{◌≡◌, ◌++◌, take}
use Rattle.cvss_vector.specs.Segments.{text_of}
use Rattle.cvss_vector.proofs.lines.push_segments.Given as goal

abbrev pub invariant-loop-segment : goal.invariant-loop-segment
invariant-loop-segment l = l.out.items ≡ l.fn.out.items ++ text_of (take l.segment-index l.segments)
