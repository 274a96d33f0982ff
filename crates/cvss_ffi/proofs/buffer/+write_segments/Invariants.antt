use Rattle.std.proofs.Common.{length}
use Rattle.cvss_ffi.proofs.buffer.+write_segments.Given as goal

abbrev pub decreases-write_segments : goal.decreases-write_segments
decreases-write_segments l = length l.segments.now
