use Rattle.std.proofs.Common.{length}
use Rattle.cvss_ffi.specs.ScoreLines.{HasWritten}
use Rattle.cvss_ffi.proofs.score_lines.score_lines.Given as goal

abbrev pub invariant-loop-line : goal.invariant-loop-line
invariant-loop-line l = HasWritten l.fn.flags l.fn.texts l.rest l.fn.buffer l.buffer l.written

abbrev pub decreases-loop-line : goal.decreases-loop-line
decreases-loop-line l = length l.rest
