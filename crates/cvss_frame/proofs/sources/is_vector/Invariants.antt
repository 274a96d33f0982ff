use Rattle.std.proofs.Common.{◌≡◌, length}
use Rattle.cvss_frame.specs.Sources.{is_vector}
use Rattle.cvss_frame.proofs.sources.is_vector.Given as goal

abbrev pub invariant-loop-byte : goal.invariant-loop-byte
invariant-loop-byte l = is_vector l.operand ≡ is_vector l.left

abbrev pub decreases-loop-byte : goal.decreases-loop-byte
decreases-loop-byte l = length l.left
