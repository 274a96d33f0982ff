use Rattle.std.proofs.Common.{◌≡◌, ◌++◌, length}
use Rattle.cvss_matches.specs.Decoding.{decoded}
use Rattle.cvss_matches.proofs.decoding.push_decoded.Given as goal

abbrev pub invariant-loop-byte : goal.invariant-loop-byte
invariant-loop-byte l = l.bytes.items ++ decoded l.left ≡ l.fn.bytes.items ++ decoded l.fn.text

abbrev pub decreases-loop-byte : goal.decreases-loop-byte
decreases-loop-byte l = length (decoded l.left)
