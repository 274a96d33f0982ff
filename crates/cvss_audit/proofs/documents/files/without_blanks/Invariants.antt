use Rattle.std.proofs.Common.{◌≡◌, length}
use Rattle.cvss_audit.specs.Files.{without_blanks}
use Rattle.cvss_audit.proofs.documents.files.without_blanks.Given as goal

abbrev pub invariant-loop-byte : goal.invariant-loop-byte
invariant-loop-byte l = without_blanks l.left ≡ without_blanks l.bytes

abbrev pub decreases-loop-byte : goal.decreases-loop-byte
decreases-loop-byte l = length l.left
