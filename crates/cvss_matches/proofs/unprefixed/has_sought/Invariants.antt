use Rattle.std.proofs.Common.{◌≡◌, length}
use Rattle.cvss_matches.specs.Parts.{has_like_any}
use Rattle.cvss_matches.specs.private.Sought.{patterns_of}
use Rattle.cvss_matches.proofs.unprefixed.has_sought.Given as goal

abbrev pub invariant-loop-rest : goal.invariant-loop-rest
invariant-loop-rest l = has_like_any (patterns_of l.fn.sought) l.fn.text ≡ has_like_any (patterns_of l.fn.sought) l.left

abbrev pub decreases-loop-rest : goal.decreases-loop-rest
decreases-loop-rest l = length l.left
