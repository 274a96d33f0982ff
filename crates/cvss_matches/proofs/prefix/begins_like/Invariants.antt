use Rattle.std.proofs.Common.{◌≡◌, length}
use Rattle.cvss_matches.specs.Parts.{begins_like}
use Rattle.cvss_matches.proofs.prefix.begins_like.Given as goal

abbrev pub invariant-loop-first : goal.invariant-loop-first
invariant-loop-first l = begins_like l.fn.pattern l.fn.text ≡ begins_like l.wanted l.left

abbrev pub decreases-loop-first : goal.decreases-loop-first
decreases-loop-first l = length l.wanted
