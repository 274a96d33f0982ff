use Rattle.std.proofs.Common.{◌≡◌, length}
use Rattle.cvss_matches.specs.CandidatesLeft.{candidates_left}
use Rattle.cvss_matches.specs.private.Passing.{Passes}
use Rattle.cvss_matches.proofs.matches.Matches.find_next.Given as goal

abbrev pub invariant-loop-offset : goal.invariant-loop-offset
invariant-loop-offset l = Passes (candidates_left l.fn.self) (candidates_left l.self) × (l.self.text.now ≡ l.fn.self.text.now)

abbrev pub decreases-loop-offset : goal.decreases-loop-offset
decreases-loop-offset l = length (candidates_left l.self)
