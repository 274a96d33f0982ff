use Rattle.std.proofs.Common.{IfSome, length}
use Rattle.cvss_matches.specs.CandidatesLeft.{candidates_left}
use Rattle.cvss_matches.specs.Matches.{candidates_of}
use Rattle.cvss_vector.specs.Answers.{HasScore}
use Rattle.cvss_triage.specs.private.Picking.{Begins, IsOnly}
use Rattle.cvss_triage.proofs.preferring.only_of.Given as goal

-- of the version this is the only vector before the matches that are left
abbrev pub invariant-loop-found : goal.invariant-loop-found
invariant-loop-found l = Begins (λ vectors. IsOnly l.fn.version vectors l.only) (candidates_of l.fn.line) (candidates_left l.matches) × IfSome l.only HasScore

abbrev pub decreases-loop-found : goal.decreases-loop-found
decreases-loop-found l = length (candidates_left l.matches)
