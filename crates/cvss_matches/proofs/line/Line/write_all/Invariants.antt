use Rattle.std.proofs.Common.{length}
use Rattle.cvss_matches.specs.private.Reporting.{Reports, asked_of}
use Rattle.cvss_matches.specs.CandidatesLeft.{candidates_left}
use Rattle.cvss_matches.proofs.line.Line.write_all.Given as goal

abbrev pub invariant-loop-found : goal.invariant-loop-found
invariant-loop-found l = Reports (asked_of l.self) (candidates_left l.matches) l.fn.answers.bytes.items l.answers.bytes.items l.accepted

abbrev pub decreases-loop-found : goal.decreases-loop-found
decreases-loop-found l = length (candidates_left l.matches)
