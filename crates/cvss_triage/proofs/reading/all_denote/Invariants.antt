use Rattle.std.proofs.Common.{◌↔◌, length}
use Rattle.cvss_matches.specs.CandidatesLeft.{candidates_left}
use Rattle.cvss_triage.specs.private.Denoting.{AllDenote}
use Rattle.cvss_triage.proofs.reading.all_denote.Given as goal

-- all denote the vector exactly if those that are left do
abbrev pub invariant-loop-found : goal.invariant-loop-found
invariant-loop-found l = AllDenote l.cvss (candidates_left l.matches) ↔ AllDenote l.fn.cvss (candidates_left l.fn.matches)

abbrev pub decreases-loop-found : goal.decreases-loop-found
decreases-loop-found l = length (candidates_left l.matches)
