use Rattle.std.proofs.Common.{length}
use Rattle.cvss_matches.specs.CandidatesLeft.{candidates_left}
use Rattle.cvss_matches.specs.Matches.{candidates_of}
use Rattle.cvss_csv.specs.private.Searching.{HasFound}
use Rattle.cvss_csv.proofs.search.search_value.Given as goal

abbrev pub invariant-loop-found : goal.invariant-loop-found
invariant-loop-found g l = HasFound g.N.Notes.is_of (candidates_of l.fn.text) (candidates_left l.matches) l.fn.notes l.notes

abbrev pub decreases-loop-found : goal.decreases-loop-found
decreases-loop-found g l = length (candidates_left l.matches)
