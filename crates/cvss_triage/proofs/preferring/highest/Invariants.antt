use Rattle.std.proofs.Common.{IfSome, List, length}
use Rattle.cvss_matches.specs.CandidatesLeft.{candidates_left}
use Rattle.cvss_matches.specs.Matches.{candidates_of}
use Rattle.cvss_vector.specs.Answers.{HasScore}
use Rattle.cvss_triage.specs.declared.overrides.Override.{Override}
use Rattle.cvss_triage.specs.private.Picking.{Begins, IsBest}
use Rattle.cvss_triage.specs.private.Steps.{AreOwnMetrics}
use Rattle.cvss_triage.proofs.preferring.highest.Given as goal

-- this has the highest score of the vectors before the matches that are left
abbrev pub invariant-loop-found : goal.invariant-loop-found
invariant-loop-found l =
    Begins (λ vectors. (overrides : List Override) → AreOwnMetrics overrides l.fn.rules.own → IsBest overrides l.fn.rules.scoring l.fn.rules.allow_incomplete vectors l.best)
    (candidates_of l.fn.line) (candidates_left l.matches)
    × IfSome l.best (λ best. HasScore best.cvss)

abbrev pub decreases-loop-found : goal.decreases-loop-found
decreases-loop-found l = length (candidates_left l.matches)
