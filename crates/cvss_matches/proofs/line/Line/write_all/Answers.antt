use Rattle.cvss_matches.specs.CandidatesLeft.{as_candidate, candidates_left}
use Rattle.cvss_matches.proofs.ReportingLemmas.{Reports-next, Reports-start, shown_all}
use Rattle.cvss_matches.specs.private.Reporting.{asked_of}
use Rattle.cvss_matches.proofs.line.Line.write_all.Goals as goal

pub loop-found-init : goal.loop-found-init
loop-found-init c = Reports-start (asked_of c.args.self) c.args.answers.now.bytes.items (candidates_left c.of-matches.result) c.of-matches.ensures

pub loop-found-preserved : goal.loop-found-preserved
loop-found-preserved c =
    Reports-next (asked_of c.args.self) (candidates_left c.loop-found.matches) _ (as_candidate c.in-Some.found)
    c.args.answers.now.bytes.items c.loop-found.answers.bytes.items _ c.loop-found.accepted _
    c.loop-found.invariant c.in-Some.ensures.steps c.in_ok-accepted.ensures

pub returns : goal.returns
returns c = shown_all (asked_of c.args.self) (candidates_left c.loop-found.matches) _ _ c.loop-found.accepted c.loop-found.invariant c.in_default.ensures.steps
