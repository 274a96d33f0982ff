use Rattle.std.proofs.Common.{subst}
use Rattle.std.proofs.lemmas.Result.{IfOk-weaker}
use Rattle.cvss_matches.specs.CandidatesLeft.{IsFirstFound, NoneFound, as_candidate, candidates_left}
use Rattle.cvss_matches.proofs.ReportingLemmas.{shown_first, shown_none}
use Rattle.cvss_matches.specs.private.Reporting.{asked_of}
use Rattle.cvss_matches.proofs.line.Line.write_first.Goals as goal

pub returns-in-Some : goal.returns-in-Some
returns-in-Some c =
    let candidate = as_candidate c.in-Some.found in
    let left = candidates_left c.next.new.self in
    IfOk-weaker c.keep.result _ _
    (λ accepted written. shown_first (asked_of c.args.self) candidate left c.args.answers.now.bytes.items _ accepted
    (subst (λ candidates. IsFirstFound candidates candidate left) c.of.ensures c.in-Some.ensures.steps) written)
    c.keep.ensures

pub returns-in-None : goal.returns-in-None
returns-in-None c = shown_none (asked_of c.args.self) c.args.answers.now.bytes.items (subst NoneFound c.of.ensures c.in-None.ensures.steps)
