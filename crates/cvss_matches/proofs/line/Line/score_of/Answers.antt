use Rattle.std.proofs.Common.{subst}
use Rattle.std.specs.Prelude.{IfOk}
use Rattle.cvss_matches.specs.Answers.{IsTextScored, answered_bytes, with_version}
use Rattle.cvss_matches.specs.CandidatesLeft.{as_candidate}
use Rattle.cvss_matches.specs.Decoding.{decoded}
use Rattle.cvss_matches.specs.private.Reporting.{asked_of}
use Rattle.cvss_matches.proofs.line.Line.score_of.Goals as goal

pub returns : goal.returns
returns c =
    let asked = asked_of c.args.self in
    let result = c.score_of_bytes.result in
    subst (λ version. IfOk result (IsTextScored asked (with_version version (decoded (answered_bytes asked (as_candidate c.args.found))))))
    c.version_for-version.ensures
    (subst (λ bytes. IfOk result (IsTextScored asked (with_version c.version_for-version.result (decoded bytes))))
    c.answered_bytes.ensures c.score_of_bytes.ensures)
