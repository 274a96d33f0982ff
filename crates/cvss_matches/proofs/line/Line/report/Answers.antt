use Rattle.std.proofs.Common.{subst}
use Rattle.cvss_lines.specs.Answers.{WritesAnswer}
use Rattle.cvss_matches.specs.CandidatesLeft.{as_candidate}
use Rattle.cvss_matches.proofs.ReportingLemmas.{WritesReported-answer}
use Rattle.cvss_matches.specs.Answers.{answered_bytes, answers_as, with_version}
use Rattle.cvss_matches.specs.Decoding.{decoded}
use Rattle.cvss_matches.specs.private.Reporting.{asked_of}
use Rattle.cvss_matches.proofs.line.Line.report.Goals as goal

pub returns : goal.returns
returns c =
    let asked = asked_of c.args.self in
    let candidate = as_candidate c.args.found in
    let rule = answers_as asked.form asked.scoring asked.allow_incomplete in
    WritesReported-answer asked candidate c.args.answers.now.bytes.items _ _ _ _
    c.in_ok-write_before.ensures
    (subst (λ version. WritesAnswer rule asked.number (with_version version (decoded (answered_bytes asked candidate))) c.write_before.new.answers.bytes.items c.answer_bytes.new.answers.bytes.items c.in_ok-accepted.accepted)
    c.version_for-version.ensures
    (subst (λ bytes. WritesAnswer rule asked.number (with_version c.version_for-version.result (decoded bytes)) c.write_before.new.answers.bytes.items c.answer_bytes.new.answers.bytes.items c.in_ok-accepted.accepted)
    c.answered_bytes.ensures c.in_ok-accepted.ensures))
    c.end_text.ensures
