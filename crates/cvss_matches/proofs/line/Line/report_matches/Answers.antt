use Rattle.std.proofs.Common.{subst}
use Rattle.cvss_matches.proofs.ReportingLemmas.{answer_written}
use Rattle.cvss_matches.specs.private.Reporting.{WritesShown, asked_of}
use Rattle.cvss_matches.proofs.line.Line.report_matches.Goals as goal

pub returns : goal.returns
returns c =
    let asked = asked_of c.args.self in
    answer_written asked c.args.answers.now.bytes.items _ _ _ _ c.in_ok-write_opening.ensures
    (subst (λ all. WritesShown all asked c.write_opening.new.answers.bytes.items c.write_shown.new.answers.bytes.items c.in_ok-accepted.accepted) c.shows_all.ensures c.in_ok-accepted.ensures)
    c.in_ok-write_closing.ensures
