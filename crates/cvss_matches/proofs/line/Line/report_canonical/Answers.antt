use Rattle.std.proofs.Common.{subst, sym, true}
use Rattle.cvss_vector.proofs.AnsweringLemmas.{complete_written}
use Rattle.cvss_matches.proofs.ReportingLemmas.{canonical_reported}
use Rattle.cvss_matches.specs.declared.form.Form.TheVariants.{Located}
use Rattle.cvss_matches.specs.private.Reporting.{AnswersLine}
use Rattle.cvss_matches.proofs.line.Line.report_canonical.Goals as goal

pub returns : goal.returns
returns c =
    let line = c.args.self in
    let text = line.bytes.now in
    subst (λ form. AnswersLine (record { form = form; prefix = line.prefix.now; scoring = line.scoring; allow_incomplete = line.allow_incomplete; assumed = line.assumed; gate = line.gate; number = line.number; line = text })
    c.args.answers.now.bytes.items c.write_canonical.new.answers.bytes.items true)
    (sym c.requires.form)
    (subst (λ gate. AnswersLine (record { form = Located; prefix = line.prefix.now; scoring = line.scoring; allow_incomplete = line.allow_incomplete; assumed = line.assumed; gate = gate; number = line.number; line = text })
    c.args.answers.now.bytes.items c.write_canonical.new.answers.bytes.items true)
    (sym c.requires.gate)
    (canonical_reported line.prefix.now line.scoring line.allow_incomplete line.assumed line.number text c.args.published c.args.answers.now.bytes.items _ _ _ c.requires.published
    c.in_ok-write_prefix.ensures c.in_ok-write_first_location.ensures
    (complete_written line.scoring line.allow_incomplete line.number text c.args.published _ _ c.requires.published c.in_ok-write_canonical.ensures)))
