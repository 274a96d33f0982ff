use Rattle.std.proofs.Common.{refl, subst, sym}
use Rattle.std.proofs.lemmas.Result.{on_ok_weaker}
use Rattle.cvss_audit.specs.Answers.{AreTextsIf}
use Rattle.cvss_audit.specs.Findings.{finding_view}
use Rattle.cvss_audit.specs.Inputs.{input_view}
use Rattle.cvss_audit.specs.Locations.{location_view}
use Rattle.cvss_audit.specs.private.Writing.{WritesTexts}
use Rattle.cvss_audit.proofs.WritingLemmas.{none_written}
use Rattle.cvss_audit.proofs.written.location.write_if_shown.Goals as goal

pub returns-then-input : goal.returns-then-input
returns-then-input c =
    let old = c.args.answers.now.bytes.items in
    subst (λ quiet. WritesTexts (AreTextsIf quiet (input_view c.args.input) (location_view c.args.location.now) (finding_view c.args.finding)) old old)
    (sym c.if-input.true) (none_written _ old refl)

pub returns-else-input : goal.returns-else-input
returns-else-input c =
    let old = c.args.answers.now.bytes.items in
    let new = c.write_finding.new.answers.bytes.items in
    on_ok_weaker c.write_finding.result
    (subst (λ quiet. WritesTexts (AreTextsIf quiet (input_view c.args.input) (location_view c.args.location.now) (finding_view c.args.finding)) old new)
    (sym c.if-input.false))
    c.write_finding.ensures
