use Rattle.std.proofs.Common.{OnOk, ap, refl, string_bytes, subst, sym, ◌∙◌, ◌++◌}
use Rattle.std.proofs.lemmas.Result.{on_ok_weaker}
use Rattle.cvss_lines.specs.Answers.{written_text}
use Rattle.cvss_audit.specs.Findings.{finding_view, rejected}
use Rattle.cvss_audit.specs.Inputs.{input_view}
use Rattle.cvss_audit.specs.Lines.{AreLines, rejected_line}
use Rattle.cvss_audit.specs.Locations.{location_view}
use Rattle.cvss_audit.specs.private.Writing.{WritesTexts}
use Rattle.cvss_audit.proofs.WritingLemmas.{one_written}
use Rattle.cvss_audit.proofs.written.lines.write_lines.Goals as goal

pub returns-in-Rejected : goal.returns-in-Rejected
returns-in-Rejected c =
    let input = input_view c.args.input in
    let location = location_view c.args.location.now in
    let old = c.args.answers.now.bytes.items in
    let new = c.write_rejected.new.answers.bytes.items in
    let reason = string_bytes c.in-Rejected.reason in
    subst (λ finding. OnOk c.write_rejected.result (WritesTexts (AreLines input location (finding_view finding)) old new)) (sym c.in-Rejected.is)
    (on_ok_weaker c.write_rejected.result
    (λ written. one_written (AreLines input location (rejected reason)) (rejected_line input location reason) old new refl
    (written ∙ ap (λ text. old ++ written_text (rejected_line input location text)) c.as_str.ensures.value))
    c.write_rejected.ensures)
