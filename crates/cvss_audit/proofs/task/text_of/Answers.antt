use Rattle.std.proofs.Common.{Some, ap, refl, sym, ◌∙◌}
use Rattle.std.proofs.lemmas.Str.{is_utf8-from_IsUtf8}
use Rattle.cvss_audit.proofs.FilesLemmas.{no_utf8}
use Rattle.cvss_audit.proofs.task.text_of.Goals as goal

pub returns-in-Ok : goal.returns-in-Ok
returns-in-Ok c =
    let text = c.in-Ok.ensures.cases in
    ap Some text.0 ∙ sym (rw (is_utf8-from_IsUtf8 c.args.bytes.now text.1) refl)

pub returns-in-Err : goal.returns-in-Err
returns-in-Err c = sym (rw (no_utf8 c.args.bytes.now c.in-Err.ensures.cases.0) refl)
