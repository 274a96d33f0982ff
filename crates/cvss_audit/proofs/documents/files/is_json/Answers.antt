use Rattle.std.proofs.Common.{◌≡◌, None, Some, refl, subst, sym}
use Rattle.std.proofs.lemmas.Bool.{iff_false}
use Rattle.serde_json.specs.Read.{read}
use Rattle.serde_json.specs.View.{view}
use Rattle.cvss_audit.proofs.FilesLemmas.{json_test, no_utf8}
use Rattle.cvss_audit.proofs.documents.files.is_json.Goals as goal

pub returns-in_default : goal.returns-in_default
returns-in_default c = sym (rw (no_utf8 c.args.text.now c.in_default.ensures.cases.0) refl)

pub returns-in-Ok-from_str : goal.returns-in-Ok-from_str
returns-in-Ok-from_str c =
    let text = c.in-Ok.ensures.cases in
    json_test c.args.text.now _ text.1 (subst (λ seen. read seen ≡ Some (view c.in-Ok-from_str.field-0)) text.0 c.in-Ok-from_str.ensures.ok)

pub returns : goal.returns
returns c =
    let text = c.in-Ok.ensures.cases in
    json_test c.args.text.now None text.1 (subst (λ seen. read seen ≡ None) text.0 (c.in-Err.ensures.err (iff_false c.is_memory.ensures c.if-is_memory.false)))
