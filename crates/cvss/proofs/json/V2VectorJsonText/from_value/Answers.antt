use Rattle.cvss.proofs.JsonLemmas.{rejection_reports}
use Rattle.cvss.proofs.json.V2VectorJsonText.from_value.Goals as goal

pub returns-in_err-from_str-clause-rejected : goal.returns-in_err-from_str-clause-rejected
returns-in_err-from_str-clause-rejected c =
    rejection_reports c.from_residual-in_err-from_str.result _ _ c.in_ok-string_of.field-0.now c.in_err-from_str.field-0.0 c.from_residual-in_err-from_str.ensures.1 c.in_ok-string_of.ensures.is_string c.in_err-from_str.ensures.rejected
