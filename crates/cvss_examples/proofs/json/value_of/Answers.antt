use Rattle.cvss_examples.proofs.ConversionLemmas.{rejection_reported}
use Rattle.cvss_examples.proofs.json.value_of.Goals as goal

pub returns-in_err-from_str-clause-rejected : goal.returns-in_err-from_str-clause-rejected
returns-in_err-from_str-clause-rejected c =
    rejection_reported c.from_residual.result c.args.text.now c.in_err-from_str.field-0.0 c.from_residual.ensures.1 c.in_err-from_str.ensures.rejected
