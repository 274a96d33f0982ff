-- What holds of each value in the table of CVSS v2, checked value by value.
use Rattle.std.specs.Prelude.{◌≡◌, false}
use Rattle.std.proofs.Common.{rules}
use Rattle.cvss_base.specs.Text.{has, dot}
use Rattle.cvss_base.specs.private.Component.{delimiter_bytes}
use Rattle.cvss_base.specs.declared.v2.MetricType.{MetricType}
use Rattle.cvss_base.specs.declared.v2.MetricType.TheVariants.{A}
use Rattle.cvss_metric.specs.v2.Table.{Value, spelling_of}

-- no spelling has a slash or a colon
pub plain_spelling : (kind : MetricType) (value : Value kind) → delimiter_bytes (spelling_of kind value) ≡ 0
plain_spelling A = search rules
plain_spelling _ = search rules

-- no spelling has a dot
pub undotted_spelling : (kind : MetricType) (value : Value kind) → has dot (spelling_of kind value) ≡ false
undotted_spelling A = search rules
undotted_spelling _ = search rules

-- two values with one spelling are one
pub one_value : (kind : MetricType) (x y : Value kind) → spelling_of kind x ≡ spelling_of kind y → x ≡ y
one_value A = search rules
one_value _ = search rules
