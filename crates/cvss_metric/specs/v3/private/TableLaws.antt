-- What holds of each value in the table of CVSS v3, checked value by value.
use Rattle.std.specs.Prelude.{◌≡◌}
use Rattle.std.proofs.Common.{rules}
use Rattle.cvss_base.specs.Text.{uppercased}
use Rattle.cvss_base.specs.private.Component.{delimiter_bytes}
use Rattle.cvss_base.specs.declared.v3.MetricType.{MetricType}
use Rattle.cvss_base.specs.declared.v3.MetricType.TheVariants.{A}
use Rattle.cvss_metric.specs.v3.Table.{Value, spelling_of}

-- a spelling is its own text in upper case
pub uppercased_spelling : (kind : MetricType) (value : Value kind) → uppercased (spelling_of kind value) ≡ spelling_of kind value
uppercased_spelling A = search rules
uppercased_spelling _ = search rules

-- no spelling has a slash or a colon
pub plain_spelling : (kind : MetricType) (value : Value kind) → delimiter_bytes (spelling_of kind value) ≡ 0
plain_spelling A = search rules
plain_spelling _ = search rules

-- two values with one spelling, as it is read, are one
pub one_value : (kind : MetricType) (x y : Value kind) → uppercased (spelling_of kind x) ≡ uppercased (spelling_of kind y) → x ≡ y
one_value A = search rules
one_value _ = search rules
