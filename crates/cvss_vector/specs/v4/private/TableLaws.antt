-- What holds of each value of a metric of CVSS v4.0, checked value by value.
use Rattle.std.specs.Prelude.{◌≡◌, ℕ}
use Rattle.std.proofs.Common.{rules}
use Rattle.cvss_base.specs.Text.{uppercased}
use Rattle.cvss_base.specs.private.Component.{delimiter_bytes}
use Rattle.cvss_base.specs.declared.v4.MetricType.{MetricType}
use Rattle.cvss_base.specs.declared.v4.MetricType.TheVariants.{AC, U}
use Rattle.cvss_vector.specs.v4.Table.{Value, spelling_of}

-- no spelling has a slash or a colon
pub plain_spelling : (kind : MetricType) (value : Value kind) → delimiter_bytes (spelling_of kind value) ≡ 0
plain_spelling AC = search rules
plain_spelling _ = search rules

-- two values with one spelling, as it is read, are one
pub one_value : (kind : MetricType) (x y : Value kind) → uppercased (spelling_of kind x) ≡ uppercased (spelling_of kind y) → x ≡ y
one_value AC = search rules
one_value _ = search rules

-- at most so many bytes have the components of a metric, with a slash before each: only a provider urgency has more than six
abbrev pub width : MetricType → ℕ
width U = 8
width _ = 6
