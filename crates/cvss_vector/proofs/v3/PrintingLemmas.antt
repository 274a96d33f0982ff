-- How long names and spellings are.
use Rattle.std.proofs.Common.{◌+◌, ◌≤◌, length, rules}
use Rattle.cvss_base.specs.V3Types.{name_of}
use Rattle.cvss_base.specs.declared.v3.MetricType.{MetricType}
use Rattle.cvss_base.specs.declared.v3.MetricType.TheVariants.{A}
use Rattle.cvss_metric.specs.v3.Table.{Value, spelling_of}

pub name_lengths : (kind : MetricType) → (1 ≤ length (name_of kind)) × (length (name_of kind) ≤ 3)
name_lengths A = search rules
name_lengths _ = search rules

pub lengths : (kind : MetricType) (value : Value kind) → length (name_of kind) + length (spelling_of kind value) ≤ 6
lengths A = search rules
lengths _ = search rules
