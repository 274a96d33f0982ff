-- Which groups of metrics a vector has: CVSS v4.0 specification, section 1.3.
use Rattle.std.specs.Prelude.{Bool, ◌&&◌, is_some}
use Rattle.std.specs.List.{list_any}
use Rattle.cvss_base.specs.Groups.{same_group}
use Rattle.cvss_base.specs.V4Types.{group_of}
use Rattle.cvss_base.specs.declared.group.MetricGroup.{MetricGroup}
use Rattle.cvss_base.specs.declared.group.MetricGroup.TheVariants.{Threat, Environmental}
use Rattle.cvss_metric.specs.v4.Table.{printed}
use Rattle.cvss_vector.specs.v4.Table.{value_at}
use Rattle.cvss_vector.specs.declared.v4.vector.Vector.{Vector}
use Rattle.cvss_score.specs.declared.v4.nomenclature.Nomenclature.{Nomenclature}
-- what is said of nomenclatures without a vector is passed on
pub use Rattle.cvss_score.specs.v4.Nomenclature.{text_of, nomenclature_with, named_score_text, ReportsNoNomenclature}

-- the vector has a value for a metric of the group, be it that the metric is not defined
abbrev pub has_group : Vector → MetricGroup → Bool
has_group v group = list_any (λ kind. same_group (group_of kind) group && is_some (value_at v kind)) printed

-- the nomenclature of a vector
abbrev pub nomenclature_of : Vector → Nomenclature
nomenclature_of v = nomenclature_with (has_group v Threat) (has_group v Environmental)
