-- Metrics that are Not Defined: guide, sections 2.2 and 2.3 (the equations skip such a metric).
use Rattle.std.specs.Prelude.{◌≡◌, ◌⊎◌, IfSome, codes}
use Rattle.cvss_base.specs.declared.v2.MetricType.{MetricType}
use Rattle.cvss_vector.specs.declared.v2.vector.Vector.{Vector}
use Rattle.cvss_metric.specs.v2.Table.{spelling_of}
use Rattle.cvss_vector.specs.v2.Vector.{value_at}

-- the vector has no value for the metric, or the value ND
abbrev pub IsNotDefined : Vector → MetricType → Type 0
IsNotDefined v kind = IfSome (value_at v kind) (λ value. spelling_of kind value ≡ codes "ND")

-- of each metric both vectors have the same value, or it is not defined in both
abbrev pub DefineTheSame : Vector → Vector → Type 0
DefineTheSame v w =
    (kind : MetricType) → (value_at v kind ≡ value_at w kind) ⊎ (IsNotDefined v kind × IsNotDefined w kind)
