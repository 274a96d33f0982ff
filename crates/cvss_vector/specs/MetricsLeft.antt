-- What the iterator over a vector's metrics has still to give.
use Rattle.std.specs.Prelude.{ℕ, List}
use Rattle.cvss_text.specs.Listing as base
use Rattle.cvss_base.specs.V4Types.{declared}
use Rattle.cvss_metric.specs.v2.Table as table_v2
use Rattle.cvss_vector.specs.v2.Vector.{v2}
use Rattle.cvss_metric.specs.v3.Table as table_v3
use Rattle.cvss_vector.specs.v3.Vector.{v3}
use Rattle.cvss_vector.specs.v4.Vector.{v4}
use Rattle.cvss_vector.specs.Answers.{listed_as}
use Rattle.cvss_vector.specs.declared.metric_type.MetricType.{MetricType}
use Rattle.cvss_vector.specs.declared.metric_type.MetricType.TheVariants as metric
use Rattle.cvss_vector.specs.declared.metrics.Metrics.{Metrics}
use Rattle.cvss_vector.specs.declared.metrics.Metrics.TheVariants as metrics

-- the metrics that are left
abbrev pub metrics_left : Metrics → List (MetricType × List ℕ)
metrics_left (metrics.V2 left) = listed_as metric.V2 (base.metrics_left v2 table_v2.listed left)
metrics_left (metrics.V3 left) = listed_as metric.V3 (base.metrics_left v3 table_v3.listed left)
metrics_left (metrics.V4 left) = listed_as metric.V4 (base.metrics_left v4 declared left)
