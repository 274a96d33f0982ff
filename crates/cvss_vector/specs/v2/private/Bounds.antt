-- Bounds of weights, within which their products do not overflow.
use Rattle.std.specs.Prelude.{ℕ, max, map}
use Rattle.std.specs.List.{fold}
use Rattle.cvss_base.specs.declared.v2.MetricType.{MetricType}
use Rattle.cvss_metric.specs.v2.Table.{rows_of}

-- the greatest weight of a metric's values
abbrev pub greatest_weight : MetricType → ℕ
greatest_weight kind = fold max 0 (map (λ row. row.1) (rows_of kind))
