-- What holds of each enum of metric values: CVSS v3.1 specification, sections 2 to 4.
use Rattle.std.specs.Prelude.{◌≡◌, Bool}
use Rattle.std.specs.Ordering.{nat_cmp}
use Rattle.std.specs.declared.cmp.Ordering.{Ordering}
use Rattle.cvss_base.specs.Equality.{EqualsByValue, ClonesByValue, ClonesAlways}
use Rattle.cvss_base.specs.declared.v3.MetricType.{MetricType}
pub use Rattle.cvss_metric.specs.v3.BaseMetrics.{IsBaseValue}
use Rattle.cvss_metric.specs.v3.Table.{Value, rank_of}

-- the enum has the values of the metric in the table
pub record IsMetric {A : Type 0} (kind : MetricType) (value : A → Value kind) (compared : A → A → Ordering) (same : A → A → Bool) (is_clone : A → A → Type 0) (is_infallible : A → Type 0) : Type 0 where
  -- each value of the table is a value of the enum
  pub covers : (x : Value kind) → (metric : A) × value metric ≡ x
  -- two values compare as their places in the table do
  pub ordered : (x y : A) → compared x y ≡ nat_cmp (rank_of kind (value x)) (rank_of kind (value y))
  -- two values are found equal where they are one value
  pub equal : EqualsByValue same
  -- a clone is the value itself, and is never rejected
  pub cloned : ClonesByValue is_clone
  pub clonable : ClonesAlways is_infallible
