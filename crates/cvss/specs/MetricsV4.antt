-- What holds of each enum of metric values: CVSS v4.0 specification, sections 2 to 5.
use Rattle.std.specs.Prelude.{◌≡◌, ℕ, Bool}
use Rattle.std.specs.Ordering.{nat_cmp}
use Rattle.std.specs.declared.cmp.Ordering.{Ordering}
use Rattle.cvss_base.specs.Equality.{EqualsByValue, ClonesByValue}
use Rattle.cvss_base.specs.declared.v4.MetricType.{MetricType}
use Rattle.cvss_metric.specs.v4.Table.{spelling_at, default_of}

-- the enum has the values of the metric in the table
pub record IsMetric {A : Type 0} (kind : MetricType) (rank : A → ℕ) (is_default : A → Type 0) (compared : A → A → Ordering) (same : A → A → Bool) (is_clone : A → A → Type 0) (is_infallible : A → Type 0) : Type 0 where
  -- two values compare as their places do
  pub ordered : (x y : A) → compared x y ≡ nat_cmp (rank x) (rank y)
  -- the default is the table's
  pub usual : (x : A) → is_default x → spelling_at kind (rank x) ≡ default_of kind
  -- two values are found equal where they are one value
  pub equal : EqualsByValue same
  -- a clone is the value itself, and is never rejected
  pub cloned : ClonesByValue is_clone
  pub clonable : (x : A) → is_infallible x
