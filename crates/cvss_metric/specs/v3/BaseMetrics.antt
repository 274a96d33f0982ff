-- What holds of each base metric that a modified metric can replace: CVSS v3.1 specification, section 4.2.
use Rattle.std.specs.Prelude.{◌≡◌, ◌≢◌, codes, IsSome, Option, Some}
use Rattle.cvss_base.specs.declared.v3.MetricType.{MetricType}
use Rattle.cvss_metric.specs.declared.v3.environmental.modified.Modified.{Modified}
use Rattle.cvss_metric.specs.v3.Modified.{modified_map}
use Rattle.cvss_metric.specs.v3.Table.{Value, AnyValue, spelling_of, weight_of, modified_of, replacing_value, modified_value}

-- the enum has the values of a base metric, which the modified metric can replace
pub record IsBaseValue {A : Type 0} (kind modified_kind : MetricType) (value : A → Value kind) (own : Modified A → Option AnyValue) : Type 0 where
  -- each value has a weight, and none is spelled X
  pub weighed : (x : A) → IsSome (weight_of kind (value x))
  pub defined : (x : A) → spelling_of kind (value x) ≢ codes "X"
  -- the modified metric is the one that replaces it
  pub replaced : modified_of kind ≡ Some modified_kind
  -- where the modified values are reported to be values of it, they are those of the values set
  pub own_is : (x : Modified A) → modified_value kind value own x ≡ replacing_value kind (modified_map value x)
