-- A vector of CVSS v2 as a map from metrics to values: guide, section 2.4.
use Rattle.std.specs.Prelude.{false, [], Option}
use Rattle.cvss_base.specs.V2Types.{name_of}
use Rattle.cvss_base.specs.Version.{Version}
use Rattle.cvss_base.specs.declared.v2.MetricType.{MetricType}
use Rattle.cvss_base.specs.declared.v2.MetricType.TheVariants.{A, AC, AV, Au, C, I, E, RL, RC, CDP, TD, CR, IR, AR}
use Rattle.cvss_vector.specs.declared.v2.vector.Vector.{Vector}
use Rattle.cvss_metric.specs.v2.Table.{Value, spelling_of, printed, mandatory}

-- the vector's value for a metric
abbrev pub value_at : Vector → (kind : MetricType) → Option (Value kind)
value_at v AV = v.av
value_at v AC = v.ac
value_at v Au = v.au
value_at v C = v.c
value_at v I = v.i
value_at v A = v.a
value_at v E = v.e
value_at v RL = v.rl
value_at v RC = v.rc
value_at v CDP = v.cdp
value_at v TD = v.td
value_at v CR = v.cr
value_at v IR = v.ir
value_at v AR = v.ar

-- CVSS v2: names and values are read as they are written, and no piece says the version
abbrev pub v2 : Version Vector MetricType
v2 = record {
  any_case = false;
  name = name_of;
  Value = Value;
  spelling = spelling_of;
  value_of = value_at;
  printed = printed;
  mandatory = mandatory;
  reported_kind = λ kind. kind;
  front = λ _. [];
  supported = [];
}
