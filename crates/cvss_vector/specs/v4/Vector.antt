-- A vector of CVSS v4.0 as a map from metrics to values: v4.0 specification, section 7.
use Rattle.std.specs.Prelude.{true, [], ◌∷◌, ◌++◌, codes}
use Rattle.cvss_base.specs.Version.{numeral, Version, version_piece}
use Rattle.cvss_base.specs.V4Types.{name_of}
use Rattle.cvss_base.specs.declared.v4.MetricType.{MetricType}
use Rattle.cvss_metric.specs.v4.Table.{printed, mandatory}
use Rattle.cvss_vector.specs.v4.Table.{Value, spelling_of, value_at}
use Rattle.cvss_vector.specs.declared.v4.vector.Vector.{Vector}

-- CVSS v4.0: names and values are read in any case, and the first piece says version 4.0
abbrev pub v4 : Version Vector MetricType
v4 = record {
  any_case = true;
  name = name_of;
  Value = Value;
  spelling = spelling_of;
  value_of = value_at;
  printed = printed;
  mandatory = mandatory;
  reported_kind = λ kind. kind;
  front = λ v. version_piece (codes "4." ++ numeral v.minor_version) ∷ [];
  supported = codes "4.0" ∷ [];
}
