-- A vector of CVSS v3.0 or v3.1 as a map from metrics to values: v3.1 specification, section 6.
use Rattle.std.specs.Prelude.{true, [], ◌∷◌, ◌++◌, codes, Option}
use Rattle.cvss_base.specs.Version.{numeral, Version, version_piece}
use Rattle.cvss_base.specs.V3Types.{name_of}
use Rattle.cvss_base.specs.declared.v3.MetricType.{MetricType}
use Rattle.cvss_base.specs.declared.v3.MetricType.TheVariants.{A, AC, AV, C, I, PR, S, UI, E, RL, RC, CR, IR, AR, MAV, MAC, MPR, MUI, MS, MC, MI, MA}
use Rattle.cvss_metric.specs.v3.Table.{Value, spelling_of, printed, reported_kind}
use Rattle.cvss_vector.specs.declared.v3.vector.Vector.{Vector}

-- the vector's value for a metric
abbrev pub value_at : Vector → (kind : MetricType) → Option (Value kind)
value_at v AV = v.av
value_at v AC = v.ac
value_at v PR = v.pr
value_at v UI = v.ui
value_at v S = v.s
value_at v C = v.c
value_at v I = v.i
value_at v A = v.a
value_at v E = v.e
value_at v RL = v.rl
value_at v RC = v.rc
value_at v CR = v.cr
value_at v IR = v.ir
value_at v AR = v.ar
value_at v MAV = v.mav
value_at v MAC = v.mac
value_at v MPR = v.mpr
value_at v MUI = v.mui
value_at v MS = v.ms
value_at v MC = v.mc
value_at v MI = v.mi
value_at v MA = v.ma

-- CVSS v3: names and values are read in any case, no metric is mandatory, and the first piece says
-- version 3.0 or 3.1
abbrev pub v3 : Version Vector MetricType
v3 = record {
  any_case = true;
  name = name_of;
  Value = Value;
  spelling = spelling_of;
  value_of = value_at;
  printed = printed;
  mandatory = [];
  reported_kind = reported_kind;
  front = λ v. version_piece (codes "3." ++ numeral v.minor_version) ∷ [];
  supported = codes "3.0" ∷ codes "3.1" ∷ [];
}
