-- What the laws of the scores speak of: v3.1 specification, sections 3 and 4 (the value Not Defined
-- has no effect on the score, and a modified metric overrides its base metric).
use Rattle.std.specs.Prelude.{◌≡◌, ◌⊎◌, IfSome, None, codes}
use Rattle.cvss_base.specs.declared.v3.MetricType.{MetricType}
use Rattle.cvss_metric.specs.v3.Table.{spelling_of}
use Rattle.cvss_vector.specs.declared.v3.vector.Vector.{Vector}
use Rattle.cvss_vector.specs.v3.Vector.{value_at}
use Rattle.cvss_score.specs.v3.Weighing.{effective, effective_scope}

-- the vector has no value for the metric, or the value X
abbrev pub IsNotDefined : Vector → MetricType → Type 0
IsNotDefined v kind = IfSome (value_at v kind) (λ value. spelling_of kind value ≡ codes "X")

-- of each metric both vectors have the same value, or it is not defined in both
abbrev pub DefineTheSame : Vector → Vector → Type 0
DefineTheSame v w =
    (kind : MetricType) → (value_at v kind ≡ value_at w kind) ⊎ (IsNotDefined v kind × IsNotDefined w kind)

-- the vector whose base metrics have the letters of the modified metrics, which it lacks
abbrev pub with_modified_as_base : Vector → Vector
with_modified_as_base v = record v {
  av = effective v.mav v.av;
  ac = effective v.mac v.ac;
  pr = effective v.mpr v.pr;
  ui = effective v.mui v.ui;
  s = effective_scope v.ms v.s;
  c = effective v.mc v.c;
  i = effective v.mi v.i;
  a = effective v.ma v.a;
  mav = None;
  mac = None;
  mpr = None;
  mui = None;
  ms = None;
  mc = None;
  mi = None;
  ma = None;
}
