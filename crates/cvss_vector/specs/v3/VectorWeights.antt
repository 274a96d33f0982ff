-- The weights of a vector: v3.1 specification, sections 2.1 to 4.2 (a metric that is Not Defined is
-- skipped by the equations, a modified metric replaces its base metric) and 7.4.
use Rattle.cvss_base.specs.declared.v3.MetricType.TheVariants.{A, AC, AV, C, I, UI, E, RL, RC, CR, IR, AR}
use Rattle.cvss_score.specs.v3.Weighing.{weight_at, privileges_weight, effective, effective_scope, is_changed}
use Rattle.cvss_score.specs.declared.v3.weights.Weights.{Weights}
use Rattle.cvss_vector.specs.declared.v3.vector.Vector.{Vector}

-- the weights of a vector's metrics
abbrev pub weights_of : Vector → Weights
weights_of v = record {
  av = weight_at AV v.av;
  ac = weight_at AC v.ac;
  pr = privileges_weight (is_changed v.s) v.pr;
  ui = weight_at UI v.ui;
  changed = is_changed v.s;
  c = weight_at C v.c;
  i = weight_at I v.i;
  a = weight_at A v.a;
  e = weight_at E v.e;
  rl = weight_at RL v.rl;
  rc = weight_at RC v.rc;
  cr = weight_at CR v.cr;
  ir = weight_at IR v.ir;
  ar = weight_at AR v.ar;
  mav = weight_at AV (effective v.mav v.av);
  mac = weight_at AC (effective v.mac v.ac);
  mpr = privileges_weight (is_changed (effective_scope v.ms v.s)) (effective v.mpr v.pr);
  mui = weight_at UI (effective v.mui v.ui);
  modified_changed = is_changed (effective_scope v.ms v.s);
  mc = weight_at C (effective v.mc v.c);
  mi = weight_at I (effective v.mi v.i);
  ma = weight_at A (effective v.ma v.a);
}
