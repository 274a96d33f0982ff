-- The weights of a vector's values are those of the tables.
use Rattle.std.proofs.Common.{suc, ◌∷◌, Bool, true, false, Option, Some, None, unwrap_or, arith, refl, rules, lit<}
use Rattle.std.specs.List.{Contains}
use Rattle.cvss_base.specs.declared.v3.MetricType.{MetricType}
use Rattle.cvss_base.specs.declared.v3.MetricType.TheVariants.{A, AC, AV, C, I, PR, UI, E, RL, RC, CR, IR, AR}
use Rattle.cvss_metric.specs.v3.Modified.{weight_or}
use Rattle.cvss_metric.specs.v3.Table.{Value, weight_of}
use Rattle.cvss_base.proofs.TestLemmas.{listed_if}
use Rattle.cvss_score.specs.v3.Weighing.{weight_at, privileges_weight, effective, effective_scope, is_changed}
use Rattle.cvss_score.specs.v3.Bounds.{weights_in, privileges_required, AreOfTables}
use Rattle.cvss_vector.specs.v3.VectorWeights.{weights_of}
use Rattle.cvss_vector.specs.declared.v3.vector.Vector.{Vector}

-- a value's weight is one of its metric's
weight_listed : (kind : MetricType) (value : Value kind) → Contains (weights_in kind) (unwrap_or (weight_of kind value) 0)
weight_listed A value = listed_if (weights_in A) (unwrap_or (weight_of A value) 0) (search rules)
weight_listed kind value = listed_if (weights_in kind) (unwrap_or (weight_of kind value) 0) (search rules)

base_listed : (kind : MetricType) (value : Option (Value kind)) → Contains (0 ∷ weights_in kind) (weight_or (weight_of kind) value 0)
base_listed kind None = (0, omega arith, refl)
base_listed kind (Some value) = let (i, within, is) = weight_listed kind value in (suc i, omega (arith, within), is)

-- an absent optional metric weighs as X does, whose row is the first
optional_listed : (kind : MetricType) → Contains (weights_in kind) (weight_at kind None) → (value : Option (Value kind)) → Contains (weights_in kind) (weight_at kind value)
optional_listed kind absent None = absent
optional_listed kind absent (Some value) = weight_listed kind value

privileges_listed : (changed : Bool) (value : Option (Value PR)) → Contains (privileges_required changed) (privileges_weight changed value)
privileges_listed false value = listed_if (privileges_required false) (privileges_weight false value) (search rules)
privileges_listed true value = listed_if (privileges_required true) (privileges_weight true value) (search rules)

pub weights_listed : (v : Vector) → AreOfTables (weights_of v)
weights_listed v = record {
  av = base_listed AV v.av;
  ac = base_listed AC v.ac;
  pr = privileges_listed (is_changed v.s) v.pr;
  ui = base_listed UI v.ui;
  c = base_listed C v.c;
  i = base_listed I v.i;
  a = base_listed A v.a;
  e = optional_listed E (0, lit< tt, refl) v.e;
  rl = optional_listed RL (0, lit< tt, refl) v.rl;
  rc = optional_listed RC (0, lit< tt, refl) v.rc;
  cr = optional_listed CR (0, lit< tt, refl) v.cr;
  ir = optional_listed IR (0, lit< tt, refl) v.ir;
  ar = optional_listed AR (0, lit< tt, refl) v.ar;
  mav = base_listed AV (effective v.mav v.av);
  mac = base_listed AC (effective v.mac v.ac);
  mpr = privileges_listed (is_changed (effective_scope v.ms v.s)) (effective v.mpr v.pr);
  mui = base_listed UI (effective v.mui v.ui);
  mc = base_listed C (effective v.mc v.c);
  mi = base_listed I (effective v.mi v.i);
  ma = base_listed A (effective v.ma v.a);
}
