-- The weights of the CVSS v2 guide, 3.2, in thousandths.
use Rattle.std.specs.Prelude.{ℕ, option_map, unwrap_or}
use Rattle.cvss_base.specs.declared.v2.MetricType.{MetricType}
use Rattle.cvss_base.specs.declared.v2.MetricType.TheVariants.{A, AC, AV, Au, C, I, E, RL, RC, CDP, TD, CR, IR, AR}
use Rattle.cvss_vector.specs.declared.v2.vector.Vector.{Vector}
use Rattle.cvss_score.specs.declared.v2.weights.Weights.{Weights}
use Rattle.cvss_metric.specs.v2.Table.{weight_of, absent_weight}
use Rattle.cvss_vector.specs.v2.Vector.{value_at}

-- the weight of a vector's metric
abbrev pub weight_in : Vector → MetricType → ℕ
weight_in v kind = unwrap_or (option_map (weight_of kind) (value_at v kind)) (absent_weight kind)

-- the weights of all metrics
abbrev pub weights_by : (MetricType → ℕ) → Weights
weights_by weight = record {
  av = weight AV;
  ac = weight AC;
  au = weight Au;
  c = weight C;
  i = weight I;
  a = weight A;
  e = weight E;
  rl = weight RL;
  rc = weight RC;
  cdp = weight CDP;
  td = weight TD;
  cr = weight CR;
  ir = weight IR;
  ar = weight AR;
}

-- the weights of a vector
abbrev pub weights_of : Vector → Weights
weights_of v = weights_by (weight_in v)
