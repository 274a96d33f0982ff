-- The metrics of CVSS v4.0 with the types of their values: v4.0 specification, sections 2 (base), 3
-- (threat), 4 (environmental) and 5 (supplemental).
use Rattle.std.specs.Prelude.{ℕ, List, Option}
use Rattle.cvss_base.specs.declared.v4.MetricType.{MetricType}
use Rattle.cvss_base.specs.declared.v4.MetricType.TheVariants as metric
use Rattle.cvss_metric.specs.v4.Places.{two_rank, three_rank, four_rank, five_rank}
use Rattle.cvss_metric.specs.v4.Table.{spelling_at}
use Rattle.cvss_vector.specs.declared.v4.vector.Vector.{Vector}

-- a type of values, the place of each among the spellings of its metric, the value that a vector has, and the vector
-- with another one
pub record Metric : Type 1 where
  pub Value : Type 0
  pub rank : Value → ℕ
  pub value : Vector → Option Value
  pub with_value : Vector → Option Value → Vector

-- a metric whose values are given by their places, and the field of a vector
abbrev of : {A : Type 0} → (A → ℕ) → (Vector → Option A) → (Vector → Option A → Vector) → Metric
of {A} rank value with_value = record { Value = A; rank = rank; value = value; with_value = with_value }

-- the values of each metric
abbrev pub values_of : MetricType → Metric
values_of metric.AV = of four_rank (λ v. v.av) (λ v x. record v { av = x })
values_of metric.AC = of two_rank (λ v. v.ac) (λ v x. record v { ac = x })
values_of metric.AT = of two_rank (λ v. v.at) (λ v x. record v { at = x })
values_of metric.PR = of three_rank (λ v. v.pr) (λ v x. record v { pr = x })
values_of metric.UI = of three_rank (λ v. v.ui) (λ v x. record v { ui = x })
values_of metric.VC = of three_rank (λ v. v.vc) (λ v x. record v { vc = x })
values_of metric.VI = of three_rank (λ v. v.vi) (λ v x. record v { vi = x })
values_of metric.VA = of three_rank (λ v. v.va) (λ v x. record v { va = x })
values_of metric.SC = of three_rank (λ v. v.sc) (λ v x. record v { sc = x })
values_of metric.SI = of three_rank (λ v. v.si) (λ v x. record v { si = x })
values_of metric.SA = of three_rank (λ v. v.sa) (λ v x. record v { sa = x })
values_of metric.E = of four_rank (λ v. v.e) (λ v x. record v { e = x })
values_of metric.CR = of four_rank (λ v. v.cr) (λ v x. record v { cr = x })
values_of metric.IR = of four_rank (λ v. v.ir) (λ v x. record v { ir = x })
values_of metric.AR = of four_rank (λ v. v.ar) (λ v x. record v { ar = x })
values_of metric.MAV = of five_rank (λ v. v.mav) (λ v x. record v { mav = x })
values_of metric.MAC = of three_rank (λ v. v.mac) (λ v x. record v { mac = x })
values_of metric.MAT = of three_rank (λ v. v.mat) (λ v x. record v { mat = x })
values_of metric.MPR = of four_rank (λ v. v.mpr) (λ v x. record v { mpr = x })
values_of metric.MUI = of four_rank (λ v. v.mui) (λ v x. record v { mui = x })
values_of metric.MVC = of four_rank (λ v. v.mvc) (λ v x. record v { mvc = x })
values_of metric.MVI = of four_rank (λ v. v.mvi) (λ v x. record v { mvi = x })
values_of metric.MVA = of four_rank (λ v. v.mva) (λ v x. record v { mva = x })
values_of metric.MSC = of four_rank (λ v. v.msc) (λ v x. record v { msc = x })
values_of metric.MSI = of five_rank (λ v. v.msi) (λ v x. record v { msi = x })
values_of metric.MSA = of five_rank (λ v. v.msa) (λ v x. record v { msa = x })
values_of metric.S = of three_rank (λ v. v.s) (λ v x. record v { s = x })
values_of metric.AU = of three_rank (λ v. v.au) (λ v x. record v { au = x })
values_of metric.R = of four_rank (λ v. v.r) (λ v x. record v { r = x })
values_of metric.V = of three_rank (λ v. v.v) (λ v x. record v { v = x })
values_of metric.RE = of four_rank (λ v. v.re) (λ v x. record v { re = x })
values_of metric.U = of five_rank (λ v. v.u) (λ v x. record v { u = x })

-- the type of a metric's values
abbrev pub Value : MetricType → Type 0
Value kind = (values_of kind).Value

-- the place of a value among the spellings of its metric
abbrev pub rank_of : (kind : MetricType) → Value kind → ℕ
rank_of kind = (values_of kind).rank

-- the vector's value for a metric
abbrev pub value_at : Vector → (kind : MetricType) → Option (Value kind)
value_at v kind = (values_of kind).value v

-- how a value is spelled
abbrev pub spelling_of : (kind : MetricType) → Value kind → List ℕ
spelling_of kind value = spelling_at kind (rank_of kind value)
