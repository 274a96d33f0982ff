-- The metrics of CVSS v4.0 with the spellings of their values, as they are compared, the least first: v4.0
-- specification, sections 2 (base), 3 (threat), 4 (environmental) and 5 (supplemental).
use Rattle.std.specs.Prelude.{ℕ, List, [], ◌∷◌, ◌++◌, codes, get_or, slice_get, unwrap_or}
use Rattle.cvss_base.specs.Text.{component}
use Rattle.cvss_base.specs.Groups.{in_group}
use Rattle.cvss_base.specs.V4Types.{name_of, group_of, declared}
use Rattle.cvss_base.specs.declared.group.MetricGroup.TheVariants.{Base}
use Rattle.cvss_base.specs.declared.v4.MetricType.{MetricType}
use Rattle.cvss_base.specs.declared.v4.MetricType.TheVariants as metric

-- how the values of an impact are spelled
abbrev impacts : List (List ℕ)
impacts = codes "N" ∷ codes "L" ∷ codes "H" ∷ []

-- how the values of a security requirement are spelled
abbrev requirements : List (List ℕ)
requirements = codes "X" ∷ codes "L" ∷ codes "M" ∷ codes "H" ∷ []

-- how the values of a metric are spelled that is none of the modified ones
abbrev own_spellings : MetricType → List (List ℕ)
own_spellings metric.AV = codes "P" ∷ codes "L" ∷ codes "A" ∷ codes "N" ∷ []
own_spellings metric.AC = codes "H" ∷ codes "L" ∷ []
own_spellings metric.AT = codes "P" ∷ codes "N" ∷ []
own_spellings metric.PR = codes "H" ∷ codes "L" ∷ codes "N" ∷ []
own_spellings metric.UI = codes "A" ∷ codes "P" ∷ codes "N" ∷ []
own_spellings metric.VC = impacts
own_spellings metric.VI = impacts
own_spellings metric.VA = impacts
own_spellings metric.SC = impacts
own_spellings metric.SI = impacts
own_spellings metric.SA = impacts
own_spellings metric.E = codes "X" ∷ codes "U" ∷ codes "P" ∷ codes "A" ∷ []
own_spellings metric.CR = requirements
own_spellings metric.IR = requirements
own_spellings metric.AR = requirements
own_spellings metric.S = codes "X" ∷ codes "P" ∷ codes "N" ∷ []
own_spellings metric.AU = codes "X" ∷ codes "Y" ∷ codes "N" ∷ []
own_spellings metric.R = codes "X" ∷ codes "A" ∷ codes "U" ∷ codes "I" ∷ []
own_spellings metric.V = codes "X" ∷ codes "D" ∷ codes "C" ∷ []
own_spellings metric.RE = codes "X" ∷ codes "L" ∷ codes "M" ∷ codes "H" ∷ []
own_spellings metric.U = codes "X" ∷ codes "Red" ∷ codes "Amber" ∷ codes "Green" ∷ codes "Clear" ∷ []
own_spellings modified = []

-- how the values of a metric are spelled; a modified metric has X and the values of its base metric, and MSI and MSA
-- also S for Safety
abbrev pub spellings_of : MetricType → List (List ℕ)
spellings_of metric.MAV = own_spellings metric.AV ++ (codes "X" ∷ [])
spellings_of metric.MAC = codes "X" ∷ own_spellings metric.AC
spellings_of metric.MAT = codes "X" ∷ own_spellings metric.AT
spellings_of metric.MPR = codes "X" ∷ own_spellings metric.PR
spellings_of metric.MUI = codes "X" ∷ own_spellings metric.UI
spellings_of metric.MVC = codes "X" ∷ own_spellings metric.VC
spellings_of metric.MVI = codes "X" ∷ own_spellings metric.VI
spellings_of metric.MVA = codes "X" ∷ own_spellings metric.VA
spellings_of metric.MSC = codes "X" ∷ own_spellings metric.SC
spellings_of metric.MSI = codes "X" ∷ (own_spellings metric.SI ++ (codes "S" ∷ []))
spellings_of metric.MSA = codes "X" ∷ (own_spellings metric.SA ++ (codes "S" ∷ []))
spellings_of kind = own_spellings kind

-- how the value is spelled that has this place among those of its metric
abbrev pub spelling_at : MetricType → ℕ → List ℕ
spelling_at kind rank = unwrap_or (slice_get (spellings_of kind) rank) []

-- how the value is spelled that a metric has by default: that of a base metric is its most severe one, as in the Rust
-- crate, and of the others that which is not defined
abbrev pub default_of : MetricType → List ℕ
default_of metric.AV = codes "N"
default_of metric.AC = codes "L"
default_of metric.AT = codes "N"
default_of metric.PR = codes "N"
default_of metric.UI = codes "N"
default_of metric.VC = codes "H"
default_of metric.VI = codes "H"
default_of metric.VA = codes "H"
default_of metric.SC = codes "H"
default_of metric.SI = codes "H"
default_of metric.SA = codes "H"
default_of _ = codes "X"

-- the metric's name, a colon and that spelling
abbrev pub metric_component : MetricType → ℕ → List ℕ
metric_component kind rank = component (name_of kind) (spelling_at kind rank)

-- the order in which a vector is printed
abbrev pub printed : List MetricType
printed = metric.AV ∷ metric.AC ∷ metric.AT ∷ metric.PR ∷ metric.UI ∷ metric.VC ∷ metric.VI ∷ metric.VA ∷ metric.SC ∷ metric.SI ∷ metric.SA ∷ metric.E ∷ metric.CR ∷ metric.IR ∷ metric.AR ∷ metric.MAV ∷ metric.MAC ∷ metric.MAT ∷ metric.MPR ∷ metric.MUI ∷ metric.MVC ∷ metric.MVI ∷ metric.MVA ∷ metric.MSC ∷ metric.MSI ∷ metric.MSA ∷ metric.S ∷ metric.AU ∷ metric.R ∷ metric.V ∷ metric.RE ∷ metric.U ∷ []

-- the base metrics, which each vector has, in the order in which they are missed
abbrev pub mandatory : List MetricType
mandatory = in_group group_of Base declared

-- the metrics with two values, in printing order, and each by its number there
abbrev pub with_two : List MetricType
with_two = metric.AC ∷ metric.AT ∷ []

abbrev pub two_kind : ℕ → MetricType
two_kind number = get_or with_two number metric.AC

-- the metrics with three values, in printing order, and each by its number there
abbrev pub with_three : List MetricType
with_three = metric.PR ∷ metric.UI ∷ metric.VC ∷ metric.VI ∷ metric.VA ∷ metric.SC ∷ metric.SI ∷ metric.SA ∷ metric.MAC ∷ metric.MAT ∷ metric.S ∷ metric.AU ∷ metric.V ∷ []

abbrev pub three_kind : ℕ → MetricType
three_kind number = get_or with_three number metric.PR

-- the metrics with four values, in printing order, and each by its number there
abbrev pub with_four : List MetricType
with_four = metric.AV ∷ metric.E ∷ metric.CR ∷ metric.IR ∷ metric.AR ∷ metric.MPR ∷ metric.MUI ∷ metric.MVC ∷ metric.MVI ∷ metric.MVA ∷ metric.MSC ∷ metric.R ∷ metric.RE ∷ []

abbrev pub four_kind : ℕ → MetricType
four_kind number = get_or with_four number metric.AV

-- the metrics with five values, in printing order, and each by its number there
abbrev pub with_five : List MetricType
with_five = metric.MAV ∷ metric.MSI ∷ metric.MSA ∷ metric.U ∷ []

abbrev pub five_kind : ℕ → MetricType
five_kind number = get_or with_five number metric.MAV
