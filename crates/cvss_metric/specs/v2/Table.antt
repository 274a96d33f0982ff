-- The metrics of CVSS v2, by the tables of the guide: section 2.1 (base), 2.2 (temporal) and 2.3
-- (environmental) for the values and their spellings, section 3.2 for their weights.
use Rattle.std.specs.Prelude.{ℕ, List, [], ◌∷◌, codes, slice_get, unwrap_or, find}
use Rattle.std.specs.Option.{option_map_or}
use Rattle.std.specs.Str.{bytes_eq}
use Rattle.cvss_base.specs.Text.{component}
use Rattle.cvss_base.specs.Groups.{in_group}
use Rattle.cvss_base.specs.V2Types.{name_of, group_of}
use Rattle.cvss_base.specs.declared.group.MetricGroup.TheVariants.{Base}
use Rattle.cvss_base.specs.declared.v2.MetricType.{MetricType}
use Rattle.cvss_base.specs.declared.v2.MetricType.TheVariants.{A, AC, AV, Au, C, I, E, RL, RC, CDP, TD, CR, IR, AR}
use Rattle.cvss_metric.specs.declared.v2.base.access.AccessVector.{AccessVector}
use Rattle.cvss_metric.specs.declared.v2.base.access.AccessVector.TheVariants as access_vector
use Rattle.cvss_metric.specs.declared.v2.base.access.AccessComplexity.{AccessComplexity}
use Rattle.cvss_metric.specs.declared.v2.base.access.AccessComplexity.TheVariants as access_complexity
use Rattle.cvss_metric.specs.declared.v2.base.access.Authentication.{Authentication}
use Rattle.cvss_metric.specs.declared.v2.base.access.Authentication.TheVariants as authentication
use Rattle.cvss_metric.specs.declared.v2.base.impact.ConfidentialityImpact.{ConfidentialityImpact}
use Rattle.cvss_metric.specs.declared.v2.base.impact.ConfidentialityImpact.TheVariants as confidentiality_impact
use Rattle.cvss_metric.specs.declared.v2.base.impact.IntegrityImpact.{IntegrityImpact}
use Rattle.cvss_metric.specs.declared.v2.base.impact.IntegrityImpact.TheVariants as integrity_impact
use Rattle.cvss_metric.specs.declared.v2.base.impact.AvailabilityImpact.{AvailabilityImpact}
use Rattle.cvss_metric.specs.declared.v2.base.impact.AvailabilityImpact.TheVariants as availability_impact
use Rattle.cvss_metric.specs.declared.v2.temporal.Exploitability.{Exploitability}
use Rattle.cvss_metric.specs.declared.v2.temporal.Exploitability.TheVariants as exploitability
use Rattle.cvss_metric.specs.declared.v2.temporal.RemediationLevel.{RemediationLevel}
use Rattle.cvss_metric.specs.declared.v2.temporal.RemediationLevel.TheVariants as remediation_level
use Rattle.cvss_metric.specs.declared.v2.temporal.ReportConfidence.{ReportConfidence}
use Rattle.cvss_metric.specs.declared.v2.temporal.ReportConfidence.TheVariants as report_confidence
use Rattle.cvss_metric.specs.declared.v2.environmental.loss.CollateralDamagePotential.{CollateralDamagePotential}
use Rattle.cvss_metric.specs.declared.v2.environmental.loss.CollateralDamagePotential.TheVariants as collateral_damage_potential
use Rattle.cvss_metric.specs.declared.v2.environmental.loss.TargetDistribution.{TargetDistribution}
use Rattle.cvss_metric.specs.declared.v2.environmental.loss.TargetDistribution.TheVariants as target_distribution
use Rattle.cvss_metric.specs.declared.v2.environmental.requirement.ConfidentialityRequirement.{ConfidentialityRequirement}
use Rattle.cvss_metric.specs.declared.v2.environmental.requirement.ConfidentialityRequirement.TheVariants as confidentiality_requirement
use Rattle.cvss_metric.specs.declared.v2.environmental.requirement.IntegrityRequirement.{IntegrityRequirement}
use Rattle.cvss_metric.specs.declared.v2.environmental.requirement.IntegrityRequirement.TheVariants as integrity_requirement
use Rattle.cvss_metric.specs.declared.v2.environmental.requirement.AvailabilityRequirement.{AvailabilityRequirement}
use Rattle.cvss_metric.specs.declared.v2.environmental.requirement.AvailabilityRequirement.TheVariants as availability_requirement

-- the type of a metric's values
abbrev pub Value : MetricType → Type 0
Value AV = AccessVector
Value AC = AccessComplexity
Value Au = Authentication
Value C = ConfidentialityImpact
Value I = IntegrityImpact
Value A = AvailabilityImpact
Value E = Exploitability
Value RL = RemediationLevel
Value RC = ReportConfidence
Value CDP = CollateralDamagePotential
Value TD = TargetDistribution
Value CR = ConfidentialityRequirement
Value IR = IntegrityRequirement
Value AR = AvailabilityRequirement

-- how each value of a metric is spelled, and its weight in thousandths, the least value first
abbrev pub rows_of : MetricType → List (List ℕ × ℕ)
rows_of AV = (codes "L", 395) ∷ (codes "A", 646) ∷ (codes "N", 1000) ∷ []
rows_of AC = (codes "H", 350) ∷ (codes "M", 610) ∷ (codes "L", 710) ∷ []
rows_of Au = (codes "M", 450) ∷ (codes "S", 560) ∷ (codes "N", 704) ∷ []
rows_of C = (codes "N", 0) ∷ (codes "P", 275) ∷ (codes "C", 660) ∷ []
rows_of I = (codes "N", 0) ∷ (codes "P", 275) ∷ (codes "C", 660) ∷ []
rows_of A = (codes "N", 0) ∷ (codes "P", 275) ∷ (codes "C", 660) ∷ []
rows_of E = (codes "U", 850) ∷ (codes "POC", 900) ∷ (codes "F", 950) ∷ (codes "H", 1000) ∷ (codes "ND", 1000) ∷ []
rows_of RL = (codes "OF", 870) ∷ (codes "TF", 900) ∷ (codes "W", 950) ∷ (codes "U", 1000) ∷ (codes "ND", 1000) ∷ []
rows_of RC = (codes "UC", 900) ∷ (codes "UR", 950) ∷ (codes "C", 1000) ∷ (codes "ND", 1000) ∷ []
rows_of CDP = (codes "N", 0) ∷ (codes "L", 100) ∷ (codes "LM", 300) ∷ (codes "MH", 400) ∷ (codes "H", 500) ∷ (codes "ND", 0) ∷ []
rows_of TD = (codes "N", 0) ∷ (codes "L", 250) ∷ (codes "M", 750) ∷ (codes "H", 1000) ∷ (codes "ND", 1000) ∷ []
rows_of CR = (codes "L", 500) ∷ (codes "M", 1000) ∷ (codes "H", 1510) ∷ (codes "ND", 1000) ∷ []
rows_of IR = (codes "L", 500) ∷ (codes "M", 1000) ∷ (codes "H", 1510) ∷ (codes "ND", 1000) ∷ []
rows_of AR = (codes "L", 500) ∷ (codes "M", 1000) ∷ (codes "H", 1510) ∷ (codes "ND", 1000) ∷ []

-- the place of a value among the rows of its metric
abbrev pub rank_of : (kind : MetricType) → Value kind → ℕ
rank_of AV = elim [ access_vector.Local ↦ 0 | access_vector.AdjacentNetwork ↦ 1 | access_vector.Network ↦ 2 ]
rank_of AC = elim [ access_complexity.High ↦ 0 | access_complexity.Medium ↦ 1 | access_complexity.Low ↦ 2 ]
rank_of Au = elim [ authentication.Multiple ↦ 0 | authentication.Single ↦ 1 | authentication.None ↦ 2 ]
rank_of C = elim [ confidentiality_impact.None ↦ 0 | confidentiality_impact.Partial ↦ 1 | confidentiality_impact.Complete ↦ 2 ]
rank_of I = elim [ integrity_impact.None ↦ 0 | integrity_impact.Partial ↦ 1 | integrity_impact.Complete ↦ 2 ]
rank_of A = elim [ availability_impact.None ↦ 0 | availability_impact.Partial ↦ 1 | availability_impact.Complete ↦ 2 ]
rank_of E = elim [ exploitability.Unproven ↦ 0 | exploitability.ProofOfConcept ↦ 1 | exploitability.Functional ↦ 2 | exploitability.High ↦ 3 | exploitability.NotDefined ↦ 4 ]
rank_of RL = elim [ remediation_level.OfficialFix ↦ 0 | remediation_level.TemporaryFix ↦ 1 | remediation_level.Workaround ↦ 2 | remediation_level.Unavailable ↦ 3 | remediation_level.NotDefined ↦ 4 ]
rank_of RC = elim [ report_confidence.Unconfirmed ↦ 0 | report_confidence.Uncorroborated ↦ 1 | report_confidence.Confirmed ↦ 2 | report_confidence.NotDefined ↦ 3 ]
rank_of CDP = elim [ collateral_damage_potential.None ↦ 0 | collateral_damage_potential.Low ↦ 1 | collateral_damage_potential.LowMedium ↦ 2 | collateral_damage_potential.MediumHigh ↦ 3 | collateral_damage_potential.High ↦ 4 | collateral_damage_potential.NotDefined ↦ 5 ]
rank_of TD = elim [ target_distribution.None ↦ 0 | target_distribution.Low ↦ 1 | target_distribution.Medium ↦ 2 | target_distribution.High ↦ 3 | target_distribution.NotDefined ↦ 4 ]
rank_of CR = elim [ confidentiality_requirement.Low ↦ 0 | confidentiality_requirement.Medium ↦ 1 | confidentiality_requirement.High ↦ 2 | confidentiality_requirement.NotDefined ↦ 3 ]
rank_of IR = elim [ integrity_requirement.Low ↦ 0 | integrity_requirement.Medium ↦ 1 | integrity_requirement.High ↦ 2 | integrity_requirement.NotDefined ↦ 3 ]
rank_of AR = elim [ availability_requirement.Low ↦ 0 | availability_requirement.Medium ↦ 1 | availability_requirement.High ↦ 2 | availability_requirement.NotDefined ↦ 3 ]

-- a value's row
abbrev row_of : (kind : MetricType) → Value kind → List ℕ × ℕ
row_of kind value = unwrap_or (slice_get (rows_of kind) (rank_of kind value)) ([], 0)

-- how the value is spelled
abbrev pub spelling_of : (kind : MetricType) → Value kind → List ℕ
spelling_of kind value = (row_of kind value).0

-- the value's weight, in thousandths
abbrev pub weight_of : (kind : MetricType) → Value kind → ℕ
weight_of kind value = (row_of kind value).1

-- the weight of an absent metric: that of Not Defined, where the metric has this value
abbrev pub absent_weight : MetricType → ℕ
absent_weight kind = option_map_or (λ row. row.1) (find (λ row. bytes_eq row.0 (codes "ND")) (rows_of kind)) 0

-- the metric's name, a colon and the value's spelling
abbrev pub metric_component : (kind : MetricType) → Value kind → List ℕ
metric_component kind value = component (name_of kind) (spelling_of kind value)

-- the order in which a vector is printed
abbrev pub printed : List MetricType
printed = AV ∷ AC ∷ Au ∷ C ∷ I ∷ A ∷ E ∷ RL ∷ RC ∷ CDP ∷ TD ∷ CR ∷ IR ∷ AR ∷ []

-- the base metrics, which each vector has, in the order in which they are missed
abbrev pub mandatory : List MetricType
mandatory = in_group group_of Base printed

-- the order in which the metrics of a vector are listed, which is the Rust crate's
abbrev pub listed : List MetricType
listed = AC ∷ Au ∷ AV ∷ C ∷ I ∷ A ∷ CR ∷ IR ∷ AR ∷ CDP ∷ TD ∷ E ∷ RC ∷ RL ∷ []
