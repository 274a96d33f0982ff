-- The metrics of CVSS v3.0 and v3.1 by their types, in the order of the v3.1 specification: sections 2 (base), 3
-- (temporal) and 4 (environmental) for the values and their spellings, section 7.4 for their weights.
use Rattle.std.specs.Prelude.{ℕ, ◌+◌, Bool, true, false, List, [], ◌∷◌, codes, Option, Some, None, unwrap_or, slice_get, find, bytes_eq}
use Rattle.std.specs.Option.{option_map_or}
use Rattle.cvss_base.specs.Text.{component}
use Rattle.cvss_base.specs.V3Types.{name_of}
use Rattle.cvss_base.specs.declared.v3.MetricType.{MetricType}
use Rattle.cvss_base.specs.declared.v3.MetricType.TheVariants.{A, AC, AV, C, I, PR, S, UI, E, RL, RC, CR, IR, AR, MAV, MAC, MPR, MUI, MS, MC, MI, MA}
use Rattle.cvss_metric.specs.declared.v3.base.attack.AttackVector.{AttackVector}
use Rattle.cvss_metric.specs.declared.v3.base.attack.AttackVector.TheVariants as attack_vector
use Rattle.cvss_metric.specs.declared.v3.base.attack.AttackComplexity.{AttackComplexity}
use Rattle.cvss_metric.specs.declared.v3.base.attack.AttackComplexity.TheVariants as attack_complexity
use Rattle.cvss_metric.specs.declared.v3.base.access.PrivilegesRequired.{PrivilegesRequired}
use Rattle.cvss_metric.specs.declared.v3.base.access.PrivilegesRequired.TheVariants as privileges_required
use Rattle.cvss_metric.specs.declared.v3.base.access.UserInteraction.{UserInteraction}
use Rattle.cvss_metric.specs.declared.v3.base.access.UserInteraction.TheVariants as user_interaction
use Rattle.cvss_metric.specs.declared.v3.base.scope.Scope.{Scope}
use Rattle.cvss_metric.specs.declared.v3.base.scope.Scope.TheVariants as scope
use Rattle.cvss_metric.specs.declared.v3.base.impact.Confidentiality.{Confidentiality}
use Rattle.cvss_metric.specs.declared.v3.base.impact.Confidentiality.TheVariants as confidentiality
use Rattle.cvss_metric.specs.declared.v3.base.impact.Integrity.{Integrity}
use Rattle.cvss_metric.specs.declared.v3.base.impact.Integrity.TheVariants as integrity
use Rattle.cvss_metric.specs.declared.v3.base.impact.Availability.{Availability}
use Rattle.cvss_metric.specs.declared.v3.base.impact.Availability.TheVariants as availability
use Rattle.cvss_metric.specs.declared.v3.temporal.ExploitCodeMaturity.{ExploitCodeMaturity}
use Rattle.cvss_metric.specs.declared.v3.temporal.ExploitCodeMaturity.TheVariants as exploit_code_maturity
use Rattle.cvss_metric.specs.declared.v3.temporal.RemediationLevel.{RemediationLevel}
use Rattle.cvss_metric.specs.declared.v3.temporal.RemediationLevel.TheVariants as remediation_level
use Rattle.cvss_metric.specs.declared.v3.temporal.ReportConfidence.{ReportConfidence}
use Rattle.cvss_metric.specs.declared.v3.temporal.ReportConfidence.TheVariants as report_confidence
use Rattle.cvss_metric.specs.declared.v3.environmental.requirement.ConfidentialityRequirement.{ConfidentialityRequirement}
use Rattle.cvss_metric.specs.declared.v3.environmental.requirement.ConfidentialityRequirement.TheVariants as confidentiality_requirement
use Rattle.cvss_metric.specs.declared.v3.environmental.requirement.IntegrityRequirement.{IntegrityRequirement}
use Rattle.cvss_metric.specs.declared.v3.environmental.requirement.IntegrityRequirement.TheVariants as integrity_requirement
use Rattle.cvss_metric.specs.declared.v3.environmental.requirement.AvailabilityRequirement.{AvailabilityRequirement}
use Rattle.cvss_metric.specs.declared.v3.environmental.requirement.AvailabilityRequirement.TheVariants as availability_requirement
use Rattle.cvss_metric.specs.declared.v3.environmental.modified.ModifiedScope.{ModifiedScope}
use Rattle.cvss_metric.specs.declared.v3.environmental.modified.ModifiedScope.TheVariants as modified_scope
use Rattle.cvss_metric.specs.declared.v3.environmental.modified.Modified.{Modified}
use Rattle.cvss_metric.specs.declared.v3.environmental.modified.Modified.TheVariants.{NotDefined, Modified as Set}
use Rattle.cvss_metric.specs.v3.Modified.{ValueWeight, modified_map, modified_rows, modified_rank}

-- the type of a metric's values
abbrev pub Value : MetricType → Type 0
Value AV = AttackVector
Value AC = AttackComplexity
Value PR = PrivilegesRequired
Value UI = UserInteraction
Value S = Scope
Value C = Confidentiality
Value I = Integrity
Value A = Availability
Value E = ExploitCodeMaturity
Value RL = RemediationLevel
Value RC = ReportConfidence
Value CR = ConfidentialityRequirement
Value IR = IntegrityRequirement
Value AR = AvailabilityRequirement
Value MAV = Modified AttackVector
Value MAC = Modified AttackComplexity
Value MPR = Modified PrivilegesRequired
Value MUI = Modified UserInteraction
Value MS = ModifiedScope
Value MC = Modified Confidentiality
Value MI = Modified Integrity
Value MA = Modified Availability

-- how each value of a metric is spelled, and its weight in hundredths, if it has one; the values as they are compared,
-- the least first; none of the modified metrics, whose rows are made of these
abbrev own_rows : MetricType → List ValueWeight
own_rows AV = (codes "P", Some 20) ∷ (codes "L", Some 55) ∷ (codes "A", Some 62) ∷ (codes "N", Some 85) ∷ []
own_rows AC = (codes "H", Some 44) ∷ (codes "L", Some 77) ∷ []
own_rows PR = (codes "H", Some 27) ∷ (codes "L", Some 62) ∷ (codes "N", Some 85) ∷ []
own_rows UI = (codes "R", Some 62) ∷ (codes "N", Some 85) ∷ []
own_rows S = (codes "U", None) ∷ (codes "C", None) ∷ []
own_rows C = (codes "N", Some 0) ∷ (codes "L", Some 22) ∷ (codes "H", Some 56) ∷ []
own_rows I = (codes "N", Some 0) ∷ (codes "L", Some 22) ∷ (codes "H", Some 56) ∷ []
own_rows A = (codes "N", Some 0) ∷ (codes "L", Some 22) ∷ (codes "H", Some 56) ∷ []
own_rows E = (codes "X", Some 100) ∷ (codes "H", Some 100) ∷ (codes "F", Some 97) ∷ (codes "P", Some 94) ∷ (codes "U", Some 91) ∷ []
own_rows RL = (codes "X", Some 100) ∷ (codes "U", Some 100) ∷ (codes "W", Some 97) ∷ (codes "T", Some 96) ∷ (codes "O", Some 95) ∷ []
own_rows RC = (codes "X", Some 100) ∷ (codes "C", Some 100) ∷ (codes "R", Some 96) ∷ (codes "U", Some 92) ∷ []
own_rows CR = (codes "X", Some 100) ∷ (codes "H", Some 150) ∷ (codes "M", Some 100) ∷ (codes "L", Some 50) ∷ []
own_rows IR = (codes "X", Some 100) ∷ (codes "H", Some 150) ∷ (codes "M", Some 100) ∷ (codes "L", Some 50) ∷ []
own_rows AR = (codes "X", Some 100) ∷ (codes "H", Some 150) ∷ (codes "M", Some 100) ∷ (codes "L", Some 50) ∷ []
own_rows modified = []

-- the rows of each metric
abbrev pub rows_of : MetricType → List ValueWeight
rows_of MAV = modified_rows (own_rows AV)
rows_of MAC = modified_rows (own_rows AC)
rows_of MPR = modified_rows (own_rows PR)
rows_of MUI = modified_rows (own_rows UI)
rows_of MS = (codes "X", Some 0) ∷ own_rows S
rows_of MC = modified_rows (own_rows C)
rows_of MI = modified_rows (own_rows I)
rows_of MA = modified_rows (own_rows A)
rows_of kind = own_rows kind

-- the value that Attack Complexity has by default, as in the Rust crate; no other metric has one
abbrev pub default_complexity : AttackComplexity
default_complexity = attack_complexity.High

-- the weights of Privileges Required in hundredths, in the order of its rows, where the scope is changed
abbrev pub changed_privileges : List ℕ
changed_privileges = 50 ∷ 68 ∷ 85 ∷ []

-- the place of a value among the rows of its metric, of none of the modified metrics
abbrev own_rank : (kind : MetricType) → Value kind → ℕ
own_rank AV = elim [ attack_vector.Physical ↦ 0 | attack_vector.Local ↦ 1 | attack_vector.Adjacent ↦ 2 | attack_vector.Network ↦ 3 ]
own_rank AC = elim [ attack_complexity.High ↦ 0 | attack_complexity.Low ↦ 1 ]
own_rank PR = elim [ privileges_required.High ↦ 0 | privileges_required.Low ↦ 1 | privileges_required.None ↦ 2 ]
own_rank UI = elim [ user_interaction.Required ↦ 0 | user_interaction.None ↦ 1 ]
own_rank S = elim [ scope.Unchanged ↦ 0 | scope.Changed ↦ 1 ]
own_rank C = elim [ confidentiality.None ↦ 0 | confidentiality.Low ↦ 1 | confidentiality.High ↦ 2 ]
own_rank I = elim [ integrity.None ↦ 0 | integrity.Low ↦ 1 | integrity.High ↦ 2 ]
own_rank A = elim [ availability.None ↦ 0 | availability.Low ↦ 1 | availability.High ↦ 2 ]
own_rank E = elim [ exploit_code_maturity.NotDefined ↦ 0 | exploit_code_maturity.High ↦ 1 | exploit_code_maturity.Functional ↦ 2 | exploit_code_maturity.ProofOfConcept ↦ 3 | exploit_code_maturity.Unproven ↦ 4 ]
own_rank RL = elim [ remediation_level.NotDefined ↦ 0 | remediation_level.Unavailable ↦ 1 | remediation_level.Workaround ↦ 2 | remediation_level.TemporaryFix ↦ 3 | remediation_level.OfficialFix ↦ 4 ]
own_rank RC = elim [ report_confidence.NotDefined ↦ 0 | report_confidence.Confirmed ↦ 1 | report_confidence.Reasonable ↦ 2 | report_confidence.Unknown ↦ 3 ]
own_rank CR = elim [ confidentiality_requirement.NotDefined ↦ 0 | confidentiality_requirement.High ↦ 1 | confidentiality_requirement.Medium ↦ 2 | confidentiality_requirement.Low ↦ 3 ]
own_rank IR = elim [ integrity_requirement.NotDefined ↦ 0 | integrity_requirement.High ↦ 1 | integrity_requirement.Medium ↦ 2 | integrity_requirement.Low ↦ 3 ]
own_rank AR = elim [ availability_requirement.NotDefined ↦ 0 | availability_requirement.High ↦ 1 | availability_requirement.Medium ↦ 2 | availability_requirement.Low ↦ 3 ]
own_rank modified = λ value. 0

-- the place of a value among the rows of its metric
abbrev pub rank_of : (kind : MetricType) → Value kind → ℕ
rank_of MAV = modified_rank (own_rank AV)
rank_of MAC = modified_rank (own_rank AC)
rank_of MPR = modified_rank (own_rank PR)
rank_of MUI = modified_rank (own_rank UI)
rank_of MS = elim [ modified_scope.NotDefined ↦ 0 | modified_scope.Modified value ↦ own_rank S value + 1 ]
rank_of MC = modified_rank (own_rank C)
rank_of MI = modified_rank (own_rank I)
rank_of MA = modified_rank (own_rank A)
rank_of kind = own_rank kind

-- a value's row
abbrev row_of : (kind : MetricType) → Value kind → ValueWeight
row_of kind value = unwrap_or (slice_get (rows_of kind) (rank_of kind value)) ([], None)

-- how a value is spelled
abbrev pub spelling_of : (kind : MetricType) → Value kind → List ℕ
spelling_of kind value = (row_of kind value).0

-- the weight of a value in hundredths, if it has one
abbrev pub weight_of : (kind : MetricType) → Value kind → Option ℕ
weight_of kind value = (row_of kind value).1

-- the weight in hundredths of a metric that is absent: that of X, where the metric has this value
abbrev pub absent_weight : MetricType → ℕ
absent_weight kind =
    option_map_or (λ row. unwrap_or row.1 0) (find (λ row. bytes_eq row.0 (codes "X")) (rows_of kind)) 0

-- the weight of Privileges Required in hundredths, by whether the scope is changed
abbrev pub scoped_weight : Bool → PrivilegesRequired → ℕ
scoped_weight false value = unwrap_or (weight_of PR value) 0
scoped_weight true value = unwrap_or (slice_get changed_privileges (rank_of PR value)) 0

-- the metric's name, a colon and the value's spelling
abbrev pub metric_component : (kind : MetricType) → Value kind → List ℕ
metric_component kind value = component (name_of kind) (spelling_of kind value)

-- the modified metric that replaces a base metric (section 4.2); no other metric has one
abbrev pub modified_of : MetricType → Option MetricType
modified_of AV = Some MAV
modified_of AC = Some MAC
modified_of PR = Some MPR
modified_of UI = Some MUI
modified_of S = Some MS
modified_of C = Some MC
modified_of I = Some MI
modified_of A = Some MA
modified_of kind = None

-- the same, with MAV in place of none
abbrev pub replacing : MetricType → MetricType
replacing kind = unwrap_or (modified_of kind) MAV

-- a value of any metric
pub record AnyValue : Type 0 where
  pub kind : MetricType
  pub value : Value kind

-- a value of the modified metric, of one of the base metric where that is set; X where no metric replaces it
abbrev pub replacing_value : (kind : MetricType) → Modified (Value kind) → Value (replacing kind)
replacing_value AV value = value
replacing_value AC value = value
replacing_value PR value = value
replacing_value UI value = value
replacing_value S NotDefined = modified_scope.NotDefined
replacing_value S (Set value) = modified_scope.Modified value
replacing_value C value = value
replacing_value I value = value
replacing_value A value = value
replacing_value kind value = NotDefined

-- a value of the modified metric, of one of any metric, and else another one
abbrev pub own_or : (kind found : MetricType) → Value found → Value (replacing kind) → Value (replacing kind)
own_or AV MAV value other = value
own_or AC MAC value other = value
own_or PR MPR value other = value
own_or UI MUI value other = value
own_or C MC value other = value
own_or I MI value other = value
own_or A MA value other = value
own_or kind found value other = other

-- the value of the modified metric that a modified value is: the one that it is reported to be, or that of the value set
abbrev pub modified_value : {A : Type 0} (kind : MetricType) → (A → Value kind) → (Modified A → Option AnyValue) → Modified A → Value (replacing kind)
modified_value kind value own metric =
    let mapped = replacing_value kind (modified_map value metric) in
    option_map_or (λ any. own_or kind any.kind any.value mapped) (own metric) mapped

-- the metric that a rejected value is reported under: that of the base where it is a modified one
abbrev pub reported_kind : MetricType → MetricType
reported_kind MAV = AV
reported_kind MAC = AC
reported_kind MPR = PR
reported_kind MUI = UI
reported_kind MS = S
reported_kind MC = C
reported_kind MI = I
reported_kind MA = A
reported_kind kind = kind

-- the order in which a vector is printed
abbrev pub printed : List MetricType
printed = AV ∷ AC ∷ PR ∷ UI ∷ S ∷ C ∷ I ∷ A ∷ E ∷ RL ∷ RC ∷ CR ∷ IR ∷ AR ∷ MAV ∷ MAC ∷ MPR ∷ MUI ∷ MS ∷ MC ∷ MI ∷ MA ∷ []

-- the order in which the metrics of a vector are listed, which is the Rust crate's
abbrev pub listed : List MetricType
listed = AV ∷ AC ∷ PR ∷ UI ∷ S ∷ C ∷ I ∷ A ∷ E ∷ RL ∷ RC ∷ MAV ∷ MAC ∷ MPR ∷ MUI ∷ MS ∷ MC ∷ MI ∷ CR ∷ IR ∷ AR ∷ MA ∷ []
