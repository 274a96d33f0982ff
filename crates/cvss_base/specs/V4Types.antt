-- CVSS v4.0 specification, sections 2 to 5: the metrics, by their abbreviations and their names. The names of the
-- requirements are in the plural, as the Rust crate prints them.
use Rattle.std.specs.Prelude.{ℕ, List, [], ◌∷◌, codes, Option, Some, None}
use Rattle.std.specs.String.{string_bytes}
use Rattle.cvss_base.specs.Rejection.{Rejection, BadValue, Repeated, Missing}
use Rattle.cvss_base.specs.Text.{described}
use Rattle.cvss_base.specs.declared.error.Error.{Error}
use Rattle.cvss_base.specs.declared.error.Error.TheVariants.{InvalidMetricV4, DuplicateMetricV4, MissingMandatoryMetricV4}
use Rattle.cvss_base.specs.declared.group.MetricGroup.{MetricGroup}
use Rattle.cvss_base.specs.declared.group.MetricGroup.TheVariants.{Base, Threat, Environmental, Supplemental}
use Rattle.cvss_base.specs.declared.v4.MetricType.{MetricType}
use Rattle.cvss_base.specs.declared.v4.MetricType.TheVariants.{AC, AT, AV, PR, SA, SC, SI, UI, VA, VC, VI, E, AR, CR, IR, MAC, MAT, MAV, MPR, MSA, MSC, MSI, MUI, MVA, MVC, MVI, AU, R, RE, S, U, V}

-- the number of metrics; no other version has as many
abbrev pub most_metrics : ℕ
most_metrics = 32

-- the abbreviation that stands for a metric in a vector, its name in words, and the group to which it belongs
abbrev pub row_of : MetricType → List ℕ × List ℕ × MetricGroup
row_of AV = (codes "AV", codes "Attack Vector", Base)
row_of AC = (codes "AC", codes "Attack Complexity", Base)
row_of AT = (codes "AT", codes "Attack Requirements", Base)
row_of PR = (codes "PR", codes "Privileges Required", Base)
row_of UI = (codes "UI", codes "User Interaction", Base)
row_of VC = (codes "VC", codes "Confidentiality Impact to the Vulnerable System", Base)
row_of VI = (codes "VI", codes "Integrity Impact to the Vulnerable System", Base)
row_of VA = (codes "VA", codes "Availability Impact to the Vulnerable System", Base)
row_of SC = (codes "SC", codes "Confidentiality Impact to the Subsequent System", Base)
row_of SI = (codes "SI", codes "Integrity Impact to the Subsequent System", Base)
row_of SA = (codes "SA", codes "Availability Impact to the Subsequent System", Base)
row_of E = (codes "E", codes "Exploit Maturity", Threat)
row_of CR = (codes "CR", codes "Confidentiality Requirements", Environmental)
row_of IR = (codes "IR", codes "Integrity Requirements", Environmental)
row_of AR = (codes "AR", codes "Availability Requirements", Environmental)
row_of MAV = (codes "MAV", codes "Modified Attack Vector", Environmental)
row_of MAC = (codes "MAC", codes "Modified Attack Complexity", Environmental)
row_of MAT = (codes "MAT", codes "Modified Attack Requirements", Environmental)
row_of MPR = (codes "MPR", codes "Modified Privileges Required", Environmental)
row_of MUI = (codes "MUI", codes "Modified User Interaction", Environmental)
row_of MVC = (codes "MVC", codes "Modified Confidentiality Impact to the Vulnerable System", Environmental)
row_of MVI = (codes "MVI", codes "Modified Integrity Impact to the Vulnerable System", Environmental)
row_of MVA = (codes "MVA", codes "Modified Availability Impact to the Vulnerable System", Environmental)
row_of MSC = (codes "MSC", codes "Modified Confidentiality Impact to the Subsequent System", Environmental)
row_of MSI = (codes "MSI", codes "Modified Integrity Impact to the Subsequent System", Environmental)
row_of MSA = (codes "MSA", codes "Modified Availability Impact to the Subsequent System", Environmental)
row_of S = (codes "S", codes "Safety", Supplemental)
row_of AU = (codes "AU", codes "Automatable", Supplemental)
row_of R = (codes "R", codes "Recovery", Supplemental)
row_of V = (codes "V", codes "Value Density", Supplemental)
row_of RE = (codes "RE", codes "Vulnerability Response Effort", Supplemental)
row_of U = (codes "U", codes "Provider Urgency", Supplemental)

-- the abbreviation
abbrev pub name_of : MetricType → List ℕ
name_of kind = (row_of kind).0

-- the name in words
abbrev pub description_of : MetricType → List ℕ
description_of kind = (row_of kind).1

-- the group to which the metric belongs
abbrev pub group_of : MetricType → MetricGroup
group_of kind = (row_of kind).2

-- the metric in messages
abbrev pub words_of : MetricType → List ℕ
words_of kind = described (codes "CVSSv4") (row_of kind).0 (row_of kind).1

-- the metrics as they are compared, the least first
abbrev pub declared : List MetricType
declared = AC ∷ AT ∷ AV ∷ PR ∷ SA ∷ SC ∷ SI ∷ UI ∷ VA ∷ VC ∷ VI ∷ E ∷ AR ∷ CR ∷ IR ∷ MAC ∷ MAT ∷ MAV ∷ MPR ∷ MSA ∷ MSC ∷ MSI ∷ MUI ∷ MVA ∷ MVC ∷ MVI ∷ AU ∷ R ∷ RE ∷ S ∷ U ∷ V ∷ []

-- what the errors of CVSS v4 say
abbrev pub v4_reason : Error → Option (Rejection MetricType)
v4_reason (InvalidMetricV4 kind value) = Some (BadValue kind (string_bytes value))
v4_reason (DuplicateMetricV4 kind) = Some (Repeated kind)
v4_reason (MissingMandatoryMetricV4 kind) = Some (Missing kind)
v4_reason _ = None
