-- CVSS v3.1 specification, sections 2 to 4 (in v3.0 the same): the metrics, by their abbreviations and
-- their names. The names of the requirements are in the plural, as the Rust crate prints them.
use Rattle.std.specs.Prelude.{ℕ, List, [], ◌∷◌, codes, Option, Some, None}
use Rattle.std.specs.String.{string_bytes}
use Rattle.cvss_base.specs.Rejection.{Rejection, BadValue, Repeated}
use Rattle.cvss_base.specs.Text.{described}
use Rattle.cvss_base.specs.declared.error.Error.{Error}
use Rattle.cvss_base.specs.declared.error.Error.TheVariants.{InvalidMetricV3, DuplicateMetricV3}
use Rattle.cvss_base.specs.declared.group.MetricGroup.{MetricGroup}
use Rattle.cvss_base.specs.declared.group.MetricGroup.TheVariants.{Base, Temporal, Environmental}
use Rattle.cvss_base.specs.declared.v3.MetricType.{MetricType}
use Rattle.cvss_base.specs.declared.v3.MetricType.TheVariants.{A, AC, AV, C, I, PR, S, UI, E, RL, RC, CR, IR, AR, MAV, MAC, MPR, MUI, MS, MC, MI, MA}

-- the abbreviation that stands for a metric in a vector, its name in words, and the group to which it belongs
abbrev pub row_of : MetricType → List ℕ × List ℕ × MetricGroup
row_of AV = (codes "AV", codes "Attack Vector", Base)
row_of AC = (codes "AC", codes "Attack Complexity", Base)
row_of PR = (codes "PR", codes "Privileges Required", Base)
row_of UI = (codes "UI", codes "User Interaction", Base)
row_of S = (codes "S", codes "Scope", Base)
row_of C = (codes "C", codes "Confidentiality Impact", Base)
row_of I = (codes "I", codes "Integrity Impact", Base)
row_of A = (codes "A", codes "Availability Impact", Base)
row_of E = (codes "E", codes "Exploit Code Maturity", Temporal)
row_of RL = (codes "RL", codes "Remediation Level", Temporal)
row_of RC = (codes "RC", codes "Report Confidence", Temporal)
row_of CR = (codes "CR", codes "Confidentiality Requirements", Environmental)
row_of IR = (codes "IR", codes "Integrity Requirements", Environmental)
row_of AR = (codes "AR", codes "Availability Requirements", Environmental)
row_of MAV = (codes "MAV", codes "Modified Attack Vector", Environmental)
row_of MAC = (codes "MAC", codes "Modified Attack Complexity", Environmental)
row_of MPR = (codes "MPR", codes "Modified Privileges Required", Environmental)
row_of MUI = (codes "MUI", codes "Modified User Interaction", Environmental)
row_of MS = (codes "MS", codes "Modified Scope", Environmental)
row_of MC = (codes "MC", codes "Modified Confidentiality", Environmental)
row_of MI = (codes "MI", codes "Modified Integrity", Environmental)
row_of MA = (codes "MA", codes "Modified Availability", Environmental)

-- the abbreviation
abbrev pub name_of : MetricType → List ℕ
name_of kind = (row_of kind).0

-- the name in words
abbrev pub description_of : MetricType → List ℕ
description_of kind = (row_of kind).1

-- the group to which the metric belongs
abbrev pub group_of : MetricType → MetricGroup
group_of kind = (row_of kind).2

-- the metric in messages
abbrev pub words_of : MetricType → List ℕ
words_of kind = described (codes "CVSSv3") (row_of kind).0 (row_of kind).1

-- the metrics as they are compared, the least first
abbrev pub declared : List MetricType
declared = A ∷ AC ∷ AV ∷ C ∷ I ∷ PR ∷ S ∷ UI ∷ E ∷ RL ∷ RC ∷ CR ∷ IR ∷ AR ∷ MAV ∷ MAC ∷ MPR ∷ MUI ∷ MS ∷ MC ∷ MI ∷ MA ∷ []

-- what the errors of CVSS v3 say
abbrev pub v3_reason : Error → Option (Rejection MetricType)
v3_reason (InvalidMetricV3 kind value) = Some (BadValue kind (string_bytes value))
v3_reason (DuplicateMetricV3 kind) = Some (Repeated kind)
v3_reason _ = None
