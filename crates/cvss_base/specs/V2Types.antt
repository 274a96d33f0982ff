-- CVSS v2 guide, sections 2.1 to 2.4: the metrics, by their abbreviations and their names.
use Rattle.std.specs.Prelude.{ℕ, List, [], ◌∷◌, codes, Option, Some, None}
use Rattle.std.specs.String.{string_bytes}
use Rattle.cvss_base.specs.Rejection.{Rejection, BadValue, Repeated, Missing}
use Rattle.cvss_base.specs.Text.{described}
use Rattle.cvss_base.specs.declared.error.Error.{Error}
use Rattle.cvss_base.specs.declared.error.Error.TheVariants.{InvalidMetricV2, DuplicateMetricV2, MissingMandatoryMetricV2}
use Rattle.cvss_base.specs.declared.group.MetricGroup.{MetricGroup}
use Rattle.cvss_base.specs.declared.group.MetricGroup.TheVariants.{Base, Temporal, Environmental}
use Rattle.cvss_base.specs.declared.v2.MetricType.{MetricType}
use Rattle.cvss_base.specs.declared.v2.MetricType.TheVariants.{A, AC, AV, Au, C, I, E, RL, RC, CDP, TD, CR, IR, AR}

-- the abbreviation that stands for a metric in a vector, its name in words, and the group to which it belongs
abbrev pub row_of : MetricType → List ℕ × List ℕ × MetricGroup
row_of AV = (codes "AV", codes "Access Vector", Base)
row_of AC = (codes "AC", codes "Access Complexity", Base)
row_of Au = (codes "Au", codes "Authentication", Base)
row_of C = (codes "C", codes "Confidentiality Impact", Base)
row_of I = (codes "I", codes "Integrity Impact", Base)
row_of A = (codes "A", codes "Availability Impact", Base)
row_of E = (codes "E", codes "Exploitability", Temporal)
row_of RL = (codes "RL", codes "Remediation Level", Temporal)
row_of RC = (codes "RC", codes "Report Confidence", Temporal)
row_of CDP = (codes "CDP", codes "Collateral Damage Potential", Environmental)
row_of TD = (codes "TD", codes "Target Distribution", Environmental)
row_of CR = (codes "CR", codes "Confidentiality Requirement", Environmental)
row_of IR = (codes "IR", codes "Integrity Requirement", Environmental)
row_of AR = (codes "AR", codes "Availability Requirement", Environmental)

-- the abbreviation
abbrev pub name_of : MetricType → List ℕ
name_of kind = (row_of kind).0

-- the name in words
abbrev pub description_of : MetricType → List ℕ
description_of kind = (row_of kind).1

-- the group to which the metric belongs
abbrev pub group_of : MetricType → MetricGroup
group_of kind = (row_of kind).2

-- the metric in messages
abbrev pub words_of : MetricType → List ℕ
words_of kind = described (codes "CVSSv2") (row_of kind).0 (row_of kind).1

-- the metrics as they are compared, the least first
abbrev pub declared : List MetricType
declared = A ∷ AC ∷ AV ∷ Au ∷ C ∷ I ∷ E ∷ RL ∷ RC ∷ CDP ∷ TD ∷ CR ∷ IR ∷ AR ∷ []

-- what the errors of CVSS v2 say
abbrev pub v2_reason : Error → Option (Rejection MetricType)
v2_reason (InvalidMetricV2 kind value) = Some (BadValue kind (string_bytes value))
v2_reason (DuplicateMetricV2 kind) = Some (Repeated kind)
v2_reason (MissingMandatoryMetricV2 kind) = Some (Missing kind)
v2_reason _ = None
