-- The members and words of FIRST's JSON schema of CVSS v4.0, metric by metric in the order of the v4.0
-- specification, sections 2 to 5.
use Rattle.std.specs.Prelude.{ℕ, List, [], ◌∷◌, ◌++◌, codes}
use Rattle.cvss_base.specs.declared.v4.MetricType.{MetricType}
use Rattle.cvss_base.specs.declared.v4.MetricType.TheVariants as metric
use Rattle.cvss_report.specs.Words.{ValueWord, not_defined}
use Rattle.cvss_report.specs.declared.field.Field.{Field}
use Rattle.cvss_report.specs.declared.field.Field.TheVariants.{V4, Score, Severity, Text, Version}
use Rattle.cvss_vector.specs.declared.group.Group.TheVariants.{Base}

-- words that several metrics have
abbrev attack_vector_words : List ValueWord
attack_vector_words = (codes "P", codes "PHYSICAL") ∷ (codes "L", codes "LOCAL") ∷ (codes "A", codes "ADJACENT") ∷ (codes "N", codes "NETWORK") ∷ []

abbrev attack_complexity_words : List ValueWord
attack_complexity_words = (codes "H", codes "HIGH") ∷ (codes "L", codes "LOW") ∷ []

abbrev attack_requirements_words : List ValueWord
attack_requirements_words = (codes "P", codes "PRESENT") ∷ (codes "N", codes "NONE") ∷ []

abbrev privileges_required_words : List ValueWord
privileges_required_words = (codes "H", codes "HIGH") ∷ (codes "L", codes "LOW") ∷ (codes "N", codes "NONE") ∷ []

abbrev user_interaction_words : List ValueWord
user_interaction_words = (codes "A", codes "ACTIVE") ∷ (codes "P", codes "PASSIVE") ∷ (codes "N", codes "NONE") ∷ []

abbrev impact_words : List ValueWord
impact_words = (codes "N", codes "NONE") ∷ (codes "L", codes "LOW") ∷ (codes "H", codes "HIGH") ∷ []

abbrev requirement_words : List ValueWord
requirement_words = not_defined (codes "X") ∷ (codes "L", codes "LOW") ∷ (codes "M", codes "MEDIUM") ∷ (codes "H", codes "HIGH") ∷ []

abbrev subsequent_impact_words : List ValueWord
subsequent_impact_words = not_defined (codes "X") ∷ (codes "N", codes "NEGLIGIBLE") ∷ (codes "L", codes "LOW") ∷ (codes "H", codes "HIGH") ∷ []

abbrev safety_words : List ValueWord
safety_words = subsequent_impact_words ++ (codes "S", codes "SAFETY") ∷ []

-- the name of the member that holds a metric's value, and how its values are spelled, each with its word, in the order
-- in which they are compared
abbrev pub entry_of : MetricType → List ℕ × List ValueWord
entry_of metric.AV = (codes "attackVector", attack_vector_words)
entry_of metric.AC = (codes "attackComplexity", attack_complexity_words)
entry_of metric.AT = (codes "attackRequirements", attack_requirements_words)
entry_of metric.PR = (codes "privilegesRequired", privileges_required_words)
entry_of metric.UI = (codes "userInteraction", user_interaction_words)
entry_of metric.VC = (codes "vulnConfidentialityImpact", impact_words)
entry_of metric.VI = (codes "vulnIntegrityImpact", impact_words)
entry_of metric.VA = (codes "vulnAvailabilityImpact", impact_words)
entry_of metric.SC = (codes "subConfidentialityImpact", impact_words)
entry_of metric.SI = (codes "subIntegrityImpact", impact_words)
entry_of metric.SA = (codes "subAvailabilityImpact", impact_words)
entry_of metric.E = (codes "exploitMaturity", not_defined (codes "X") ∷ (codes "U", codes "UNREPORTED") ∷ (codes "P", codes "PROOF_OF_CONCEPT") ∷ (codes "A", codes "ATTACKED") ∷ [])
entry_of metric.CR = (codes "confidentialityRequirement", requirement_words)
entry_of metric.IR = (codes "integrityRequirement", requirement_words)
entry_of metric.AR = (codes "availabilityRequirement", requirement_words)
entry_of metric.MAV = (codes "modifiedAttackVector", attack_vector_words ++ not_defined (codes "X") ∷ [])
entry_of metric.MAC = (codes "modifiedAttackComplexity", not_defined (codes "X") ∷ attack_complexity_words)
entry_of metric.MAT = (codes "modifiedAttackRequirements", not_defined (codes "X") ∷ attack_requirements_words)
entry_of metric.MPR = (codes "modifiedPrivilegesRequired", not_defined (codes "X") ∷ privileges_required_words)
entry_of metric.MUI = (codes "modifiedUserInteraction", not_defined (codes "X") ∷ user_interaction_words)
entry_of metric.MVC = (codes "modifiedVulnConfidentialityImpact", not_defined (codes "X") ∷ impact_words)
entry_of metric.MVI = (codes "modifiedVulnIntegrityImpact", not_defined (codes "X") ∷ impact_words)
entry_of metric.MVA = (codes "modifiedVulnAvailabilityImpact", not_defined (codes "X") ∷ impact_words)
entry_of metric.MSC = (codes "modifiedSubConfidentialityImpact", subsequent_impact_words)
entry_of metric.MSI = (codes "modifiedSubIntegrityImpact", safety_words)
entry_of metric.MSA = (codes "modifiedSubAvailabilityImpact", safety_words)
entry_of metric.S = (codes "Safety", not_defined (codes "X") ∷ (codes "P", codes "PRESENT") ∷ (codes "N", codes "NEGLIGIBLE") ∷ [])
entry_of metric.AU = (codes "Automatable", not_defined (codes "X") ∷ (codes "Y", codes "YES") ∷ (codes "N", codes "NO") ∷ [])
entry_of metric.R = (codes "Recovery", not_defined (codes "X") ∷ (codes "A", codes "AUTOMATIC") ∷ (codes "U", codes "USER") ∷ (codes "I", codes "IRRECOVERABLE") ∷ [])
entry_of metric.V = (codes "valueDensity", not_defined (codes "X") ∷ (codes "D", codes "DIFFUSE") ∷ (codes "C", codes "CONCENTRATED") ∷ [])
entry_of metric.RE = (codes "vulnerabilityResponseEffort", not_defined (codes "X") ∷ (codes "L", codes "LOW") ∷ (codes "M", codes "MODERATE") ∷ (codes "H", codes "HIGH") ∷ [])
entry_of metric.U = (codes "providerUrgency", not_defined (codes "X") ∷ (codes "Red", codes "RED") ∷ (codes "Amber", codes "AMBER") ∷ (codes "Green", codes "GREEN") ∷ (codes "Clear", codes "CLEAR") ∷ [])

-- the name of the member
abbrev pub member_of : MetricType → List ℕ
member_of kind = (entry_of kind).0

-- the spellings with their words
abbrev pub words_of : MetricType → List ValueWord
words_of kind = (entry_of kind).1

-- the members that a record may have, in the order of their names
abbrev pub fields : List Field
fields =
    V4 metric.AU ∷ V4 metric.R ∷ V4 metric.S ∷ V4 metric.AC ∷ V4 metric.AT ∷ V4 metric.AV
    ∷ V4 metric.AR ∷ Score Base ∷ Severity Base ∷ V4 metric.CR ∷ V4 metric.E ∷ V4 metric.IR
    ∷ V4 metric.MAC ∷ V4 metric.MAT ∷ V4 metric.MAV ∷ V4 metric.MPR ∷ V4 metric.MSA ∷ V4 metric.MSC
    ∷ V4 metric.MSI ∷ V4 metric.MUI ∷ V4 metric.MVA ∷ V4 metric.MVC ∷ V4 metric.MVI ∷ V4 metric.PR
    ∷ V4 metric.U ∷ V4 metric.SA ∷ V4 metric.SC ∷ V4 metric.SI ∷ V4 metric.UI ∷ V4 metric.V ∷ Text
    ∷ Version ∷ V4 metric.VA ∷ V4 metric.VC ∷ V4 metric.VI ∷ V4 metric.RE ∷ []
