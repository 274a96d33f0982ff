-- The members and words of FIRST's JSON schemas of CVSS v3.0 and v3.1, metric by metric in the order of
-- the v3.1 specification, sections 2 to 4.
use Rattle.std.specs.Prelude.{ℕ, List, [], ◌∷◌, codes}
use Rattle.cvss_base.specs.declared.v3.MetricType.{MetricType}
use Rattle.cvss_base.specs.declared.v3.MetricType.TheVariants.{AV, AC, PR, UI, S, C, I, A, E, RL, RC, CR, IR, AR, MAV, MAC, MPR, MUI, MS, MC, MI, MA}
use Rattle.cvss_report.specs.Words.{ValueWord, not_defined}
use Rattle.cvss_report.specs.declared.field.Field.{Field}
use Rattle.cvss_report.specs.declared.field.Field.TheVariants.{V3, Score, Severity, Text, Version}
use Rattle.cvss_vector.specs.declared.group.Group.TheVariants.{Base, Temporal, Environmental}

-- words that several metrics have
abbrev attack_vector_words : List ValueWord
attack_vector_words = (codes "P", codes "PHYSICAL") ∷ (codes "L", codes "LOCAL") ∷ (codes "A", codes "ADJACENT_NETWORK") ∷ (codes "N", codes "NETWORK") ∷ []

abbrev attack_complexity_words : List ValueWord
attack_complexity_words = (codes "H", codes "HIGH") ∷ (codes "L", codes "LOW") ∷ []

abbrev privileges_required_words : List ValueWord
privileges_required_words = (codes "H", codes "HIGH") ∷ (codes "L", codes "LOW") ∷ (codes "N", codes "NONE") ∷ []

abbrev user_interaction_words : List ValueWord
user_interaction_words = (codes "R", codes "REQUIRED") ∷ (codes "N", codes "NONE") ∷ []

abbrev scope_words : List ValueWord
scope_words = (codes "U", codes "UNCHANGED") ∷ (codes "C", codes "CHANGED") ∷ []

abbrev impact_words : List ValueWord
impact_words = (codes "N", codes "NONE") ∷ (codes "L", codes "LOW") ∷ (codes "H", codes "HIGH") ∷ []

abbrev requirement_words : List ValueWord
requirement_words = not_defined (codes "X") ∷ (codes "H", codes "HIGH") ∷ (codes "M", codes "MEDIUM") ∷ (codes "L", codes "LOW") ∷ []

-- the name of the member that holds a metric's value, and how its values are spelled, each with its word, in the order
-- in which they are compared
abbrev pub entry_of : MetricType → List ℕ × List ValueWord
entry_of AV = (codes "attackVector", attack_vector_words)
entry_of AC = (codes "attackComplexity", attack_complexity_words)
entry_of PR = (codes "privilegesRequired", privileges_required_words)
entry_of UI = (codes "userInteraction", user_interaction_words)
entry_of S = (codes "scope", scope_words)
entry_of C = (codes "confidentialityImpact", impact_words)
entry_of I = (codes "integrityImpact", impact_words)
entry_of A = (codes "availabilityImpact", impact_words)
entry_of E = (codes "exploitCodeMaturity", not_defined (codes "X") ∷ (codes "H", codes "HIGH") ∷ (codes "F", codes "FUNCTIONAL") ∷ (codes "P", codes "PROOF_OF_CONCEPT") ∷ (codes "U", codes "UNPROVEN") ∷ [])
entry_of RL = (codes "remediationLevel", not_defined (codes "X") ∷ (codes "U", codes "UNAVAILABLE") ∷ (codes "W", codes "WORKAROUND") ∷ (codes "T", codes "TEMPORARY_FIX") ∷ (codes "O", codes "OFFICIAL_FIX") ∷ [])
entry_of RC = (codes "reportConfidence", not_defined (codes "X") ∷ (codes "C", codes "CONFIRMED") ∷ (codes "R", codes "REASONABLE") ∷ (codes "U", codes "UNKNOWN") ∷ [])
entry_of CR = (codes "confidentialityRequirement", requirement_words)
entry_of IR = (codes "integrityRequirement", requirement_words)
entry_of AR = (codes "availabilityRequirement", requirement_words)
entry_of MAV = (codes "modifiedAttackVector", not_defined (codes "X") ∷ attack_vector_words)
entry_of MAC = (codes "modifiedAttackComplexity", not_defined (codes "X") ∷ attack_complexity_words)
entry_of MPR = (codes "modifiedPrivilegesRequired", not_defined (codes "X") ∷ privileges_required_words)
entry_of MUI = (codes "modifiedUserInteraction", not_defined (codes "X") ∷ user_interaction_words)
entry_of MS = (codes "modifiedScope", not_defined (codes "X") ∷ scope_words)
entry_of MC = (codes "modifiedConfidentialityImpact", not_defined (codes "X") ∷ impact_words)
entry_of MI = (codes "modifiedIntegrityImpact", not_defined (codes "X") ∷ impact_words)
entry_of MA = (codes "modifiedAvailabilityImpact", not_defined (codes "X") ∷ impact_words)

-- the name of the member
abbrev pub member_of : MetricType → List ℕ
member_of kind = (entry_of kind).0

-- the spellings with their words
abbrev pub words_of : MetricType → List ValueWord
words_of kind = (entry_of kind).1

-- the members that a record may have, in the order of their names
abbrev pub fields : List Field
fields =
    V3 AC ∷ V3 AV ∷ V3 A ∷ V3 AR ∷ Score Base ∷ Severity Base ∷ V3 C ∷ V3 CR ∷ Score Environmental
    ∷ Severity Environmental ∷ V3 E ∷ V3 I ∷ V3 IR ∷ V3 MAC ∷ V3 MAV ∷ V3 MA ∷ V3 MC ∷ V3 MI ∷ V3 MPR
    ∷ V3 MS ∷ V3 MUI ∷ V3 PR ∷ V3 RL ∷ V3 RC ∷ V3 S ∷ Score Temporal ∷ Severity Temporal ∷ V3 UI
    ∷ Text ∷ Version ∷ []
