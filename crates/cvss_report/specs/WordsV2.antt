-- The members and words of FIRST's JSON schema of CVSS v2, metric by metric in the order of the guide,
-- section 2.
use Rattle.std.specs.Prelude.{ℕ, List, [], ◌∷◌, codes}
use Rattle.cvss_base.specs.declared.v2.MetricType.{MetricType}
use Rattle.cvss_base.specs.declared.v2.MetricType.TheVariants.{AV, AC, Au, C, I, A, E, RL, RC, CDP, TD, CR, IR, AR}
use Rattle.cvss_report.specs.Words.{ValueWord, not_defined}
use Rattle.cvss_report.specs.declared.field.Field.{Field}
use Rattle.cvss_report.specs.declared.field.Field.TheVariants.{V2, Score, Text, Version}
use Rattle.cvss_vector.specs.declared.group.Group.TheVariants.{Base, Temporal, Environmental}

-- words that several metrics have
abbrev impact_words : List ValueWord
impact_words = (codes "N", codes "NONE") ∷ (codes "P", codes "PARTIAL") ∷ (codes "C", codes "COMPLETE") ∷ []

abbrev requirement_words : List ValueWord
requirement_words = (codes "L", codes "LOW") ∷ (codes "M", codes "MEDIUM") ∷ (codes "H", codes "HIGH") ∷ not_defined (codes "ND") ∷ []

-- the name of the member that holds a metric's value, and how its values are spelled, each with its word, in the order
-- in which they are compared
abbrev pub entry_of : MetricType → List ℕ × List ValueWord
entry_of AV = (codes "accessVector", (codes "L", codes "LOCAL") ∷ (codes "A", codes "ADJACENT_NETWORK") ∷ (codes "N", codes "NETWORK") ∷ [])
entry_of AC = (codes "accessComplexity", (codes "H", codes "HIGH") ∷ (codes "M", codes "MEDIUM") ∷ (codes "L", codes "LOW") ∷ [])
entry_of Au = (codes "authentication", (codes "M", codes "MULTIPLE") ∷ (codes "S", codes "SINGLE") ∷ (codes "N", codes "NONE") ∷ [])
entry_of C = (codes "confidentialityImpact", impact_words)
entry_of I = (codes "integrityImpact", impact_words)
entry_of A = (codes "availabilityImpact", impact_words)
entry_of E = (codes "exploitability", (codes "U", codes "UNPROVEN") ∷ (codes "POC", codes "PROOF_OF_CONCEPT") ∷ (codes "F", codes "FUNCTIONAL") ∷ (codes "H", codes "HIGH") ∷ not_defined (codes "ND") ∷ [])
entry_of RL = (codes "remediationLevel", (codes "OF", codes "OFFICIAL_FIX") ∷ (codes "TF", codes "TEMPORARY_FIX") ∷ (codes "W", codes "WORKAROUND") ∷ (codes "U", codes "UNAVAILABLE") ∷ not_defined (codes "ND") ∷ [])
entry_of RC = (codes "reportConfidence", (codes "UC", codes "UNCONFIRMED") ∷ (codes "UR", codes "UNCORROBORATED") ∷ (codes "C", codes "CONFIRMED") ∷ not_defined (codes "ND") ∷ [])
entry_of CDP = (codes "collateralDamagePotential", (codes "N", codes "NONE") ∷ (codes "L", codes "LOW") ∷ (codes "LM", codes "LOW_MEDIUM") ∷ (codes "MH", codes "MEDIUM_HIGH") ∷ (codes "H", codes "HIGH") ∷ not_defined (codes "ND") ∷ [])
entry_of TD = (codes "targetDistribution", (codes "N", codes "NONE") ∷ (codes "L", codes "LOW") ∷ (codes "M", codes "MEDIUM") ∷ (codes "H", codes "HIGH") ∷ not_defined (codes "ND") ∷ [])
entry_of CR = (codes "confidentialityRequirement", requirement_words)
entry_of IR = (codes "integrityRequirement", requirement_words)
entry_of AR = (codes "availabilityRequirement", requirement_words)

-- the name of the member
abbrev pub member_of : MetricType → List ℕ
member_of kind = (entry_of kind).0

-- the spellings with their words
abbrev pub words_of : MetricType → List ValueWord
words_of kind = (entry_of kind).1

-- the members that a record may have, in the order of their names
abbrev pub fields : List Field
fields =
    V2 AC ∷ V2 AV ∷ V2 Au ∷ V2 A ∷ V2 AR ∷ Score Base ∷ V2 CDP ∷ V2 C ∷ V2 CR ∷ Score Environmental
    ∷ V2 E ∷ V2 I ∷ V2 IR ∷ V2 RL ∷ V2 RC ∷ V2 TD ∷ Score Temporal ∷ Text ∷ Version ∷ []
