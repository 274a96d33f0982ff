-- Where an object disagrees with the vector in it.
use Rattle.std.specs.Prelude.{◌≡◌, ℕ, Bool, true, false, not, ◌&&◌, ◌||◌, List, [], ◌∷◌, ◌++◌, codes, bytes_eq, if◌then◌else◌, is_some, Option, Some, None, option_and_then, option_map, unwrap_or}
use Rattle.std.specs.Char.{is_ascii_digit}
use Rattle.std.specs.List.{filter_map}
use Rattle.std.specs.Option.{option_to_list}
use Rattle.cvss_vector.specs.Answers.{severity_by, score_of_tenths}
use Rattle.cvss_vector.specs.declared.vector.Cvss.{Cvss}
use Rattle.cvss_vector.specs.declared.vector.Cvss.TheVariants.{CvssV20, CvssV30, CvssV31, CvssV40}
use Rattle.cvss_base.specs.SeverityText.{text_of as severity_text}
use Rattle.serde_json.specs.Data.{Data, Members, no_members, member, string}
use Rattle.serde_json.specs.Find.{as_number, as_str}
use Rattle.serde_json.specs.View.{view}
use Rattle.cvss_audit.specs.Expected.{agrees, expected_at, expected_value, is_number, is_text}
use Rattle.cvss_report.specs.Record.{Expected, text, score, severity_word}
use Rattle.cvss_report.specs.Groups.{AreScoresOf}
use Rattle.cvss_audit.specs.Members.{Member}
use Rattle.cvss_audit.specs.Locations.{Around, Location, given_at, is_among, object_at, text_at}
use Rattle.cvss_audit.specs.Scores.{minus_two_tenths}
use Rattle.cvss_audit.specs.SubScores.{AreSubScoresOf}
use Rattle.cvss_vector.specs.Evaluation.{version_of, version_text}
use Rattle.cvss_audit.specs.declared.disagreements.claim.Claim as code_claim
use Rattle.cvss_audit.specs.declared.disagreements.claim.Claim.TheVariants.{Number, Impact, Text, Severity}
use Rattle.cvss_audit.specs.declared.disagreements.difference.Difference as code
use Rattle.cvss_audit.specs.declared.disagreements.difference.Said.{Said}
use Rattle.cvss_audit.specs.declared.disagreements.difference.Said.TheVariants.{Value, Name}
use Rattle.cvss_audit.specs.declared.locations.form.Form.{Form}
use Rattle.cvss_audit.specs.declared.locations.form.Form.TheVariants.{Record, GitHub, Osv, Rating, TrivyV2, TrivyV3, TrivyV40, RustSec, Spdx}
use Rattle.cvss_audit.specs.declared.expected.sub_scores.SubScores.{SubScores}
use Rattle.cvss_report.specs.declared.score.Scores.{Scores}

-- a member's name, what it says, and what would agree
abbrev pub Difference : Type 0
Difference = List ℕ × Data × Data

-- the members of an object, in the order of their names
abbrev pub list_of : Members → List Member
list_of no_members = []
list_of (member name said rest) = (name, said) ∷ list_of rest

-- the difference between what is said and what is expected, if there is one
abbrev pub difference_from : Member → Expected → Option Difference
difference_from said expected = if agrees expected said.1 then None else Some (said.0, said.1, expected_value expected)

-- what a member is to say: so many tenths, if it is a number or written as one in a string; an impact, which may be 0 or -0.2
-- where it is below 0; a text; or a severity, unless it is unknown
pub data Claim : Type 0 where
  tenths : ℕ → Claim
  impact : ℕ → Bool → Claim
  word : List ℕ → Claim
  severity : List ℕ → Claim

-- the text begins with a digit
abbrev pub begins_with_digit : List ℕ → Bool
begins_with_digit [] = false
begins_with_digit (byte ∷ _) = is_ascii_digit byte

-- the value is a number, or a string that is written as one
abbrev pub is_numeric : Data → Bool
is_numeric said = is_some (as_number said) || unwrap_or (option_map begins_with_digit (as_str said)) false

-- so many tenths are expected of a value that is numeric; a string is no number, so it disagrees
abbrev pub expected_number : ℕ → Data → Option Expected
expected_number count said = if is_numeric said then Some (score count) else None

-- what is expected of a value by a claim, if anything is
abbrev pub expected_by : Claim → Data → Option Expected
expected_by (tenths count) said = expected_number count said
expected_by (impact count below_zero) said =
    if below_zero && is_number minus_two_tenths said then None else expected_number count said
expected_by (word expected) said = Some (text expected)
expected_by (severity expected) said = if is_text (codes "unknown") said then None else Some (text expected)

-- what is expected of a member, if anything: of a number at `score` that it is the vector's, and else what the vector's
-- record says
abbrev pub expected_here : Cvss → Scores → Member → Option Expected
expected_here cvss scores said =
    if bytes_eq said.0 (codes "score") then expected_by (tenths scores.base) said.1 else expected_at cvss scores said.0 said.1

-- the difference of the member, if its value is not the expected one
abbrev pub difference_at : Cvss → Scores → Member → Option Difference
difference_at cvss scores said = option_and_then (difference_from said) (expected_here cvss scores said)

-- the differences of an object's members: one for each whose value is not the expected one, in the order of names
abbrev pub record_differences : Cvss → Scores → Members → List Difference
record_differences cvss scores object = filter_map (difference_at cvss scores) (list_of object)

-- these are the differences of the members of an object
pub record AreDifferences (cvss : Cvss) (object : Members) (differences : List Difference) : Type 0 where
  pub scores : Scores
  pub are_scores : AreScoresOf cvss scores
  pub are : differences ≡ record_differences cvss scores object

-- the difference of the member of this name from what it is to say, if it is there and not null
abbrev pub differences_at : List ℕ → Claim → Members → List Difference
differences_at name claim object =
    option_to_list (option_and_then (λ said. option_and_then (difference_from (name, said)) (expected_by claim said)) (given_at name object))

-- the severity of so many tenths, in lower case
abbrev pub severity_text_of : Cvss → ℕ → List ℕ
severity_text_of cvss count = severity_text (severity_by cvss (score_of_tenths count))

-- the type that OSV gives the score of the vector
abbrev pub osv_type : Cvss → List ℕ
osv_type (CvssV20 _) = codes "CVSS_V2"
osv_type (CvssV30 _) = codes "CVSS_V3"
osv_type (CvssV31 _) = codes "CVSS_V3"
osv_type (CvssV40 _) = codes "CVSS_V4"

-- the method that CycloneDX gives a rating by the vector
abbrev pub method_of : Cvss → List ℕ
method_of (CvssV20 _) = codes "CVSSv2"
method_of (CvssV30 _) = codes "CVSSv3"
method_of (CvssV31 _) = codes "CVSSv31"
method_of (CvssV40 _) = codes "CVSSv4"

-- the differences of the sub-scores beside each other in an object
abbrev pub part_differences : Option SubScores → Members → List Difference
part_differences None object = []
part_differences (Some reported) object =
    differences_at (codes "exploitabilityScore") (tenths reported.exploitability) object
    ++ differences_at (codes "impactScore") (impact reported.impact reported.is_below_zero) object

-- the differences of the base score and the sub-scores in `metrics`, as grype has them
abbrev pub metrics_differences : Scores → Option SubScores → Option Members → List Difference
metrics_differences scores parts None = []
metrics_differences scores parts (Some metrics) =
    differences_at (codes "baseScore") (tenths scores.base) metrics ++ part_differences parts metrics

-- the differences of a rating, as CycloneDX and grype have it
abbrev pub given_rating_differences : Cvss → Scores → Option SubScores → Members → List Difference
given_rating_differences cvss scores parts object =
    differences_at (codes "method") (word (method_of cvss)) object
    ++ (metrics_differences scores parts (object_at (codes "metrics") object)
    ++ (differences_at (codes "score") (tenths scores.base) object
    ++ (differences_at (codes "severity") (severity (severity_text_of cvss scores.base)) object
    ++ differences_at (codes "version") (word (version_text (version_of cvss))) object)))

-- the member in which Trivy gives the vector
abbrev pub trivy_name : Cvss → List ℕ
trivy_name (CvssV20 _) = codes "V2Vector"
trivy_name (CvssV30 _) = codes "V3Vector"
trivy_name (CvssV31 _) = codes "V3Vector"
trivy_name (CvssV40 _) = codes "V40Vector"

-- the name of a member that says another version than the vector's
abbrev pub wrong_name : Cvss → List ℕ → Bool → List Difference
wrong_name cvss name is_wrong = if is_wrong then (name, string name, string (version_text (version_of cvss))) ∷ [] else []

-- the differences of a vector and its score, as Trivy has them in members of these names
abbrev pub trivy_differences : Cvss → Scores → List ℕ → List ℕ → Members → List Difference
trivy_differences cvss scores score_name name object =
    differences_at score_name (tenths scores.base) object
    ++ wrong_name cvss name (not (bytes_eq name (trivy_name cvss)))

-- the type that SPDX 3 gives an assessment by the vector
abbrev pub spdx_type : Cvss → List ℕ
spdx_type (CvssV20 _) = codes "security_CvssV2VulnAssessmentRelationship"
spdx_type (CvssV30 _) = codes "security_CvssV3VulnAssessmentRelationship"
spdx_type (CvssV31 _) = codes "security_CvssV3VulnAssessmentRelationship"
spdx_type (CvssV40 _) = codes "security_CvssV4VulnAssessmentRelationship"

-- the types of SPDX 3 that are versions of CVSS
abbrev pub is_spdx_type : List ℕ → Bool
is_spdx_type reported = is_among reported
    (codes "security_CvssV2VulnAssessmentRelationship" ∷ codes "security_CvssV3VulnAssessmentRelationship"
    ∷ codes "security_CvssV4VulnAssessmentRelationship" ∷ [])

-- the difference of the type, if it is one of these
abbrev pub spdx_type_differences : Cvss → Members → List Difference
spdx_type_differences cvss object =
    if unwrap_or (option_map is_spdx_type (text_at (codes "type") object)) false
    then differences_at (codes "type") (word (spdx_type cvss)) object
    else []

-- the differences of a score, a severity and a type, as SPDX 3 has them
abbrev pub spdx_differences : Cvss → Scores → Members → List Difference
spdx_differences cvss scores object =
    differences_at (codes "security_score") (tenths scores.base) object
    ++ (differences_at (codes "security_severity") (severity (severity_text_of cvss scores.base)) object
    ++ spdx_type_differences cvss object)

-- the differences of the members of an object that holds a vector in this form, in the order of their names: of a
-- record, those of all its members; of GitHub's advisories, that of the score; of OSV's records, that of the type;
-- RustSec's advisories say no more than the vector
abbrev pub member_differences : Cvss → Scores → Option SubScores → Form → Members → List Difference
member_differences cvss scores parts Record object = record_differences cvss scores object
member_differences cvss scores parts GitHub object = differences_at (codes "score") (tenths scores.base) object
member_differences cvss scores parts Osv object = differences_at (codes "type") (word (osv_type cvss)) object
member_differences cvss scores parts Rating object = given_rating_differences cvss scores parts object
member_differences cvss scores parts TrivyV2 object = trivy_differences cvss scores (codes "V2Score") (codes "V2Vector") object
member_differences cvss scores parts TrivyV3 object = trivy_differences cvss scores (codes "V3Score") (codes "V3Vector") object
member_differences cvss scores parts TrivyV40 object = trivy_differences cvss scores (codes "V40Score") (codes "V40Vector") object
member_differences cvss scores parts RustSec object = []
member_differences cvss scores parts Spdx object = spdx_differences cvss scores object

-- the names of members that say the version of what they hold: those of CVE records, CSAF and GitHub
abbrev pub record_names : List (List ℕ)
record_names =
    codes "cvssV2_0" ∷ codes "cvssV3_0" ∷ codes "cvssV3_1" ∷ codes "cvssV4_0"
    ∷ codes "cvss_v2" ∷ codes "cvss_v3" ∷ codes "cvss_v4" ∷ []

-- those of NVD's API, and of the feeds before that
abbrev pub nvd_names : List (List ℕ)
nvd_names =
    codes "cvssMetricV2" ∷ codes "cvssMetricV30" ∷ codes "cvssMetricV31" ∷ codes "cvssMetricV40"
    ∷ codes "cvssV2" ∷ codes "cvssV3" ∷ codes "baseMetricV2" ∷ codes "baseMetricV3" ∷ []

-- a member of this name says the version of what it holds
abbrev pub reports_version : List ℕ → Bool
reports_version name = is_among name record_names || is_among name nvd_names

-- those of them that say the version of the vector
abbrev pub names_of : Cvss → List (List ℕ)
names_of (CvssV20 _) = codes "cvssV2_0" ∷ codes "cvss_v2" ∷ codes "cvssMetricV2" ∷ codes "cvssV2" ∷ codes "baseMetricV2" ∷ []
names_of (CvssV30 _) = codes "cvssV3_0" ∷ codes "cvss_v3" ∷ codes "cvssMetricV30" ∷ codes "cvssV3" ∷ codes "baseMetricV3" ∷ []
names_of (CvssV31 _) = codes "cvssV3_1" ∷ codes "cvss_v3" ∷ codes "cvssMetricV31" ∷ codes "cvssV3" ∷ codes "baseMetricV3" ∷ []
names_of (CvssV40 _) = codes "cvssV4_0" ∷ codes "cvss_v4" ∷ codes "cvssMetricV40" ∷ []

-- the name of the member that an object is differs if it says another version
abbrev pub name_differences : Cvss → List ℕ → List Difference
name_differences cvss name = wrong_name cvss name (reports_version name && not (is_among name (names_of cvss)))

-- and so does that of the member around it
abbrev pub outer_differences : Cvss → Option (List ℕ) → List Difference
outer_differences cvss None = []
outer_differences cvss (Some name) = name_differences cvss name

-- the records of the version say severities
abbrev pub has_severities : Cvss → Bool
has_severities (CvssV20 _) = false
has_severities (CvssV30 _) = true
has_severities (CvssV31 _) = true
has_severities (CvssV40 _) = true

-- the object around a record is the member of this name
abbrev pub is_in : List ℕ → Around → Bool
is_in name around = unwrap_or (option_map (λ outer. bytes_eq outer name) around.2) false

-- the member in which NVD says the severity of a vector of CVSS v2 beside the vector: in its API, and in the feeds before that
abbrev pub severity_name : Around → Option (List ℕ)
severity_name around =
    if bytes_eq (codes "cvssData") around.0 then Some (codes "baseSeverity")
    else (if is_in (codes "baseMetricV2") around then Some (codes "severity") else None)

-- a member of this name, if there is one, says the severity of the vector's score
abbrev pub severity_differences_at : Cvss → ℕ → Option (List ℕ) → Members → List Difference
severity_differences_at cvss count None object = []
severity_differences_at cvss count (Some name) object =
    differences_at name (word (severity_word (severity_by cvss (score_of_tenths count)))) object

abbrev pub severity_differences : Cvss → ℕ → Around → List Difference
severity_differences cvss count around =
    if has_severities cvss then [] else severity_differences_at cvss count (severity_name around) around.1

-- NVD says the sub-scores of a vector beside the vector
abbrev pub has_sub_scores : Around → Bool
has_sub_scores around = bytes_eq (codes "cvssData") around.0 || (is_in (codes "baseMetricV2") around || is_in (codes "baseMetricV3") around)

abbrev pub sub_score_differences : Option SubScores → Around → List Difference
sub_score_differences parts around = if has_sub_scores around then part_differences parts around.1 else []

-- the differences of what is around the object
abbrev pub around_differences : Cvss → Scores → Option SubScores → Option Around → List Difference
around_differences cvss scores parts None = []
around_differences cvss scores parts (Some around) =
    name_differences cvss around.0
    ++ (outer_differences cvss around.2
    ++ (severity_differences cvss scores.base around ++ sub_score_differences parts around))

-- the differences at a location: those of the object's members, and then those of what is around it
abbrev pub differences_of : Cvss → Scores → Option SubScores → Location → List Difference
differences_of cvss scores parts location =
    member_differences cvss scores parts location.1 location.3 ++ around_differences cvss scores parts location.4.0

-- these are the differences at the location from the vector
pub record AreDifferencesAt (cvss : Cvss) (location : Location) (differences : List Difference) : Type 0 where
  pub scores : Scores
  pub are_scores : AreScoresOf cvss scores
  pub parts : Option SubScores
  pub are_parts : AreSubScoresOf cvss parts
  pub are : differences ≡ differences_of cvss scores parts location

-- a claim, as the code holds it
abbrev pub claim_view : code_claim.Claim → Claim
claim_view (Number count) = tenths count
claim_view (Impact count below_zero) = impact count below_zero
claim_view (Text expected) = word expected.now
claim_view (Severity expected) = severity expected.now

-- what a member says, as the code holds it
abbrev pub said_view : Said → Data
said_view (Value value) = view value.now
said_view (Name name) = string name.now

-- a difference, as the code holds it
abbrev pub difference_view : code.Difference → Difference
difference_view difference = (difference.member.now, said_view difference.says, view difference.is)
