-- The objects of an answer: one for each location of a vector, and one for a text that is no JSON.
use Rattle.std.specs.Prelude.{ℕ, List, [], ◌∷◌, ◌++◌, codes, map, not, ◌&&◌, if◌then◌else◌, is_some, Option, Some, None, option_map}
use Rattle.std.specs.List.{filter_map}
use Rattle.cvss_vector.specs.Answers.{text_of}
use Rattle.cvss_vector.specs.declared.evaluation.Evaluation.{Evaluation}
use Rattle.cvss_vector.specs.declared.evaluation.Rated.{Rated}
use Rattle.cvss_base.specs.Groups.{same_group}
use Rattle.cvss_base.specs.declared.group.MetricGroup.TheVariants.{Base}
use Rattle.cvss_base.specs.declared.v3.MetricType.{MetricType}
use Rattle.cvss_vector.specs.v4.Nomenclature.{nomenclature_of, text_of as nomenclature_text}
use Rattle.cvss_base.specs.SeverityText.{text_of as severity_text}
use Rattle.cvss_metric.specs.v3.Table.{printed}
use Rattle.cvss_base.specs.V3Types.{name_of, group_of}
use Rattle.cvss_vector.specs.declared.v3.vector.Vector as type_v3
use Rattle.cvss_vector.specs.declared.v4.vector.Vector as type_v4
use Rattle.cvss_vector.specs.v3.Vector.{value_at}
use Rattle.cvss_vector.specs.declared.vector.Cvss.{Cvss}
use Rattle.cvss_vector.specs.declared.vector.Cvss.TheVariants.{CvssV20, CvssV30, CvssV31, CvssV40}
use Rattle.cvss_audit.specs.Differences.{Difference}
use Rattle.cvss_audit.specs.Members.{Member, object_of}
use Rattle.cvss_audit.specs.Locations.{Location}
use Rattle.cvss_audit.specs.Scores.{score_value}
use Rattle.serde_json.specs.Data.{Data, unsigned, number, string, array}
use Rattle.serde_json.specs.View.{items_of}
use Rattle.cvss_audit.specs.Inputs.{Input}

-- a member for a value, if there is one
abbrev pub member_if : List ℕ → Option Data → List Member
member_if name None = []
member_if name (Some value) = (name, value) ∷ []

-- where the document is from: its file, and its line
abbrev pub input_members : Input → List Member
input_members input =
    member_if (codes "file") (option_map string input.file) ++ member_if (codes "line") (option_map (λ count. number (unsigned count)) input.line)

-- the reason why the document, or the vector's text, is rejected
abbrev pub error_member : List ℕ → Member
error_member reason = (codes "error", string reason)

-- the object for a document that is no JSON
abbrev pub error_value : Input → List ℕ → Data
error_value input reason = object_of (input_members input ++ error_member reason ∷ [])

-- where a vector is, in which document, by the id of the nearest object that has one, and its text as it is there
abbrev pub location_members : Input → Location → List Member
location_members input location =
    (codes "at", string location.0)
    ∷ (input_members input ++ (member_if (codes "id") (option_map string location.4.1) ++ member_if (codes "given") (option_map string location.2)))

-- the value of a score
abbrev pub rated_value : Rated → Data
rated_value rated = score_value rated.tenths

-- the scores of a vector of CVSS v2 or v3: those of the groups of metrics, and the one with all metrics in the vector
abbrev pub score_members : Evaluation → List Member
score_members scores =
    (codes "base", rated_value scores.base)
    ∷ (member_if (codes "temporal") (option_map rated_value scores.temporal)
    ++ (member_if (codes "environmental") (option_map rated_value scores.environmental)
    ++ (codes "score", rated_value scores.overall) ∷ []))

-- the score of a vector of CVSS v4.0, and the nomenclature of the groups that it rests on
abbrev pub v4_members : type_v4.Vector → ℕ → List Member
v4_members vector tenths =
    (codes "nomenclature", string (nomenclature_text (nomenclature_of vector))) ∷ (codes "score", score_value tenths) ∷ []

-- the scores of a vector
abbrev pub scores_value : Cvss → Evaluation → Data
scores_value (CvssV20 _) scores = object_of (score_members scores)
scores_value (CvssV30 _) scores = object_of (score_members scores)
scores_value (CvssV31 _) scores = object_of (score_members scores)
scores_value (CvssV40 vector) scores = object_of (v4_members vector scores.overall.tenths)

-- the vector's canonical text, its scores, and the severity of the one with all metrics in it
abbrev pub reported_members : Cvss → Evaluation → List Member
reported_members cvss scores =
    (codes "vector", string (text_of cvss))
    ∷ (codes "scores", scores_value cvss scores)
    ∷ (codes "severity", string (severity_text scores.overall.severity))
    ∷ []

-- the metric's name, where it is a base metric and the vector lacks it
abbrev pub missing_at : type_v3.Vector → MetricType → Option (List ℕ)
missing_at vector kind =
    if same_group (group_of kind) Base && not (is_some (value_at vector kind)) then Some (name_of kind) else None

-- the names of the base metrics that a vector of CVSS v3 lacks, in printing order: v3.1 specification, section 2
abbrev pub missing_v3 : type_v3.Vector → List (List ℕ)
missing_v3 vector = filter_map (missing_at vector) printed

-- the names of the base metrics that the vector lacks; in CVSS v2 and v4.0 a text without one is rejected
abbrev pub missing_of : Cvss → List (List ℕ)
missing_of (CvssV20 _) = []
missing_of (CvssV30 vector) = missing_v3 vector
missing_of (CvssV31 vector) = missing_v3 vector
missing_of (CvssV40 _) = []

-- a member for a list of values, where there are some
abbrev pub list_member : List ℕ → List Data → List Member
list_member name [] = []
list_member name (value ∷ values) = (name, array (items_of (value ∷ values))) ∷ []

abbrev pub missing_members : Cvss → List Member
missing_members cvss = list_member (codes "missing") (map string (missing_of cvss))

-- a difference: the member's name, what it says, and what would agree
abbrev pub difference_value : Difference → Data
difference_value difference =
    object_of ((codes "is", difference.2) ∷ (codes "member", string difference.0) ∷ (codes "says", difference.1) ∷ [])

abbrev pub differs_members : List Difference → List Member
differs_members differences = list_member (codes "differs") (map difference_value differences)

-- the facts of an accepted vector, and the differences from them in the document
abbrev pub accepted_members : Cvss → Evaluation → List Difference → List Member
accepted_members cvss scores differences =
    reported_members cvss scores ++ (missing_members cvss ++ differs_members differences)
