-- The record of a vector: FIRST's JSON schemas of CVSS v2.0, v3.0, v3.1 and v4.0.
use Rattle.std.specs.Prelude.{◌≡◌, ℕ, Bool, true, List, codes, Option, Some, None, option_map, option_and_then, unwrap_or, if◌then◌else◌}
use Rattle.std.specs.List.{filter_map}
use Rattle.cvss_vector.specs.Answers.{severity_by, score_of_tenths, text_of}
use Rattle.cvss_vector.specs.declared.vector.Cvss.{Cvss}
use Rattle.cvss_vector.specs.declared.vector.Cvss.TheVariants.{CvssV20, CvssV30, CvssV31, CvssV40}
use Rattle.cvss_base.specs.Version.{held}
use Rattle.cvss_base.specs.declared.severity.Severity as base
use Rattle.cvss_base.specs.declared.severity.Severity.TheVariants as severity
use Rattle.cvss_json.specs.Json.{Member, object_text, string_text, tenths_text}
use Rattle.cvss_vector.specs.v2.Vector.{v2}
use Rattle.cvss_vector.specs.v3.Vector.{v3}
use Rattle.cvss_vector.specs.v4.Vector.{v4}
use Rattle.cvss_vector.specs.Evaluation.{version_of, version_text}
use Rattle.cvss_report.specs.Words.{ValueWord, word_in}
use Rattle.cvss_report.specs.WordsV2 as words_v2
use Rattle.cvss_report.specs.WordsV3 as words_v3
use Rattle.cvss_report.specs.WordsV4 as words_v4
use Rattle.cvss_report.specs.Fields.{fields_of, name_of}
use Rattle.cvss_report.specs.Groups.{AreScoresOf, has_group, tenths_at}
use Rattle.cvss_report.specs.declared.expected.Expected as code
use Rattle.cvss_report.specs.declared.expected.Expected.TheVariants as code_expected
use Rattle.cvss_report.specs.declared.field.Field.{Field}
use Rattle.cvss_report.specs.declared.field.Field.TheVariants.{V2, V3, V4, Score, Severity, Text, Version}
use Rattle.cvss_vector.specs.declared.group.Group.{Group}
use Rattle.cvss_vector.specs.declared.group.Group.TheVariants.{Base, Temporal, Environmental}
use Rattle.cvss_report.specs.declared.score.Scores.{Scores}

-- what a member says: a text, a score of so many tenths, or nothing of a metric that is absent
pub data Expected : Type 0 where
  text : List ℕ → Expected
  score : ℕ → Expected
  nothing : Expected

-- and as the code has it
abbrev pub expected_view : code.Expected → Expected
expected_view (code_expected.Text reported) = text reported.now
expected_view (code_expected.Score tenths) = score tenths
expected_view code_expected.Nothing = nothing

-- the word of a severity
abbrev pub severity_word : base.Severity → List ℕ
severity_word severity.None = codes "NONE"
severity_word severity.Low = codes "LOW"
severity_word severity.Medium = codes "MEDIUM"
severity_word severity.High = codes "HIGH"
severity_word severity.Critical = codes "CRITICAL"

-- the severity of a score of so many tenths
abbrev pub severity_expected : Cvss → ℕ → Expected
severity_expected cvss tenths = text (severity_word (severity_by cvss (score_of_tenths tenths)))

-- the word for how a metric's value is spelled, if the vector has one
abbrev pub word_expected : List ValueWord → Option (List ℕ) → Expected
word_expected words spelling = unwrap_or (option_map (λ each. text (word_in words each)) spelling) nothing

-- how the vector's value is spelled for a metric of its version
abbrev pub spelled_at : Cvss → Field → Option (List ℕ)
spelled_at (CvssV20 vector) (V2 kind) = held v2 vector kind
spelled_at (CvssV30 vector) (V3 kind) = held v3 vector kind
spelled_at (CvssV31 vector) (V3 kind) = held v3 vector kind
spelled_at (CvssV40 vector) (V4 kind) = held v4 vector kind
spelled_at _ _ = None

-- what a member says of the vector, its text aside
abbrev pub expected_of : Cvss → Scores → Field → Option Expected
expected_of cvss scores (V2 kind) = Some (word_expected (words_v2.words_of kind) (spelled_at cvss (V2 kind)))
expected_of cvss scores (V3 kind) = Some (word_expected (words_v3.words_of kind) (spelled_at cvss (V3 kind)))
expected_of cvss scores (V4 kind) = Some (word_expected (words_v4.words_of kind) (spelled_at cvss (V4 kind)))
expected_of cvss scores (Score group) = option_map score (tenths_at scores group)
expected_of cvss scores (Severity group) = option_map (severity_expected cvss) (tenths_at scores group)
expected_of cvss scores Text = None
expected_of cvss scores Version = Some (text (version_text (version_of cvss)))

-- what is said, as JSON
abbrev pub expected_text : Expected → Option (List ℕ)
expected_text (text reported) = Some (string_text reported)
expected_text (score tenths) = Some (tenths_text tenths)
expected_text nothing = None

-- the vector has a metric of the group, if that is an optional one
abbrev pub reports_group : Cvss → Group → Bool
reports_group cvss Base = true
reports_group cvss Temporal = has_group cvss Temporal
reports_group cvss Environmental = has_group cvss Environmental

-- the record has the member, which of an optional group's score it has where the vector has a metric of the group
abbrev pub has_member : Cvss → Field → Bool
has_member cvss (Score group) = reports_group cvss group
has_member cvss (Severity group) = reports_group cvss group
has_member cvss _ = true

-- what the record says in a member, the vector's text aside, if it has the member
abbrev pub said_at : Cvss → Scores → Field → Option Expected
said_at cvss scores field = if has_member cvss field then expected_of cvss scores field else None

-- the value of a member of the vector's record, as JSON, if the record has it
abbrev pub value_at : Cvss → Scores → Field → Option (List ℕ)
value_at cvss scores Text = Some (string_text (text_of cvss))
value_at cvss scores field = option_and_then expected_text (said_at cvss scores field)

-- the member, if the record has it
abbrev pub member_at : Cvss → Scores → Field → Option Member
member_at cvss scores field = option_map (λ value. (name_of field, value)) (value_at cvss scores field)

-- the members of the record, in the order of their names
abbrev pub record_members : Cvss → Scores → List Member
record_members cvss scores = filter_map (member_at cvss scores) (fields_of cvss)

-- the text is the vector's record
pub record IsRecordText (cvss : Cvss) (text : List ℕ) : Type 0 where
  pub scores : Scores
  pub are_scores : AreScoresOf cvss scores
  pub is : text ≡ object_text (record_members cvss scores)
