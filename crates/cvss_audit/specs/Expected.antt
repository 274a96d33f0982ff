-- What each member of a record should say of a vector, by FIRST's JSON schemas of all versions.
use Rattle.std.specs.Prelude.{ℕ, ◌&&◌, ◌||◌, Bool, true, false, not, List, codes, find, bytes_eq, Float, if◌then◌else◌, is_some, Option, None, Some, option_map, unwrap_or}
use Rattle.std.specs.Float.Ieee.{eq}
use Rattle.std.specs.List.{list_any}
use Rattle.cvss_metric.specs.v2.Table as table_v2
use Rattle.cvss_metric.specs.v3.Table as table_v3
use Rattle.cvss_metric.specs.v4.Table as table_v4
use Rattle.cvss_vector.specs.declared.vector.Cvss.{Cvss}
use Rattle.serde_json.specs.Data.{Data, null, string}
use Rattle.serde_json.specs.Find.{as_null, as_number, as_str, to_float}
use Rattle.cvss_report.specs.Fields.{fields_of, name_of}
use Rattle.cvss_report.specs.Record.{Expected, text, score, nothing, expected_of, has_member}
use Rattle.cvss_report.specs.WordsV2 as words_v2
use Rattle.cvss_report.specs.WordsV3 as words_v3
use Rattle.cvss_report.specs.WordsV4 as words_v4
use Rattle.cvss_report.specs.declared.field.Field.{Field}
use Rattle.cvss_report.specs.declared.field.Field.TheVariants.{Version}
use Rattle.cvss_report.specs.declared.score.Scores.{Scores}
use Rattle.cvss_audit.specs.Scores.{score_number, score_value}

-- the value is the string of this text
abbrev pub is_text : List ℕ → Data → Bool
is_text expected said = unwrap_or (option_map (λ each. bytes_eq each expected) (as_str said)) false

-- the value is a number, and its binary64 this one
abbrev pub is_number : Float → Data → Bool
is_number expected said = unwrap_or (option_map (λ each. eq (to_float each) expected) (as_number said)) false

-- the value says what it should; of a metric that is absent it may say that it is not defined, or be null
abbrev pub agrees : Expected → Data → Bool
agrees (text expected) said = is_text expected said
agrees (score tenths) said = is_number (score_number tenths) said
agrees nothing said = is_some (as_null said) || is_text (codes "NOT_DEFINED") said

-- the value that would agree; of a metric that is absent, null
abbrev pub expected_value : Expected → Data
expected_value (text expected) = string expected
expected_value (score tenths) = score_value tenths
expected_value nothing = null

-- the member of this name is a metric's in the records of some version
abbrev pub is_metric_v2 : List ℕ → Bool
is_metric_v2 name = list_any (λ kind. bytes_eq (words_v2.member_of kind) name) table_v2.printed

abbrev pub is_metric_v3 : List ℕ → Bool
is_metric_v3 name = list_any (λ kind. bytes_eq (words_v3.member_of kind) name) table_v3.printed

abbrev pub is_metric_v4 : List ℕ → Bool
is_metric_v4 name = list_any (λ kind. bytes_eq (words_v4.member_of kind) name) table_v4.printed

abbrev pub is_metric : List ℕ → Bool
is_metric name = is_metric_v2 name || (is_metric_v3 name || is_metric_v4 name)

-- what a member should say that the records of the vector's version do not have: nothing, if it is a metric's in those of
-- another version and says a text
abbrev pub expected_of_other : List ℕ → Data → Option Expected
expected_of_other name said = if is_metric name && is_some (as_str said) then Some nothing else None

-- a record need not have the member: it is the version, which the vector says too, or a score or a severity of a group of which
-- the vector has no metric
abbrev pub is_optional : Cvss → Field → Bool
is_optional cvss Version = true
is_optional cvss field = not (has_member cvss field)

-- what a member that the records of the version have should say, unless it is null and need not be there
abbrev pub expected_of_own : Cvss → Scores → Data → Field → Option Expected
expected_of_own cvss scores said field =
    if is_optional cvss field && is_some (as_null said) then None else expected_of cvss scores field

-- what the member of this name should say in place of this, if anything
abbrev pub expected_at : Cvss → Scores → List ℕ → Data → Option Expected
expected_at cvss scores name said =
    unwrap_or (option_map (expected_of_own cvss scores said) (find (λ field. bytes_eq (name_of field) name) (fields_of cvss)))
    (expected_of_other name said)
