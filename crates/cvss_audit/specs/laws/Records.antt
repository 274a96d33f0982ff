-- The record of a vector as a reader of JSON sees it: FIRST's JSON schemas of CVSS v2.0, v3.0, v3.1 and v4.0.
use Rattle.std.specs.Prelude.{◌≤◌, Option, Some, None, IfSome, option_map, option_and_then, List}
use Rattle.std.specs.List.{filter_map}
use Rattle.cvss_vector.specs.Answers.{text_of}
use Rattle.cvss_vector.specs.declared.vector.Cvss.{Cvss}
use Rattle.serde_json.specs.Data.{Data, string}
use Rattle.cvss_audit.specs.Scores.{score_value}
use Rattle.cvss_report.specs.Fields.{fields_of, name_of}
use Rattle.cvss_report.specs.Record.{Expected, text, score, nothing, said_at}
use Rattle.cvss_report.specs.declared.field.Field.{Field}
use Rattle.cvss_report.specs.declared.field.Field.TheVariants.{Text}
use Rattle.cvss_report.specs.declared.score.Scores.{Scores}
use Rattle.cvss_audit.specs.Members.{Member}

-- what a member says, as a value
abbrev pub value_of : Expected → Option Data
value_of (text expected) = Some (string expected)
value_of (score tenths) = Some (score_value tenths)
value_of nothing = None

-- the value of a member of the vector's record, if the record has it
abbrev pub value_at : Cvss → Scores → Field → Option Data
value_at cvss scores Text = Some (string (text_of cvss))
value_at cvss scores field = option_and_then value_of (said_at cvss scores field)

-- the member, if the record has it
abbrev pub member_at : Cvss → Scores → Field → Option Member
member_at cvss scores field = option_map (λ value. (name_of field, value)) (value_at cvss scores field)

-- the members of the record
abbrev pub record_members : Cvss → Scores → List Member
record_members cvss scores = filter_map (member_at cvss scores) (fields_of cvss)

-- the scores are from 0 to 10
pub record AreInRange (scores : Scores) : Type 0 where
  pub base : scores.base ≤ 100
  pub temporal : IfSome scores.temporal (λ tenths. tenths ≤ 100)
  pub environmental : IfSome scores.environmental (λ tenths. tenths ≤ 100)
