-- What members say, as the code has it.
use Rattle.std.specs.Prelude.{ℕ, ◌+◌, List, length, Option, Some, option_map}
use Rattle.std.specs.Borrow.{Bor}
use Rattle.std.specs.Fmt.{decimal}
use Rattle.std.specs.List.{filter_map}
use Rattle.cvss_vector.specs.Answers.{severity_by, score_of_tenths, text_of}
use Rattle.cvss_vector.specs.declared.vector.Cvss.{Cvss}
use Rattle.cvss_base.specs.SeverityText.{text_of as severity_text}
use Rattle.cvss_explain.specs.LettersV4.{effective_members}
use Rattle.cvss_explain.specs.Steps.{entry_member}
use Rattle.cvss_explain.specs.V2.{weights_members}
use Rattle.cvss_explain.specs.V4.{class_text, groups_text}
use Rattle.cvss_explain.specs.declared.parts.Value.{Value}
use Rattle.cvss_explain.specs.declared.parts.Value.TheVariants.{Scalar, Class, Line, Severity, Text, Version, Steps, Scalars, WeightsV2, Letters, Groups}
use Rattle.cvss_vector.specs.Evaluation.{version_of, version_text}
use Rattle.cvss_json.specs.Json.{Member, object_text, string_text}
use Rattle.cvss_json.specs.Scalars.{member_room, member_view, rooms, scalar_room, scalar_text}
use Rattle.cvss_json.specs.declared.member.Scalar as scalar

-- the members of an object of scalars
abbrev pub members_view : List (Bor (List ℕ) × scalar.Scalar) → List Member
members_view members = filter_map (λ member. Some (member_view member)) members

-- what is said of a vector
abbrev pub value_text : Cvss → Value → Option (List ℕ)
value_text cvss (Scalar scalar) = Some (scalar_text scalar)
value_text cvss (Class class) = Some (string_text (class_text class))
value_text cvss (Line line) = option_map decimal line
value_text cvss (Severity tenths) = Some (string_text (severity_text (severity_by cvss (score_of_tenths tenths))))
value_text cvss Text = Some (string_text (text_of cvss))
value_text cvss Version = Some (string_text (version_text (version_of cvss)))
value_text cvss (Steps steps entries) = Some (object_text (filter_map (entry_member steps.now) entries.now))
value_text cvss (Scalars members) = Some (object_text (members_view members.now))
value_text cvss (WeightsV2 vector) = Some (object_text (weights_members vector))
value_text cvss (Letters effective) = Some (object_text (effective_members effective))
value_text cvss (Groups explanation) = Some (groups_text explanation.now.class explanation.now.value explanation.now.groups)

-- a member's name, and what it says
abbrev pub part_member : Cvss → Bor (List ℕ) × Value → Option Member
part_member cvss part = option_map (λ text. (part.0.now, text)) (value_text cvss part.1)

-- no more bytes than these are written for a value
abbrev pub value_room : Value → ℕ
value_room (Scalar scalar) = scalar_room scalar
value_room (Class _) = 122
value_room (Line _) = 20
value_room (Severity _) = 10
value_room Text = 352
value_room Version = 30
value_room (Steps _ entries) = rooms (λ _. 58) entries.now + 2
value_room (Scalars members) = rooms member_room members.now + 2
value_room (WeightsV2 _) = 618
value_room (Letters _) = 662
value_room (Groups _) = 2300

-- and for a member
abbrev pub part_room : Bor (List ℕ) × Value → ℕ
part_room part = length part.0.now + value_room part.1 + 4
