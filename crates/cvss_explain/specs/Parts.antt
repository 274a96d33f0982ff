-- What the explanations of several versions have.
use Rattle.std.specs.Prelude.{ℕ, List, [], ◌∷◌, ◌++◌, codes, Option, option_map}
use Rattle.std.specs.List.{cons_option}
use Rattle.std.specs.Fmt.{decimal}
use Rattle.cvss_vector.specs.Answers.{severity_by, score_of_tenths, text_of}
use Rattle.cvss_vector.specs.declared.vector.Cvss.{Cvss}
use Rattle.cvss_base.specs.SeverityText.{text_of as severity_text}
use Rattle.cvss_json.specs.Json.{Member, object_text, string_text, tenths_text}
use Rattle.cvss_vector.specs.Evaluation.{version_of, version_text}

-- members, with the number of the line that is explained before them, if it is one of a list
abbrev pub with_line : Option ℕ → List Member → List Member
with_line line members = cons_option (option_map (λ text. (codes "line", text)) (option_map decimal line)) members

abbrev pub score_member : ℕ → Member
score_member tenths = (codes "score", tenths_text tenths)

abbrev pub severity_member : Cvss → ℕ → Member
severity_member cvss tenths = (codes "severity", string_text (severity_text (severity_by cvss (score_of_tenths tenths))))

-- the vector's canonical text
abbrev pub vector_member : Cvss → Member
vector_member cvss = (codes "vector", string_text (text_of cvss))

abbrev pub version_member : Cvss → Member
version_member cvss = (codes "version", string_text (version_text (version_of cvss)))

-- the explanation of a score of so many tenths of CVSS v2 or v3: the numbers of each group's score, the scopes, and what
-- each metric weighs
abbrev pub ways_text : Option ℕ → Cvss → ℕ → List Member → List Member → List Member → List Member → List Member → List ℕ
ways_text line cvss tenths base temporal environmental scopes weights =
    object_text (
    (codes "base", object_text base)
    ∷ (codes "environmental", object_text environmental)
    ∷ with_line line (
    scopes
    ++ score_member tenths
    ∷ severity_member cvss tenths
    ∷ (codes "temporal", object_text temporal)
    ∷ vector_member cvss
    ∷ version_member cvss
    ∷ (codes "weights", object_text weights)
    ∷ [])
    )
