-- What is published of a vector: its score, and by which bounds the score is rated; and the line that says so.
use Rattle.std.specs.Prelude.{◌≡◌, ℕ, ◌≤◌, List, [], ◌∷◌, ◌++◌, codes, ℤ}
use Rattle.std.specs.Str.{IsUtf8}
use Rattle.cvss_base.specs.SeverityScale.{severity_of_score}
use Rattle.cvss_base.specs.declared.severity.Severity.{Severity}
use Rattle.cvss_score.specs.v2.SeverityScale.{severity_of}
use Rattle.cvss_vector.specs.Answers.{text_of, score_of_tenths, severity_by, score_and_severity}
use Rattle.cvss_vector.specs.Dispatch.{DenotesCvss}
use Rattle.cvss_vector.specs.Scores.{IsScoreAs}
use Rattle.cvss_vector.specs.declared.published.Published.{Published}
use Rattle.cvss_vector.specs.declared.published.Bounds.{Bounds}
use Rattle.cvss_vector.specs.declared.published.Bounds.TheVariants.{OfV2, SinceV3}
use Rattle.cvss_vector.specs.declared.scoring.Scoring.{Scoring}
use Rattle.cvss_vector.specs.declared.vector.Cvss.{Cvss}

-- the rating of a score, a count of 10^-24, by such bounds
abbrev pub severity_within : Bounds → ℤ → Severity
severity_within OfV2 = severity_of
severity_within SinceV3 = severity_of_score

-- the tenths are those of the vector's score that is reported, which its version rates by these bounds
pub record IsPublished (scoring : Scoring) (cvss : Cvss) (published : Published) : Type 0 where
  pub scored : IsScoreAs scoring cvss (score_of_tenths published.tenths)
  pub rated : severity_by cvss ≡ severity_within published.bounds
  pub to_ten : published.tenths ≤ 100

-- that is published of the vector that the text denotes, whose canonical text is given
pub record IsPublishedAs (scoring : Scoring) (text canonical : List ℕ) (published : Published) : Type 0 where
  pub cvss : Cvss
  pub canonical_is : canonical ≡ text_of cvss
  pub denoted : DenotesCvss text cvss
  pub utf8 : IsUtf8 text
  pub is : IsPublished scoring cvss published

-- what follows a vector's text in its line: a score of so many tenths and its rating within these bounds, each after a
-- blank, and a byte 10
abbrev pub rated_line : Bounds → ℕ → List ℕ
rated_line bounds tenths =
    codes " " ++ (score_and_severity tenths (severity_within bounds (score_of_tenths tenths)) ++ 10 ∷ [])

abbrev pub score_line : Published → List ℕ
score_line published = rated_line published.bounds published.tenths

-- the line of a canonical text with what is published of its vector
abbrev pub vector_line : List ℕ → Published → List ℕ
vector_line text published = text ++ score_line published
