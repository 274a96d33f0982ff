-- What an advisory says of a text.
use Rattle.std.specs.Prelude.{◌≡◌, ◌⊎◌, ◌++◌, ℕ, List, codes}
use Rattle.cvss.specs.Answers.{text_of, IsScoreOf, severity_by, score_of_tenths}
use Rattle.cvss.specs.Dispatch.{DenotesCvss, IsFirstRejectionCvss, cvss_reason}
use Rattle.cvss.specs.ErrorText.{error_text}
use Rattle.cvss.specs.ErrorType.{Error}
use Rattle.cvss.specs.SeverityText as severity
use Rattle.cvss.specs.Tenths.{tenths_text}
use Rattle.cvss.specs.Reported.{ReportsFirst}
use Rattle.cvss.specs.CvssType.{Cvss}

-- what is reported of a vector with a score of so many tenths: its canonical text, the score, its rating
abbrev pub advisory_text : Cvss → ℕ → List ℕ
advisory_text vector tenths =
    text_of vector ++ codes ": " ++ tenths_text tenths
    ++ codes " (" ++ severity.text_of (severity_by vector (score_of_tenths tenths)) ++ codes ")"

-- what is reported of the vector, with its score
pub record IsVectorAdvisory (vector : Cvss) (reported : List ℕ) : Type 0 where
  pub tenths : ℕ
  pub scored : IsScoreOf vector (score_of_tenths tenths)
  pub is : reported ≡ advisory_text vector tenths

-- what is reported of the vector that the text denotes
pub record ReportsVector (text reported : List ℕ) : Type 0 where
  pub vector : Cvss
  pub denoted : DenotesCvss text vector
  pub is : IsVectorAdvisory vector reported

-- the first reason why the text denotes no vector
pub record ReportsReason (text reported : List ℕ) : Type 0 where
  pub error : Error
  pub first : ReportsFirst cvss_reason (IsFirstRejectionCvss text) error
  pub is : reported ≡ codes "no vector: " ++ error_text error

-- the vector is reported, or why there is none
abbrev pub IsAdvisory : List ℕ → List ℕ → Type 0
IsAdvisory text reported = ReportsVector text reported ⊎ ReportsReason text reported
