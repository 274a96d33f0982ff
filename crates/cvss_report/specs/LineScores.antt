-- The score of the vector that a line denotes, and its severity.
use Rattle.std.specs.Prelude.{◌≡◌, ℕ, Bool, List}
use Rattle.cvss_base.specs.declared.severity.Severity.{Severity}
use Rattle.cvss_vector.specs.Answers.{score_of_tenths, severity_by}
use Rattle.cvss_vector.specs.Lines.{IsVectorOf}
use Rattle.cvss_vector.specs.Scores.{IsScoreAs}
use Rattle.cvss_vector.specs.declared.scoring.Scoring.{Scoring}
use Rattle.cvss_vector.specs.declared.vector.Cvss.{Cvss}

-- the line denotes a vector, which lacks no base metric unless it may, and has a score of so many tenths
pub record IsScoreOfLine (scoring : Scoring) (allow_incomplete : Bool) (line : List ℕ) (tenths : ℕ) : Type 0 where
  pub vector : Cvss
  pub is_it : IsVectorOf allow_incomplete line vector
  pub scored : IsScoreAs scoring vector (score_of_tenths tenths)

-- it has such a score, with this severity
pub record IsSeverityOfLine (scoring : Scoring) (allow_incomplete : Bool) (line : List ℕ) (severity : Severity) : Type 0 where
  pub vector : Cvss
  pub is_it : IsVectorOf allow_incomplete line vector
  pub tenths : ℕ
  pub scored : IsScoreAs scoring vector (score_of_tenths tenths)
  pub is : severity ≡ severity_by vector (score_of_tenths tenths)
