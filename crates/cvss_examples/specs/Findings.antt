-- Texts of vectors by their severity: v3.1 specification, section 5; v4.0 specification, section 6.
use Rattle.std.specs.Prelude.{◌≤◌, ℕ, List, ℤ}
use Rattle.cvss.specs.Answers.{IsScoreOf, severity_by}
use Rattle.cvss.specs.Dispatch.{DenotesCvss}
use Rattle.cvss.specs.SeverityType.{Severity}
use Rattle.cvss.specs.SeverityType.TheVariants.{None, Low, Medium, High, Critical}
use Rattle.cvss.specs.CvssType.{Cvss}

-- how many severities are below this one
abbrev pub rank : Severity → ℕ
rank None = 0
rank Low = 1
rank Medium = 2
rank High = 3
rank Critical = 4

-- the rating of the vector's score is the level or one above it
pub record IsAtOrAbove (level : Severity) (vector : Cvss) : Type 0 where
  pub score : ℤ
  pub scored : IsScoreOf vector score
  pub rated : rank level ≤ rank (severity_by vector score)

-- the text denotes a vector that is rated at the level or above
pub record IsFinding (level : Severity) (text : List ℕ) : Type 0 where
  pub vector : Cvss
  pub denoted : DenotesCvss text vector
  pub rated : IsAtOrAbove level vector

-- the text denotes no vector
abbrev pub IsNoVector : List ℕ → Type 0
IsNoVector text = (vector : Cvss) → ¬ (DenotesCvss text vector)
