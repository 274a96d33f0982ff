-- The scores of a vector as C sees them: whole tenths, and numbers for versions, severities and nomenclatures.
use Rattle.std.specs.Prelude.{◌≡◌, ◌≢◌, ◌⊎◌, ◌*ℤ◌, ◌^◌, ℕ, ℤ, pos, negsuc, List, [], ◌∷◌, None}
use Rattle.cvss_base.specs.SeverityScale.{severity_of_score}
use Rattle.cvss_base.specs.Tenths.{IsFromZeroToTen}
use Rattle.cvss_base.specs.declared.severity.Severity.{Severity}
use Rattle.cvss_base.specs.declared.severity.Severity.TheVariants as severity
use Rattle.cvss_score.specs.declared.v4.nomenclature.Nomenclature.{Nomenclature}
use Rattle.cvss_score.specs.declared.v4.nomenclature.Nomenclature.TheVariants.{CvssB, CvssBE, CvssBT, CvssBTE}
use Rattle.cvss_score.specs.v2.SeverityScale.{severity_of}
use Rattle.cvss_vector.specs.Answers.{severity_by}
use Rattle.cvss_vector.specs.Complete.{first_missing}
use Rattle.cvss_vector.specs.Evaluation.{IsGroupScore, IsOverallScore}
use Rattle.cvss_vector.specs.declared.group.Group.{Group}
use Rattle.cvss_vector.specs.declared.group.Group.TheVariants.{Base, Temporal, Environmental}
use Rattle.cvss_vector.specs.declared.v4.vector.Vector as vector_v4
use Rattle.cvss_vector.specs.declared.vector.Cvss.{Cvss}
use Rattle.cvss_vector.specs.declared.vector.Cvss.TheVariants.{CvssV20, CvssV30, CvssV31, CvssV40}
use Rattle.cvss_vector.specs.v4.Nomenclature.{nomenclature_of}
use Rattle.cvss_vector.specs.v4.Parts.{IsScoreBy}
use Rattle.cvss_ffi.specs.declared.vector.CvssVector.{CvssVector}

-- what stands for nothing: -1
abbrev pub nothing : ℤ
nothing = negsuc 0

-- the number of a vector's version: 20, 30, 31 or 40
abbrev pub version_number : Cvss → ℤ
version_number (CvssV20 _) = pos 20
version_number (CvssV30 _) = pos 30
version_number (CvssV31 _) = pos 31
version_number (CvssV40 _) = pos 40

-- the number of a severity
abbrev pub severity_number : Severity → ℤ
severity_number severity.None = pos 0
severity_number severity.Low = pos 1
severity_number severity.Medium = pos 2
severity_number severity.High = pos 3
severity_number severity.Critical = pos 4

-- the number of a nomenclature: 1 for environmental metrics and 2 for threat metrics, added
abbrev pub nomenclature_number : Nomenclature → ℤ
nomenclature_number CvssB = pos 0
nomenclature_number CvssBE = pos 1
nomenclature_number CvssBT = pos 2
nomenclature_number CvssBTE = pos 3

-- the number of a vector's nomenclature, which only CVSS v4.0 has
abbrev pub nomenclature_of_any : Cvss → ℤ
nomenclature_of_any (CvssV40 vector) = nomenclature_number (nomenclature_of vector)
nomenclature_of_any cvss = nothing

-- so many tenths, as a count of 10^-24
abbrev pub count_of : ℤ → ℤ
count_of tenths = tenths *ℤ pos (10 ^ 23)

-- so many tenths, from 0 to 10, are the score whose count is reported
pub record IsScoreInTenths (IsCount : ℤ → Type 0) (tenths : ℤ) : Type 0 where
  pub is_score : IsCount (count_of tenths)
  pub range : IsFromZeroToTen tenths

-- so many tenths are the score of a group of metrics; nothing, where the version has none
abbrev pub IsReportedScore : Cvss → Group → ℤ → Type 0
IsReportedScore (CvssV40 vector) Temporal tenths = tenths ≡ nothing
IsReportedScore (CvssV40 vector) Environmental tenths = tenths ≡ nothing
IsReportedScore cvss group tenths = IsScoreInTenths (IsGroupScore cvss group) tenths

-- so many tenths are a score of the vector, and this is the number of its severity
pub record IsRatedScore (cvss : Cvss) (IsCount : ℤ → Type 0) (tenths severity : ℤ) : Type 0 where
  pub score : IsScoreInTenths IsCount tenths
  pub severity_is : severity ≡ severity_number (severity_by cvss (count_of tenths))

-- the same of the score of a group of metrics; nothing, where the version has none
abbrev pub IsRatedGroup : Cvss → Group → ℤ → ℤ → Type 0
IsRatedGroup (CvssV40 vector) Temporal tenths severity = (tenths ≡ nothing) × (severity ≡ nothing)
IsRatedGroup (CvssV40 vector) Environmental tenths severity = (tenths ≡ nothing) × (severity ≡ nothing)
IsRatedGroup cvss group tenths severity = IsRatedScore cvss (IsGroupScore cvss group) tenths severity

-- the scores of a vector of CVSS v4.0 by the numbers of the nomenclatures
pub record AreScoresBy (vector : vector_v4.Vector) (scores : List ℤ) : Type 0 where
  pub b : ℤ
  pub be : ℤ
  pub bt : ℤ
  pub bte : ℤ
  pub are : scores ≡ b ∷ be ∷ bt ∷ bte ∷ []
  pub base : IsScoreInTenths (IsScoreBy CvssB vector) b
  pub environmental : IsScoreInTenths (IsScoreBy CvssBE vector) be
  pub threat : IsScoreInTenths (IsScoreBy CvssBT vector) bt
  pub all : IsScoreInTenths (IsScoreBy CvssBTE vector) bte

-- those of a vector of CVSS v4.0; other versions have none
abbrev pub AreScoresByOf : Cvss → List ℤ → Type 0
AreScoresByOf (CvssV40 vector) scores = AreScoresBy vector scores
AreScoresByOf cvss scores = scores ≡ nothing ∷ nothing ∷ nothing ∷ nothing ∷ []

-- 1 where this holds, and else 0
abbrev pub IsFlag : ℤ → Type 0 → Type 0
IsFlag flag Holds = ((flag ≡ pos 1) × Holds) ⊎ ((flag ≡ pos 0) × ¬ Holds)

-- how many bytes what is reported of a vector has
abbrev pub vector_size : ℕ
vector_size = 64

-- all that is reported of a vector, in a struct of such a size
pub record IsReportOf (size : ℕ) (cvss : Cvss) (reported : CvssVector) : Type 0 where
  pub size_is : reported.size ≡ size
  pub version_is : reported.version ≡ version_number cvss
  pub overall : IsRatedScore cvss (IsOverallScore cvss) reported.score reported.severity
  pub base : IsRatedGroup cvss Base reported.base reported.base_severity
  pub temporal : IsRatedGroup cvss Temporal reported.temporal reported.temporal_severity
  pub environmental : IsRatedGroup cvss Environmental reported.environmental reported.environmental_severity
  pub nomenclature_is : reported.nomenclature ≡ nomenclature_of_any cvss
  pub by_nomenclature : AreScoresByOf cvss reported.by_nomenclature
  pub is_complete : IsFlag reported.is_complete (first_missing cvss ≡ None)

-- the version is 3.0, 3.1 or 4.0
abbrev pub IsSinceV3 : ℤ → Type 0
IsSinceV3 version = (version ≡ pos 30) ⊎ ((version ≡ pos 31) ⊎ (version ≡ pos 40))

-- the number of the severity of so many tenths by the bounds of a version; nothing of another version, or of other tenths
pub record IsSeverityNumber (version tenths number : ℤ) : Type 0 where
  pub of_v2 : version ≡ pos 20 → IsFromZeroToTen tenths → number ≡ severity_number (severity_of (count_of tenths))
  pub since_v3 : IsSinceV3 version → IsFromZeroToTen tenths → number ≡ severity_number (severity_of_score (count_of tenths))
  pub no_version : version ≢ pos 20 → ¬ (IsSinceV3 version) → number ≡ nothing
  pub no_score : ¬ (IsFromZeroToTen tenths) → number ≡ nothing
