-- What is answered of a vector of any version: its text, its score, the score's rating and its metrics.
use Rattle.std.specs.Prelude.{◌≡◌, ℕ, ◌*◌, ◌^◌, List, ◌++◌, codes, map, ℤ, pos, ⊤}
use Rattle.cvss_text.specs.Listing.{listed_metrics}
use Rattle.cvss_base.specs.SeverityScale.{severity_of_score}
use Rattle.cvss_base.specs.SeverityText.{text_of as severity_text}
use Rattle.cvss_base.specs.Tenths.{IsInTenths, tenths_text}
use Rattle.cvss_base.specs.V4Types.{declared}
use Rattle.cvss_base.specs.Version.{canonical_text, IsComplete}
use Rattle.cvss_base.specs.declared.severity.Severity.{Severity}
use Rattle.cvss_score.specs.v2.SeverityScale.{severity_of}
use Rattle.cvss_score.specs.v2.Scores as scores_v2
use Rattle.cvss_metric.specs.v2.Table as table_v2
use Rattle.cvss_vector.specs.v2.Vector.{v2}
use Rattle.cvss_vector.specs.v2.Weights as weights_v2
use Rattle.cvss_score.specs.v3.Scores as scores_v3
use Rattle.cvss_metric.specs.v3.Table as table_v3
use Rattle.cvss_vector.specs.v3.Vector.{v3}
use Rattle.cvss_vector.specs.v3.VectorWeights as weights_v3
use Rattle.cvss_vector.specs.v4.Merging.{effective_of}
use Rattle.cvss_score.specs.v4.Scores.{IsScore}
use Rattle.cvss_vector.specs.v4.Vector.{v4}
use Rattle.cvss_vector.specs.declared.vector.Cvss.{Cvss}
use Rattle.cvss_vector.specs.declared.vector.Cvss.TheVariants.{CvssV20, CvssV30, CvssV31, CvssV40}
use Rattle.cvss_vector.specs.declared.metric_type.MetricType.{MetricType}
use Rattle.cvss_vector.specs.declared.metric_type.MetricType.TheVariants.{V2, V3, V4}

-- the one text that the vector is printed as
abbrev pub text_of : Cvss → List ℕ
text_of (CvssV20 vector) = canonical_text v2 vector
text_of (CvssV30 vector) = canonical_text v3 vector
text_of (CvssV31 vector) = canonical_text v3 vector
text_of (CvssV40 vector) = canonical_text v4 vector

-- the vector has a score: of CVSS v4.0, each that has all base metrics
abbrev pub HasScore : Cvss → Type 0
HasScore (CvssV40 vector) = IsComplete v4 vector
HasScore _ = ⊤

-- the score that is published of the vector: in CVSS v2 and v3 the base score
abbrev pub IsScoreOf : Cvss → ℤ → Type 0
IsScoreOf (CvssV20 vector) = scores_v2.IsBaseScore (weights_v2.weights_of vector)
IsScoreOf (CvssV30 vector) = scores_v3.IsBaseScore vector.minor_version (weights_v3.weights_of vector)
IsScoreOf (CvssV31 vector) = scores_v3.IsBaseScore vector.minor_version (weights_v3.weights_of vector)
IsScoreOf (CvssV40 vector) = IsInTenths (IsScore (effective_of vector))

-- the rating of the vector's score, a count of 10^-24
abbrev pub severity_by : Cvss → ℤ → Severity
severity_by (CvssV20 vector) = severity_of
severity_by _ = severity_of_score

-- a score of so many tenths, as a count of 10^-24
abbrev pub score_of_tenths : ℕ → ℤ
score_of_tenths tenths = pos (tenths * 10 ^ 23)

-- the text is that of the vector's score, with one decimal
pub record IsScoreText (vector : Cvss) (text : List ℕ) : Type 0 where
  pub tenths : ℕ
  pub scored : IsScoreOf vector (score_of_tenths tenths)
  pub is : text ≡ tenths_text tenths

-- a score of so many tenths, and a rating
abbrev pub score_and_severity : ℕ → Severity → List ℕ
score_and_severity tenths severity = tenths_text tenths ++ codes " " ++ severity_text severity

-- the vector's text, a score of so many tenths, and its rating
abbrev pub vector_answer : Cvss → ℕ → List ℕ
vector_answer vector tenths =
    text_of vector ++ codes " " ++ score_and_severity tenths (severity_by vector (score_of_tenths tenths))

-- metrics of one version, listed as metrics of any
abbrev pub listed_as : {K : Type 0} → (K → MetricType) → List (K × List ℕ) → List (MetricType × List ℕ)
listed_as wrap items = map (λ item. (wrap item.0, item.1)) items

-- the metrics that the vector has, each with the spelling of its value
abbrev pub metrics_of : Cvss → List (MetricType × List ℕ)
metrics_of (CvssV20 vector) = listed_as V2 (listed_metrics v2 vector table_v2.listed)
metrics_of (CvssV30 vector) = listed_as V3 (listed_metrics v3 vector table_v3.listed)
metrics_of (CvssV31 vector) = listed_as V3 (listed_metrics v3 vector table_v3.listed)
metrics_of (CvssV40 vector) = listed_as V4 (listed_metrics v4 vector declared)
