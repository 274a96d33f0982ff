-- The answers to lines whose vectors have metrics set.
use Rattle.std.specs.Prelude.{◌≡◌, ◌⊎◌, ℕ, Bool, List, None, Option, Some}
use Rattle.std.specs.Str.{IsUtf8}
use Rattle.cvss_vector.specs.Complete.{missing_by}
use Rattle.cvss_vector.specs.Dispatch.{DenotesCvss}
use Rattle.cvss_vector.specs.Rejections.{IsReadError, rejection_of}
use Rattle.cvss_vector.specs.Setting.{IsWith, IsWithReason}
use Rattle.cvss_vector.specs.declared.metric_type.MetricType.{MetricType}
use Rattle.cvss_vector.specs.declared.rejection.ReadError.{ReadError}
use Rattle.cvss_vector.specs.declared.rejection.ReadError.TheVariants.{Invalid}
use Rattle.cvss_vector.specs.declared.rejection.Rejection.{Rejection}
use Rattle.cvss_vector.specs.declared.rejection.Rejection.TheVariants.{Missing}
use Rattle.cvss_vector.specs.declared.vector.Cvss.{Cvss}
use Rattle.cvss_vector.specs.Lines.{vector_rule}
use Rattle.cvss_vector.specs.declared.scoring.Scoring.{Scoring}
use Rattle.cvss_lines.specs.Answers.{Rule}

-- the line is a text that denotes a vector, and this is that vector with the metrics set
pub record IsSetIn (metrics line : List ℕ) (new : Cvss) : Type 0 where
  pub utf8 : IsUtf8 line
  pub vector : Cvss
  pub denoted : DenotesCvss line vector
  pub is_with : IsWith vector metrics new

-- the same, where the new vector lacks no base metric unless it may
abbrev pub IsSetBy : Bool → List ℕ → List ℕ → Cvss → Type 0
IsSetBy allow_incomplete metrics line new = IsSetIn metrics line new × (missing_by allow_incomplete new ≡ None)

-- the line denotes a vector in which the metrics cannot be set, and the error is the first reason
pub record IsNotSet (metrics line : List ℕ) (error : ReadError) : Type 0 where
  pub utf8 : IsUtf8 line
  pub vector : Cvss
  pub denoted : DenotesCvss line vector
  pub index : Option ℕ
  pub rejection : Rejection
  pub first : IsWithReason vector metrics index (rejection_of rejection)
  pub is : error ≡ Invalid rejection

-- the vector with the metrics set lacks base metrics and may not, and the error is the first of them
pub record IsSetIncomplete (allow_incomplete : Bool) (metrics line : List ℕ) (error : ReadError) : Type 0 where
  pub new : Cvss
  pub is_set : IsSetIn metrics line new
  pub metric : MetricType
  pub missing : missing_by allow_incomplete new ≡ Some metric
  pub is : error ≡ Invalid (Missing metric)

-- the error is why the line has no vector with the metrics set
abbrev pub IsSetError : Bool → List ℕ → List ℕ → ReadError → Type 0
IsSetError allow_incomplete metrics line error =
    IsReadError line error ⊎ IsNotSet metrics line error ⊎ IsSetIncomplete allow_incomplete metrics line error

-- a line is answered by its vector with the metrics set, with this score, or by an error
abbrev pub set_rule : Scoring → Bool → List ℕ → Rule
set_rule scoring allow_incomplete metrics =
    vector_rule scoring (IsSetBy allow_incomplete metrics) (IsSetError allow_incomplete metrics)
