-- The base metrics that a vector lacks. Only CVSS v3 has texts that lack some.
use Rattle.std.specs.Prelude.{◌≡◌, ◌⊎◌, ℕ, Bool, true, false, List, Option, Some, None}
use Rattle.std.specs.Option.{option_map}
use Rattle.std.specs.Str.{IsUtf8}
use Rattle.cvss_base.specs.Rejection.{Missing}
use Rattle.cvss_vector.specs.v3.Complete.{first_missing_base}
use Rattle.cvss_vector.specs.Dispatch.{DenotesCvss}
use Rattle.cvss_vector.specs.Published.{IsPublishedAs}
use Rattle.cvss_vector.specs.Rejections.{IsReadError, IsReadErrorFor}
use Rattle.cvss_vector.specs.declared.metric_type.MetricType.{MetricType}
use Rattle.cvss_vector.specs.declared.metric_type.MetricType.TheVariants.{V3}
use Rattle.cvss_vector.specs.declared.published.Published.{Published}
use Rattle.cvss_vector.specs.declared.rejection.ReadError.{ReadError}
use Rattle.cvss_vector.specs.declared.scoring.Scoring.{Scoring}
use Rattle.cvss_vector.specs.declared.vector.Cvss.{Cvss}
use Rattle.cvss_vector.specs.declared.vector.Cvss.TheVariants.{CvssV30, CvssV31}

-- the first base metric that a vector lacks that was read from a text
abbrev pub first_missing : Cvss → Option MetricType
first_missing (CvssV30 vector) = option_map V3 (first_missing_base vector)
first_missing (CvssV31 vector) = option_map V3 (first_missing_base vector)
first_missing _ = None

-- the first base metric that a vector lacks, unless it may lack some
abbrev pub missing_by : Bool → Cvss → Option MetricType
missing_by true cvss = None
missing_by false cvss = first_missing cvss

-- that is published of the vector that the text denotes, whose canonical text is given; it lacks no base metric, unless
-- it may
pub record IsPublishedBy (scoring : Scoring) (allow_incomplete : Bool) (text canonical : List ℕ) (published : Published) : Type 0 where
  pub of : IsPublishedAs scoring text canonical published
  pub complete : missing_by allow_incomplete of.cvss ≡ None

-- the same, of a text that is its vector's canonical one, and of a vector that may lack none
abbrev pub IsPublishedOfComplete : Scoring → List ℕ → Published → Type 0
IsPublishedOfComplete scoring text published = IsPublishedBy scoring false text text published

-- the text denotes a vector that lacks base metrics and may not, and the error says the first of them
pub record IsMissingError (allow_incomplete : Bool) (text : List ℕ) (error : ReadError) : Type 0 where
  pub cvss : Cvss
  pub denoted : DenotesCvss text cvss
  pub utf8 : IsUtf8 text
  pub metric : MetricType
  pub missing : missing_by allow_incomplete cvss ≡ Some metric
  pub is : IsReadErrorFor text (Missing metric) error

-- the error is right: the bytes are the text of no vector for this reason, or of one that lacks base metrics and may not
abbrev pub IsReadErrorBy : Bool → List ℕ → ReadError → Type 0
IsReadErrorBy allow_incomplete text error = IsReadError text error ⊎ IsMissingError allow_incomplete text error
