-- The values of a vector's metrics as C sees them: a field of eight bytes for each metric.
use Rattle.std.specs.Prelude.{◌≡◌, ℕ, List, [], ◌∷◌, map, Option, Some, None, unwrap_or}
use Rattle.std.specs.List.{repeat}
use Rattle.cvss_base.specs.V4Types.{most_metrics}
use Rattle.cvss_base.specs.Version.{Version, held}
use Rattle.cvss_vector.specs.Evaluation.{IsOverallScore}
use Rattle.cvss_vector.specs.declared.vector.Cvss.{Cvss}
use Rattle.cvss_vector.specs.declared.vector.Cvss.TheVariants.{CvssV20, CvssV30, CvssV31, CvssV40}
use Rattle.cvss_vector.specs.v2.Vector.{v2}
use Rattle.cvss_vector.specs.v3.Vector.{v3}
use Rattle.cvss_vector.specs.v4.Vector.{v4}
use Rattle.cvss_ffi.specs.Accepted.{IsAccepted, IsRejected}
use Rattle.cvss_ffi.specs.Buffer.{begun}
use Rattle.cvss_ffi.specs.Metrics.{padded}
use Rattle.cvss_ffi.specs.Scores.{IsScoreInTenths, nomenclature_of_any, version_number}
use Rattle.cvss_ffi.specs.declared.values.CvssValues.{CvssValues}

-- the spelling of a value in eight bytes; bytes 0 where there is none
abbrev pub field_of : Option (List ℕ) → List ℕ
field_of value = padded (unwrap_or value [])

-- the fields of a vector's metrics, in the order of its canonical text
abbrev pub fields_in : {V K : Type 0} → Version V K → V → List (List ℕ)
fields_in version v = map (λ kind. field_of (held version v kind)) version.printed

-- a field for each metric of v4.0, the first of which are those of the vector's metrics
abbrev pub fields_of : Cvss → List (List ℕ)
fields_of (CvssV20 vector) = begun (fields_in v2 vector) (repeat most_metrics (padded [] ∷ []))
fields_of (CvssV30 vector) = begun (fields_in v3 vector) (repeat most_metrics (padded [] ∷ []))
fields_of (CvssV31 vector) = begun (fields_in v3 vector) (repeat most_metrics (padded [] ∷ []))
fields_of (CvssV40 vector) = fields_in v4 vector

-- how many bytes the values of a vector have
abbrev pub values_size : ℕ
values_size = 272

-- the version, the overall score in tenths, the nomenclature, and the values of a vector, in a struct of such a size
pub record AreValuesOf (size : ℕ) (cvss : Cvss) (values : CvssValues) : Type 0 where
  pub size_is : values.size ≡ size
  pub version_is : values.version ≡ version_number cvss
  pub score : IsScoreInTenths (IsOverallScore cvss) values.score
  pub nomenclature_is : values.nomenclature ≡ nomenclature_of_any cvss
  pub fields_are : values.fields ≡ fields_of cvss

-- the values of the vector that a text denotes; nothing, where the text is rejected
abbrev pub AreValuesIn : ℕ → List ℕ → ℕ → Option CvssValues → Type 0
AreValuesIn flags text size (Some values) = IsAccepted flags text (λ cvss. AreValuesOf size cvss values)
AreValuesIn flags text size None = IsRejected flags text
