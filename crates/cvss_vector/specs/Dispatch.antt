-- What a text of any version denotes, and the first reason why it denotes nothing: CVSS v2 guide,
-- section 2.4; v3.1 specification, section 6; v4.0 specification, section 7.
use Rattle.std.specs.Prelude.{◌≡◌, ◌≢◌, ℕ, List, codes, Option, Some, None}
use Rattle.std.specs.String.{string_bytes}
use Rattle.cvss_base.specs.Rejection.{Rejection, BadComponent, WrongPrefix, WrongVersion, UnknownName, BadValue, Repeated, Missing, IsFirstRejection, IsFirstRejectionAfter}
use Rattle.cvss_base.specs.Version.{Denotes, IsComplete, IsWellFormed}
use Rattle.cvss_base.specs.declared.error.Error.{Error}
use Rattle.cvss_base.specs.declared.error.Error.TheVariants.{InvalidMetricV2, DuplicateMetricV2, MissingMandatoryMetricV2, InvalidMetricV3, DuplicateMetricV3, InvalidMetricV4, DuplicateMetricV4, MissingMandatoryMetricV4}
use Rattle.cvss_text.specs.Route.{NoVersion, OnePiece, OtherPrefix, OtherVersion, Route, ToV20, ToV30, ToV31, ToV40, ToNoVersion, route_of}
use Rattle.cvss_vector.specs.v2.Vector.{v2}
use Rattle.cvss_vector.specs.declared.v2.vector.Vector as vector_v2
use Rattle.cvss_vector.specs.v3.Vector.{v3}
use Rattle.cvss_vector.specs.declared.v3.vector.Vector as vector_v3
use Rattle.cvss_vector.specs.v4.Vector.{v4}
use Rattle.cvss_vector.specs.declared.v4.vector.Vector as vector_v4
use Rattle.cvss_vector.specs.declared.vector.Cvss.{Cvss}
use Rattle.cvss_vector.specs.declared.vector.Cvss.TheVariants.{CvssV20, CvssV30, CvssV31, CvssV40}
use Rattle.cvss_vector.specs.declared.metric_type.MetricType.{MetricType}
use Rattle.cvss_vector.specs.declared.metric_type.MetricType.TheVariants.{V2, V3, V4}

-- the text denotes a vector with all base metrics
pub record DenotesV2 (text : List ℕ) (vector : vector_v2.Vector) : Type 0 where
  pub denoted : Denotes v2 text vector
  pub complete : IsComplete v2 vector

-- the text denotes a vector of this minor version, and is not the piece alone that says the version
pub record DenotesV3 (text piece : List ℕ) (minor : ℕ) (vector : vector_v3.Vector) : Type 0 where
  pub denoted : Denotes v3 text vector
  pub well_formed : IsWellFormed v3 vector
  pub version : vector.minor_version ≡ minor
  pub more : text ≢ piece

-- the text denotes a vector with all base metrics and minor version 0
pub record DenotesV4 (text : List ℕ) (vector : vector_v4.Vector) : Type 0 where
  pub denoted : Denotes v4 text vector
  pub well_formed : IsWellFormed v4 vector

-- the text denotes this vector of its version
abbrev pub DenotesCvss : List ℕ → Cvss → Type 0
DenotesCvss text (CvssV20 vector) = DenotesV2 text vector
DenotesCvss text (CvssV30 vector) = DenotesV3 text (codes "CVSS:3.0") 0 vector
DenotesCvss text (CvssV31 vector) = DenotesV3 text (codes "CVSS:3.1") 1 vector
DenotesCvss text (CvssV40 vector) = DenotesV4 text vector

-- a reason, said of one version's metrics, as it is said of those of all
abbrev pub wrapped : {K : Type 0} → (K → MetricType) → Rejection K → Rejection MetricType
wrapped wrap (BadComponent piece) = BadComponent piece
wrapped wrap (WrongPrefix prefix) = WrongPrefix prefix
wrapped wrap (WrongVersion reported) = WrongVersion reported
wrapped wrap (UnknownName name) = UnknownName name
wrapped wrap (BadValue kind value) = BadValue (wrap kind) value
wrapped wrap (Repeated kind) = Repeated (wrap kind)
wrapped wrap (Missing kind) = Missing (wrap kind)

-- why no version is reported, as a reason for a rejection
abbrev pub without_version : NoVersion → Rejection MetricType
without_version (OnePiece piece) = BadComponent piece
without_version (OtherPrefix prefix) = WrongPrefix prefix
without_version (OtherVersion reported) = WrongVersion reported

-- the reason is one of a version's own
pub record IsReasonOf {K : Type 0} (wrap : K → MetricType) (IsFirst : Rejection K → Type 0) (reason : Rejection MetricType) : Type 0 where
  pub own : Rejection K
  pub first : IsFirst own
  pub is : reason ≡ wrapped wrap own

-- the first reason why a text that is read there is rejected
abbrev pub IsFirstReasonAt : Route → List ℕ → Rejection MetricType → Type 0
IsFirstReasonAt ToV20 text = IsReasonOf V2 (IsFirstRejection v2 text)
IsFirstReasonAt ToV30 text = IsReasonOf V3 (IsFirstRejectionAfter v3 text)
IsFirstReasonAt ToV31 text = IsReasonOf V3 (IsFirstRejectionAfter v3 text)
IsFirstReasonAt ToV40 text = IsReasonOf V4 (IsFirstRejectionAfter v4 text)
IsFirstReasonAt (ToNoVersion why) text = λ reason. reason ≡ without_version why

-- the first reason why the text is rejected
abbrev pub IsFirstRejectionCvss : List ℕ → Rejection MetricType → Type 0
IsFirstRejectionCvss text = IsFirstReasonAt (route_of text) text

-- what errors say of the metrics of any version
abbrev pub cvss_reason : Error → Option (Rejection MetricType)
cvss_reason (InvalidMetricV2 kind value) = Some (BadValue (V2 kind) (string_bytes value))
cvss_reason (DuplicateMetricV2 kind) = Some (Repeated (V2 kind))
cvss_reason (MissingMandatoryMetricV2 kind) = Some (Missing (V2 kind))
cvss_reason (InvalidMetricV3 kind value) = Some (BadValue (V3 kind) (string_bytes value))
cvss_reason (DuplicateMetricV3 kind) = Some (Repeated (V3 kind))
cvss_reason (InvalidMetricV4 kind value) = Some (BadValue (V4 kind) (string_bytes value))
cvss_reason (DuplicateMetricV4 kind) = Some (Repeated (V4 kind))
cvss_reason (MissingMandatoryMetricV4 kind) = Some (Missing (V4 kind))
cvss_reason _ = None
