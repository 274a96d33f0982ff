-- What the private code of the front door does, and the versions as it has them: CVSS v3.0 and v3.1 are one, with two
-- minor versions.
use Rattle.std.specs.Prelude.{◌≡◌, ◌≤◌, ◌⊎◌, ℕ, zero, suc, Bool, true, false, List, [], ◌∷◌, ◌++◌, codes, Option, IfSome, Result, Ok, Err, OnOk, IfOk, IfErr, IsErrAnd, ⊤}
use Rattle.std.specs.Str.{IsUtf8}
use Rattle.cvss_base.specs.Rejection.{Rejection}
use Rattle.cvss_base.specs.Text.{pieces}
use Rattle.cvss_base.specs.V4Types.{most_metrics}
use Rattle.cvss_base.specs.Version.{Version, numeral, version_piece}
use Rattle.cvss_text.specs.Route.{Route, ToV30, ToV31, route_of}
use Rattle.cvss_text.specs.declared.walk.Fault.{Fault}
use Rattle.cvss_text.specs.private.Walk as walk
use Rattle.cvss_vector.specs.declared.v3.vector.Vector as vector_v3
use Rattle.cvss_vector.specs.Answers.{HasScore}
use Rattle.cvss_vector.specs.Complete.{IsMissingError, IsPublishedBy, IsReadErrorBy}
use Rattle.cvss_vector.specs.Dispatch as spec
use Rattle.cvss_vector.specs.Published.{vector_line}
use Rattle.cvss_vector.specs.Reasons.{error_line}
use Rattle.cvss_vector.specs.Rejections.{IsReadErrorFor, rejection_of}
use Rattle.cvss_vector.specs.declared.metric_type.MetricType.{MetricType}
use Rattle.cvss_vector.specs.declared.published.Published.{Published}
use Rattle.cvss_vector.specs.declared.rejection.ReadError.{ReadError}
use Rattle.cvss_vector.specs.declared.rejection.Rejection as declared
use Rattle.cvss_vector.specs.declared.rejection.Rejection.TheVariants as named
use Rattle.cvss_vector.specs.declared.scoring.Scoring.{Scoring}
use Rattle.cvss_vector.specs.declared.setting.SetError.{SetError}
use Rattle.cvss_vector.specs.declared.vector.Cvss.{Cvss}
use Rattle.cvss_vector.specs.declared.vector.Cvss.TheVariants.{CvssV30, CvssV31}
use Rattle.cvss_vector.specs.private.ErrorLaws.{HasMissingError}
pub mod ErrorLaws
pub mod Tenths

-- the front of a vector, from the major version with its dot, and the minor version
abbrev pub front_of : List ℕ → ℕ → List (List ℕ)
front_of major minor = version_piece (major ++ numeral minor) ∷ []

-- a vector of CVSS v3, as one of any version
abbrev pub wrapped_v3 : ℕ → vector_v3.Vector → Cvss
wrapped_v3 zero = CvssV30
wrapped_v3 (suc _) = CvssV31

-- where a text of a minor version of CVSS v3 is read
abbrev pub route_v3 : ℕ → Route
route_v3 zero = ToV30
route_v3 (suc _) = ToV31

-- the text is read by the rules of a version, of a minor version that it has, and its pieces are the front that says it
-- and the components
pub record IsRouted (has_minor : ℕ → Type 0) (route : ℕ → Route) (front : ℕ → List (List ℕ)) (text components : List ℕ) (minor : ℕ) : Type 0 where
  pub known : has_minor minor
  pub routed : route_of text ≡ route minor
  pub cut : pieces text ≡ front minor ++ pieces components

-- the same of CVSS v3
abbrev pub IsRoutedV3 : List ℕ → List ℕ → ℕ → Type 0
IsRoutedV3 = IsRouted (λ minor. minor ≤ 1) route_v3 (front_of (codes "3."))

-- an error can say the reason: its text is UTF-8, and of CVSS v3 no metric is missing
abbrev pub IsReportable : declared.Rejection → Type 0
IsReportable (named.BadComponent component) = IsUtf8 component.bytes.now
IsReportable (named.WrongPrefix prefix) = IsUtf8 prefix.bytes.now
IsReportable (named.WrongVersion version) = IsUtf8 version.bytes.now
IsReportable (named.UnknownName name) = IsUtf8 name.bytes.now
IsReportable (named.BadValue metric value) = IsUtf8 value.bytes.now
IsReportable (named.Repeated metric) = ⊤
IsReportable (named.Missing metric) = HasMissingError metric

-- what reading a text answers: the vector that it denotes, or the first reason why there is none
pub record IsRead (text : List ℕ) (answer : Result Cvss declared.Rejection) : Type 0 where
  pub denoted : IfOk answer (λ cvss. spec.DenotesCvss text cvss)
  pub accepts : (cvss : Cvss) → spec.DenotesCvss text cvss → answer ≡ Ok cvss
  pub scored : IfOk answer (λ cvss. HasScore cvss)
  pub utf8 : OnOk answer (IsUtf8 text)
  pub rejected : IfErr answer (λ rejection. spec.IsFirstRejectionCvss text (rejection_of rejection))
  pub rejects : (reason : Rejection MetricType) → spec.IsFirstRejectionCvss text reason → IsErrAnd answer (λ rejection. rejection_of rejection ≡ reason)
  pub reportable : IsUtf8 text → IfErr answer IsReportable

-- the reason stands for a fault that a version found, and an error can say it if the fault can be reported
pub record IsReasonFor {V K : Type 0} (version : Version V K) (wrap : K → MetricType) (fault : Fault K) (rejection : declared.Rejection) : Type 0 where
  pub is : rejection_of rejection ≡ spec.wrapped wrap (walk.reason_of version fault)
  pub reportable : walk.IsPrintable version fault → IsReportable rejection

-- what the rules of a version read of a text's components is what the text denotes, or why it is rejected
pub record IsReadByRules {V K : Type 0} (version : Version V K) (join : V → Cvss) (wrap : K → MetricType) (text components : List ℕ) (empty : V) : Type 0 where
  pub accepted : (done : Unit {0}) (v : V) → walk.IsReadLeft version (pieces components) empty (Ok done) v → IsRead text (Ok (join v))
  pub rejected : (fault : Fault K) (v : V) (rejection : declared.Rejection) → walk.IsReadLeft version (pieces components) empty (Err fault) v → IsReasonFor version wrap fault rejection → IsRead text (Err rejection)

-- why nothing is published of a text: it is rejected, or each error of this reason says a base metric that its vector lacks
-- and may not
abbrev pub IsUnpublished : Bool → List ℕ → declared.Rejection → Type 0
IsUnpublished allow_incomplete text rejection =
    spec.IsFirstRejectionCvss text (rejection_of rejection)
    ⊎ ((error : ReadError) → IsReadErrorFor text (rejection_of rejection) error → IsMissingError allow_incomplete text error)

-- what is written in answer to a text: the line of the vector that the text denotes, or that of an error that is right
abbrev pub IsPublishedTo : Scoring → Bool → List ℕ → List ℕ → Bool → List ℕ → Type 0
IsPublishedTo scoring allow_incomplete text old true new =
    (canonical : List ℕ) × (published : Published) × IsPublishedBy scoring allow_incomplete text canonical published
    × (new ≡ old ++ vector_line canonical published)
IsPublishedTo scoring allow_incomplete text old false new =
    (error : ReadError) × IsReadErrorBy allow_incomplete text error × (new ≡ old ++ error_line error)

-- what is answered where these are the vectors and these the reasons: no other vector, and no other reason
pub record IsAnsweredBy (IsIt : Cvss → Type 0) (IsReason : Option ℕ → Rejection MetricType → Type 0) (answer : Result Cvss SetError) : Type 0 where
  pub accepted : IfOk answer IsIt
  pub accepts : (cvss : Cvss) → IsIt cvss → answer ≡ Ok cvss
  pub rejected : IfErr answer (λ error. IsReason error.index (rejection_of error.reason))
  pub rejects : (index : Option ℕ) (reason : Rejection MetricType) → IsReason index reason → IsErrAnd answer (λ error. (error.index ≡ index) × (rejection_of error.reason ≡ reason))
  pub bound : IfErr answer (λ error. IfSome error.index (λ index. index ≤ most_metrics))
