-- Metrics that are set in a vector, and vectors that are made of metrics, as texts: CVSS v2 guide, section 2.4; v3.1
-- specification, section 6; v4.0 specification, section 7.
use Rattle.std.specs.Prelude.{◌≡◌, ◌≢◌, ◌⊎◌, ℕ, ℤ, pos, List, Option, Some, None, Result, Ok, Err}
use Rattle.std.specs.Str.{IsUtf8}
use Rattle.cvss_base.specs.Rejection.{Rejection, Missing}
use Rattle.cvss_vector.specs.Answers.{text_of}
use Rattle.cvss_vector.specs.Complete.{missing_by}
use Rattle.cvss_vector.specs.Dispatch.{DenotesCvss}
use Rattle.cvss_vector.specs.Reasons.{IsSaidOf}
use Rattle.cvss_vector.specs.Setting.{IsBuiltAs, IsBuiltReason, IsWith, IsWithReason}
use Rattle.cvss_vector.specs.declared.metric_type.MetricType.{MetricType}
use Rattle.cvss_vector.specs.declared.setting.Version.{Version}
use Rattle.cvss_vector.specs.declared.setting.Version.TheVariants.{V20, V30, V31, V40}
use Rattle.cvss_vector.specs.declared.vector.Cvss.{Cvss}
use Rattle.cvss_ffi.specs.Accepted.{NoneIs, may_lack}
use Rattle.cvss_ffi.specs.Errors.{Report, no_version, not_utf8, report_of}

-- metrics are UTF-8 and make this vector, which lacks no base metric unless it may
pub record IsMade (flags : ℕ) (IsIt : Cvss → Type 0) (metrics : List ℕ) (new : Cvss) : Type 0 where
  pub utf8 : IsUtf8 metrics
  pub is : IsIt new
  pub complete : missing_by (may_lack flags) new ≡ None

-- metrics are UTF-8 and rejected, and the first that is, by its index, or the one that is missing is reported
pub record ReportsMetric (IsWhy : Option ℕ → Rejection MetricType → Type 0) (metrics : List ℕ) (reported : Report) : Type 0 where
  pub utf8 : IsUtf8 metrics
  pub index : Option ℕ
  pub reason : Rejection MetricType
  pub why : IsWhy index reason
  pub is : reported ≡ report_of index reason

-- the vector that metrics make lacks base metrics and may not, and the first of them is reported
pub record ReportsLack (flags : ℕ) (IsIt : Cvss → Type 0) (metrics : List ℕ) (reported : Report) : Type 0 where
  pub utf8 : IsUtf8 metrics
  pub new : Cvss
  pub is_it : IsIt new
  pub metric : MetricType
  pub missing : missing_by (may_lack flags) new ≡ Some metric
  pub is : reported ≡ report_of None (Missing metric)

-- why metrics make no such vector is reported: they are not UTF-8, one is rejected, or the vector lacks base metrics
abbrev pub IsWhyNotMade : ℕ → (Cvss → Type 0) → (Option ℕ → Rejection MetricType → Type 0) → List ℕ → Report → Type 0
IsWhyNotMade flags IsIt IsWhy metrics reported =
    (¬ (IsUtf8 metrics) × (reported ≡ not_utf8)) ⊎ (ReportsMetric IsWhy metrics reported ⊎ ReportsLack flags IsIt metrics reported)

-- what metrics make: the canonical text of such a vector, or why there is none
abbrev pub IsMadeOf : ℕ → (Cvss → Type 0) → (Option ℕ → Rejection MetricType → Type 0) → List ℕ → Result (List ℕ) Report → Type 0
IsMadeOf flags IsIt IsWhy metrics (Ok text) = (new : Cvss) × IsMade flags IsIt metrics new × (text ≡ text_of new)
IsMadeOf flags IsIt IsWhy metrics (Err reported) = NoneIs (IsMade flags IsIt metrics) × IsWhyNotMade flags IsIt IsWhy metrics reported

-- the text denotes a vector, which may lack base metrics, and metrics that are set in it make this
pub record IsSetIn (flags : ℕ) (text metrics : List ℕ) (answer : Result (List ℕ) Report) : Type 0 where
  pub cvss : Cvss
  pub denoted : DenotesCvss text cvss
  pub is : IsMadeOf flags (IsWith cvss metrics) (IsWithReason cvss metrics) metrics answer

-- the text denotes no vector, and why is reported
pub record ReportsNoVector (text : List ℕ) (answer : Result (List ℕ) Report) : Type 0 where
  pub none : NoneIs (DenotesCvss text)
  pub reported : Report
  pub why : IsSaidOf (report_of None) not_utf8 text reported
  pub is : answer ≡ Err reported

-- the vector of a text with metrics set, or why there is none
abbrev pub SetsMetrics : ℕ → List ℕ → List ℕ → Result (List ℕ) Report → Type 0
SetsMetrics flags text metrics answer = IsSetIn flags text metrics answer ⊎ ReportsNoVector text answer

-- the number of a version
abbrev pub number_of : Version → ℤ
number_of V20 = pos 20
number_of V30 = pos 30
number_of V31 = pos 31
number_of V40 = pos 40

-- the number is that of a version, and metrics make this of it
pub record IsMadeFor (flags : ℕ) (number : ℤ) (metrics : List ℕ) (answer : Result (List ℕ) Report) : Type 0 where
  pub version : Version
  pub numbered : number_of version ≡ number
  pub is : IsMadeOf flags (IsBuiltAs version metrics) (IsBuiltReason version metrics) metrics answer

-- the number is none of a version, and that is reported
pub record ReportsNoVersion (number : ℤ) (answer : Result (List ℕ) Report) : Type 0 where
  pub none : (version : Version) → number_of version ≢ number
  pub is : answer ≡ Err no_version

-- the vector of a version that metrics make, or why they make none
abbrev pub MakesVector : ℕ → ℤ → List ℕ → Result (List ℕ) Report → Type 0
MakesVector flags number metrics answer = IsMadeFor flags number metrics answer ⊎ ReportsNoVersion number answer
