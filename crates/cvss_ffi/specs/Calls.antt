-- What a call reports that writes a text into a buffer, or the message of a rejection, and fills in an error.
use Rattle.std.specs.Prelude.{◌≡◌, ◌⊎◌, ℕ, List, Result, Ok, Err, Some, None}
use Rattle.cvss_base.specs.Rejection.{Missing}
use Rattle.cvss_vector.specs.Complete.{missing_by}
use Rattle.cvss_vector.specs.Dispatch.{DenotesCvss}
use Rattle.cvss_vector.specs.Reasons.{IsSaidOf}
use Rattle.cvss_vector.specs.declared.metric_type.MetricType.{MetricType}
use Rattle.cvss_vector.specs.declared.vector.Cvss.{Cvss}
use Rattle.cvss_ffi.specs.Accepted.{IsAccepted, IsRejected, may_lack}
use Rattle.cvss_ffi.specs.Buffer.{IsFilled, IsWritten}
use Rattle.cvss_ffi.specs.Errors.{Report, error_of, error_size, no_error, not_utf8, report_of}
use Rattle.cvss_ffi.specs.declared.error.CvssError.{CvssError}

-- the text that is written: the result, or the message of the rejection
abbrev pub written_of : Result (List ℕ) Report → List ℕ
written_of (Ok text) = text
written_of (Err reported) = reported.message

-- what the error says, of a struct of such a size
abbrev pub error_for : ℕ → Result (List ℕ) Report → CvssError
error_for size (Ok text) = no_error size
error_for size (Err reported) = error_of size reported

-- the result is written, or the message, and the error filled in
pub record IsReturned (answer : Result (List ℕ) Report) (old_error error : CvssError) (old now : List ℕ) (returned : ℕ) : Type 0 where
  pub written : IsWritten (written_of answer) old now returned
  pub error_is : IsFilled error_size old_error.size (λ new. new ≡ error_for old_error.size answer) old_error error

-- such an answer is returned
abbrev pub Returns : (Result (List ℕ) Report → Type 0) → CvssError → CvssError → List ℕ → List ℕ → ℕ → Type 0
Returns IsAnswer old_error error old now returned =
    (answer : Result (List ℕ) Report) × IsAnswer answer × IsReturned answer old_error error old now returned

-- the text denotes a vector that lacks base metrics and may not, and the first of them is returned
pub record ReportsMissing (flags : ℕ) (text : List ℕ) (reported : Report) : Type 0 where
  pub cvss : Cvss
  pub denoted : DenotesCvss text cvss
  pub metric : MetricType
  pub missing : missing_by (may_lack flags) cvss ≡ Some metric
  pub is : reported ≡ report_of None (Missing metric)

-- why a text is rejected is reported: it is not UTF-8, it denotes no vector for its first reason, or a metric is missing
abbrev pub IsWhy : ℕ → List ℕ → Report → Type 0
IsWhy flags text reported = IsSaidOf (report_of None) not_utf8 text reported ⊎ ReportsMissing flags text reported

-- such a text of the vector that a text denotes, or why the text is rejected
abbrev pub IsAnswerTo : ℕ → List ℕ → (Cvss → List ℕ → Type 0) → Result (List ℕ) Report → Type 0
IsAnswerTo flags text IsIt (Ok new) = IsAccepted flags text (λ cvss. IsIt cvss new)
IsAnswerTo flags text IsIt (Err reported) = IsRejected flags text × IsWhy flags text reported
