-- What is said of a text that is rejected. The words are those of the errors (cvss_base, ErrorText).
use Rattle.std.specs.Prelude.{◌≡◌, ◌⊎◌, ℕ, List, [], ◌∷◌, ◌++◌, codes}
use Rattle.std.specs.Str.{IsUtf8}
use Rattle.cvss_base.specs.ErrorText.{quoted}
use Rattle.cvss_base.specs.Rejection.{Rejection, BadComponent, WrongPrefix, WrongVersion, UnknownName, BadValue, Repeated, Missing}
use Rattle.cvss_vector.specs.Dispatch.{IsFirstRejectionCvss}
use Rattle.cvss_vector.specs.MetricTypes.{words_of}
use Rattle.cvss_vector.specs.Rejections.{rejection_of}
use Rattle.cvss_vector.specs.declared.metric_type.MetricType.{MetricType}
use Rattle.cvss_vector.specs.declared.rejection.ReadError.{ReadError}
use Rattle.cvss_vector.specs.declared.rejection.ReadError.TheVariants.{NotUtf8, Invalid}

-- the reason's text
abbrev pub reason_text : Rejection MetricType → List ℕ
reason_text (BadComponent component) = codes "invalid CVSS metric group component: " ++ quoted component
reason_text (WrongPrefix prefix) = codes "invalid CVSS string prefix: " ++ quoted prefix
reason_text (WrongVersion version) = codes "unsupported CVSS version: " ++ version
reason_text (UnknownName name) = codes "unknown CVSS metric name: " ++ quoted name
reason_text (BadValue metric value) = codes "invalid " ++ words_of metric ++ codes ": " ++ quoted value
reason_text (Repeated metric) = codes "duplicate " ++ words_of metric
reason_text (Missing metric) = codes "missing mandatory " ++ words_of metric

-- the words for bytes that are not UTF-8
abbrev pub not_utf8_text : List ℕ
not_utf8_text = codes "not UTF-8"

-- what is said of an error, where one thing is said of bytes that are not UTF-8 and others of the reasons
abbrev pub said_of : {X : Type 0} → (Rejection MetricType → X) → X → ReadError → X
said_of of_reason of_no_text NotUtf8 = of_no_text
said_of of_reason of_no_text (Invalid rejection) = of_reason (rejection_of rejection)

-- the error's text
abbrev pub error_message : ReadError → List ℕ
error_message error = said_of reason_text not_utf8_text error

-- the error's line
abbrev pub error_line : ReadError → List ℕ
error_line error = codes "error: " ++ (error_message error ++ 10 ∷ [])

-- the text is UTF-8, and this is said of the first reason why it is rejected
pub record IsSaidOfFirst {X : Type 0} (of_reason : Rejection MetricType → X) (text : List ℕ) (said : X) : Type 0 where
  pub utf8 : IsUtf8 text
  pub reason : Rejection MetricType
  pub first : IsFirstRejectionCvss text reason
  pub is : said ≡ of_reason reason

-- this is said of bytes that are not UTF-8, and of the first reason why a text is rejected
abbrev pub IsSaidOf : {X : Type 0} → (Rejection MetricType → X) → X → List ℕ → X → Type 0
IsSaidOf of_reason of_no_text bytes said =
    (¬ (IsUtf8 bytes) × (said ≡ of_no_text)) ⊎ IsSaidOfFirst of_reason bytes said

-- why the bytes are the text of no vector
abbrev pub IsReason : List ℕ → List ℕ → Type 0
IsReason bytes reason = IsSaidOf reason_text not_utf8_text bytes reason

-- the word error, and the reason
pub record IsErrorAnswer (bytes answer : List ℕ) : Type 0 where
  pub reason : List ℕ
  pub is_reason : IsReason bytes reason
  pub is : answer ≡ codes "error: " ++ reason
