-- Why bytes are the text of no vector: they are no text, or the text is rejected.
use Rattle.std.specs.Prelude.{ℕ, List, codes}
use Rattle.std.specs.Str.{IsUtf8}
use Rattle.cvss_base.specs.ErrorText.{error_text}
use Rattle.cvss_base.specs.Rejection.{Rejection}
use Rattle.cvss_base.specs.Reported.{Reports, ReportsFirst}
use Rattle.cvss_vector.specs.Dispatch.{IsFirstRejectionCvss, cvss_reason}
use Rattle.cvss_vector.specs.declared.bytes_error.BytesError.{BytesError}
use Rattle.cvss_vector.specs.declared.bytes_error.BytesError.TheVariants.{NotUtf8, Invalid}
use Rattle.cvss_vector.specs.declared.metric_type.MetricType.{MetricType}

-- what the error says is so: the bytes are not UTF-8, or they are and the error says the first reason
abbrev pub ReportsWhyNot : List ℕ → BytesError → Type 0
ReportsWhyNot bytes NotUtf8 = ¬ (IsUtf8 bytes)
ReportsWhyNot bytes (Invalid error) = IsUtf8 bytes × ReportsFirst cvss_reason (IsFirstRejectionCvss bytes) error

-- the error says that the bytes are not UTF-8, or that they are, and that this is the reason
abbrev pub IsRejectedAs : List ℕ → Rejection MetricType → BytesError → Type 0
IsRejectedAs bytes reason NotUtf8 = ¬ (IsUtf8 bytes)
IsRejectedAs bytes reason (Invalid error) = IsUtf8 bytes × Reports cvss_reason reason error

-- the error's text
abbrev pub bytes_error_text : BytesError → List ℕ
bytes_error_text NotUtf8 = codes "not UTF-8"
bytes_error_text (Invalid error) = error_text error
