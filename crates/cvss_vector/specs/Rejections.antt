-- Why bytes are the text of no vector, as the code reports it without copying.
use Rattle.std.specs.Prelude.{◌≡◌, ℕ, List}
use Rattle.std.specs.Str.{IsUtf8}
use Rattle.cvss_base.specs.Rejection as spec
use Rattle.cvss_vector.specs.Dispatch.{IsFirstRejectionCvss}
use Rattle.cvss_vector.specs.Segments.{segment_text}
use Rattle.cvss_vector.specs.declared.metric_type.MetricType.{MetricType}
use Rattle.cvss_vector.specs.declared.rejection.Rejection.{Rejection}
use Rattle.cvss_vector.specs.declared.rejection.Rejection.TheVariants.{BadComponent, WrongPrefix, WrongVersion, UnknownName, BadValue, Repeated, Missing}
use Rattle.cvss_vector.specs.declared.rejection.ReadError.{ReadError}
use Rattle.cvss_vector.specs.declared.rejection.ReadError.TheVariants.{NotUtf8, Invalid}

-- the reason, as its definition has it
abbrev pub rejection_of : Rejection → spec.Rejection MetricType
rejection_of (BadComponent component) = spec.BadComponent (segment_text component)
rejection_of (WrongPrefix prefix) = spec.WrongPrefix (segment_text prefix)
rejection_of (WrongVersion version) = spec.WrongVersion (segment_text version)
rejection_of (UnknownName name) = spec.UnknownName (segment_text name)
rejection_of (BadValue metric value) = spec.BadValue metric (segment_text value)
rejection_of (Repeated metric) = spec.Repeated metric
rejection_of (Missing metric) = spec.Missing metric

-- the error is right: the bytes are not UTF-8, or they are and this is the first reason
abbrev pub IsReadError : List ℕ → ReadError → Type 0
IsReadError bytes NotUtf8 = ¬ (IsUtf8 bytes)
IsReadError bytes (Invalid rejection) = IsUtf8 bytes × IsFirstRejectionCvss bytes (rejection_of rejection)

-- the error says that the bytes are not UTF-8, or that they are, and that this is the reason
abbrev pub IsReadErrorFor : List ℕ → spec.Rejection MetricType → ReadError → Type 0
IsReadErrorFor bytes reason NotUtf8 = ¬ (IsUtf8 bytes)
IsReadErrorFor bytes reason (Invalid rejection) = IsUtf8 bytes × (rejection_of rejection ≡ reason)
