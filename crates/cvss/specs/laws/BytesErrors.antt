-- What equality of errors of bytes means: that of what they say.
use Rattle.std.specs.Prelude.{⊤}
use Rattle.cvss_laws.specs.base.Errors as base
use Rattle.cvss_vector.specs.declared.bytes_error.BytesError.{BytesError}
use Rattle.cvss_vector.specs.declared.bytes_error.BytesError.TheVariants.{NotUtf8, Invalid}

-- both are that the bytes are no text, or both reasons say the same
abbrev pub ReportTheSame : BytesError → BytesError → Type 0
ReportTheSame NotUtf8 NotUtf8 = ⊤
ReportTheSame (Invalid x) (Invalid y) = base.ReportTheSame x y
ReportTheSame _ _ = ⊥
