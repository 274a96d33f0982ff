-- What equality of errors of JSON texts means: that of what they say.
use Rattle.std.specs.Prelude.{⊤}
use Rattle.cvss_laws.specs.base.Errors as base
use Rattle.cvss.specs.declared.json.JsonError.{JsonError}
use Rattle.cvss.specs.declared.json.JsonError.TheVariants.{NotAString, Invalid, OutOfMemory}

-- two errors are of one kind, and their reasons say the same
abbrev pub ReportTheSame : JsonError → JsonError → Type 0
ReportTheSame NotAString NotAString = ⊤
ReportTheSame (Invalid x) (Invalid y) = base.ReportTheSame x y
ReportTheSame OutOfMemory OutOfMemory = ⊤
ReportTheSame _ _ = ⊥
