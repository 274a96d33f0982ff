-- What equality of the errors of triage means: that of what they say.
use Rattle.std.specs.Prelude.{◌≡◌, ⊤}
use Rattle.cvss_laws.specs.base.Errors as same
use Rattle.cvss_vector.specs.declared.v4.triage.error.TriageError.{TriageError}
use Rattle.cvss_vector.specs.declared.v4.triage.error.TriageError.TheVariants.{Override, NotEnvironmental, Text, OutOfMemory}

-- two errors are of one kind, at one place, and their reasons say the same
abbrev pub ReportTheSame : TriageError → TriageError → Type 0
ReportTheSame (Override x e) (Override y f) = (x ≡ y) × same.ReportTheSame e f
ReportTheSame (NotEnvironmental x) (NotEnvironmental y) = x ≡ y
ReportTheSame (Text x e) (Text y f) = (x ≡ y) × same.ReportTheSame e f
ReportTheSame OutOfMemory OutOfMemory = ⊤
ReportTheSame _ _ = ⊥
