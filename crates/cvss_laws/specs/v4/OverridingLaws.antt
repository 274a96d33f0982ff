-- When two errors of overrides say the same.
use Rattle.std.specs.Prelude.{◌≡◌}
use Rattle.cvss_laws.specs.base.Errors.{ReportTheSame}
use Rattle.cvss_vector.specs.declared.v4.vector.overriding.OverrideError.{OverrideError}
use Rattle.cvss_vector.specs.declared.v4.vector.overriding.OverrideError.TheVariants.{NotEnvironmental, Rejected}

-- two errors are of one kind and at one place, and say the same of the text there
abbrev pub AreAlike : OverrideError → OverrideError → Type 0
AreAlike (NotEnvironmental index) (NotEnvironmental other) = index ≡ other
AreAlike (Rejected index error) (Rejected other reported) = (index ≡ other) × ReportTheSame error reported
AreAlike _ _ = ⊥
